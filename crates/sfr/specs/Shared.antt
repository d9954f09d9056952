-- The answers of calls on a relation that shares its wires as structs for C: the documents' number, the values of each
-- case, and both records. Assumes nothing.
use Rattle.limits.specs.Outcome.{outcome_number}
use Rattle.permutation.specs.Answers.{first_number, first_var}
use Rattle.sharing.specs.declared.VarAllocator.{VarAllocator}
use Rattle.sharing.specs.Records.{Opened, AllocatedOn, RecordedOn}
use Rattle.sfr.specs.declared.shared.SfrSharedAnswer.{SfrSharedAnswer}

-- an opening: its number, the relation's number, or 0 after a refusal, and the records
abbrev pub opened_answer : Opened → SfrSharedAnswer
opened_answer o =
    record { number = outcome_number o.outcome; first = o.index; allocator = o.allocator; relation = o.relation }

-- an allocation: its number, the first new wire, and the records
abbrev pub allocated_on_answer : AllocatedOn → SfrSharedAnswer
allocated_on_answer r =
    record {
      number = first_number r.first;
      first = first_var r.first;
      allocator = r.allocator;
      relation = r.relation;
    }

-- a call that records: its number, the allocator as it was given, and the relation's record
abbrev pub recorded_on_answer : VarAllocator → RecordedOn → SfrSharedAnswer
recorded_on_answer a r = record { number = outcome_number r.outcome; first = 0; allocator = a; relation = r.relation }
