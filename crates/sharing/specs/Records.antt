-- Answers and records side by side, as the calls of a relation on an allocator give them. Assumes nothing.
use Rattle.std.specs.Prelude.{ℕ}
use Rattle.limits.specs.Outcome.{Outcome}
use Rattle.permutation.specs.Records.{First}
use Rattle.sharing.specs.declared.VarAllocator.{VarAllocator}
use Rattle.sharing.specs.declared.SharedRelation.{SharedRelation}

-- an opening's answer: the relation's number, with the records
pub record Opened : Type 0 where
  pub outcome : Outcome
  pub index : ℕ
  pub allocator : VarAllocator
  pub relation : SharedRelation

-- the first new wire with the records beside it
pub record AllocatedOn : Type 0 where
  pub first : First
  pub allocator : VarAllocator
  pub relation : SharedRelation

-- the outcome with the relation's record beside it
pub record RecordedOn : Type 0 where
  pub outcome : Outcome
  pub relation : SharedRelation

-- of a call that allocates: its answer, and the records afterwards
abbrev pub first_on : First → VarAllocator → SharedRelation → AllocatedOn
first_on first a m = record { first = first; allocator = a; relation = m }

-- of a call that records
abbrev pub outcome_on : Outcome → SharedRelation → RecordedOn
outcome_on outcome m = record { outcome = outcome; relation = m }
