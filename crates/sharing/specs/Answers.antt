-- What a call of a relation on an allocator answers and leaves, from what the same call on a relation alone does: a call
-- that the front of its questions lets through does that, with the records put back; else nothing. Assumes nothing.
use Rattle.limits.specs.Outcome.{refusal}
use Rattle.permutation.specs.Records.{First, Recorded, Allocated}
use Rattle.std.specs.Prelude.{ℕ, ◌≡◌, List, Err, Ok}
use Rattle.permutation.specs.declared.PermutationRelation.{PermutationRelation}
use Rattle.sharing.specs.declared.VarAllocator.{VarAllocator}
use Rattle.sharing.specs.declared.SharedRelation.{SharedRelation}
use Rattle.sharing.specs.Records.{AllocatedOn, RecordedOn}

-- ---- records put back
-- a relation's record after a call that came to this record and this many wires obtained
abbrev pub off_allocator : SharedRelation → PermutationRelation → ℕ → SharedRelation
off_allocator m rel obtained =
    record {
      width = rel.width;
      queries = rel.queries;
      equations = rel.equations;
      words = rel.words;
      stray = rel.stray;
      quota = m.quota;
      obtained = obtained;
    }

-- the allocator with another wire count
abbrev pub with_vars : VarAllocator → ℕ → VarAllocator
with_vars a vars = record { vars = vars; opened = a.opened }

-- ---- a call that asks for wires
-- what the relation obtained: `more` where wires were answered
abbrev pub obtained_after : First → (more obtained : ℕ) → ℕ
obtained_after (Ok x) more obtained = more
obtained_after (Err e) more obtained = obtained

-- let through: `more` is what the relation obtains with the wires asked for
abbrev pub allocated_on : VarAllocator → SharedRelation → Allocated → (more : ℕ) → AllocatedOn
allocated_on a m done more =
    record {
      first = done.first;
      allocator = with_vars a done.relation.vars;
      relation = off_allocator m done.relation (obtained_after done.first more m.obtained);
    }

-- refused at the front
abbrev pub allocated_not : VarAllocator → SharedRelation → ℕ → AllocatedOn
allocated_not a m k = record { first = Err (refusal k); allocator = a; relation = m }

-- ---- a call that records
-- let through
abbrev pub recorded_on : SharedRelation → Recorded → RecordedOn
recorded_on m done = record { outcome = done.outcome; relation = off_allocator m done.relation m.obtained }

-- refused at the front
abbrev pub recorded_not : SharedRelation → ℕ → RecordedOn
recorded_not m k = record { outcome = Err (refusal k); relation = m }

-- ---- contracts
-- what a call does that writes one store: its answer, told as the caller has it (`as_is` or, for C, as a struct), and the
-- words of the store after it
pub record Does {A B : Type 0} (told : B → A) (answer : B) (store : List ℕ) (r : A) (left : List ℕ) : Type 0 where
  pub answers : r ≡ told answer
  pub leaves : left ≡ store

-- one that writes two
pub record DoesBoth {A B : Type 0} (told : B → A) (answer : B) (one two : List ℕ) (r : A) (left right : List ℕ) : Type 0 where
  pub answers : r ≡ told answer
  pub leaves : left ≡ one
  pub leaves-too : right ≡ two

-- one that writes three
pub record DoesAll {A B : Type 0} (told : B → A) (answer : B) (one two three : List ℕ) (r : A) (left right last : List ℕ) : Type 0 where
  pub answers : r ≡ told answer
  pub leaves : left ≡ one
  pub leaves-too : right ≡ two
  pub leaves_last : last ≡ three
