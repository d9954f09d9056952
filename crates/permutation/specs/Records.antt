-- Answers and records side by side, as the calls on a relation give them. Assumes nothing.
use Rattle.std.specs.Prelude.{ℕ, Bool, Result, Ok, Err}
use Rattle.limits.specs.Outcome.{Outcome}
use Rattle.limits.specs.declared.Refused.{Refused}
use Rattle.permutation.specs.declared.PermutationRelation.{PermutationRelation}

-- what an allocation answers: the first new wire
abbrev pub First : Type 0
First = Result ℕ Refused

-- what a look answers whether a wire is allocated
abbrev pub IsAllocated : Type 0
IsAllocated = Result Bool Refused

-- an outcome with the record beside it
pub record Recorded : Type 0 where
  pub outcome : Outcome
  pub relation : PermutationRelation

-- the first new wire with the record beside it
pub record Allocated : Type 0 where
  pub first : First
  pub relation : PermutationRelation

-- the record of these counts
abbrev pub relation : (width vars queries equations words stray : ℕ) → PermutationRelation
relation width vars queries equations words stray =
    record { width = width; vars = vars; queries = queries; equations = equations; words = words; stray = stray }

-- of a call that records in a relation: its answer, and the record afterwards
abbrev pub recorded : Outcome → PermutationRelation → Recorded
recorded outcome rel = record { outcome = outcome; relation = rel }

-- of a call that allocates
abbrev pub allocated : First → PermutationRelation → Allocated
allocated first rel = record { first = first; relation = rel }

-- of a call that makes a relation: where it refuses, a record of zeros
abbrev pub made : Result PermutationRelation Refused → Recorded
made (Ok rel) = recorded (Ok tt) rel
made (Err e) = recorded (Err e) (relation 0 0 0 0 0 0)
