use Prim.Native.Nat.{ℕ}
use mathlib.Core.Bool.{Bool}
use mathlib.Core.List.{List}
use lib.ListN.{drop}
use Rattle.validated.specs.Marks.{Marking}
use Rattle.validated.proofs.mark_queries.Given as goal

abbrev pub invariant-loop-x : goal.invariant-loop-x
invariant-loop-x l =
    (says : Bool) (end : List ℕ) → Marking l.vars (drop l.x-index l.s) l.marks says end → Marking l.vars l.s l.initial.marks says end
