use Prim.Native.Nat.{ℕ, ◌*◌, ◌-◌}
use mathlib.Core.Bool.{Bool}
use mathlib.Core.List.{List}
use lib.ListN.{drop}
use Rattle.instance.specs.Parts.{pair_vars, pairs_at}
use Rattle.validated.specs.Marks.{Marking}
use Rattle.validated.proofs.mark_publics.Given as goal

abbrev pub invariant-loop-i : goal.invariant-loop-i
invariant-loop-i l =
    (says : Bool) (end : List ℕ) → Marking l.vars (pair_vars (pairs_at (l.n - l.i) (drop (2 * l.i) l.s))) l.marks says end
    → Marking l.vars (pair_vars (pairs_at l.n l.s)) l.initial.marks says end
