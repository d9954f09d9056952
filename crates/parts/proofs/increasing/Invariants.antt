use Prim.Native.Nat.{◌+◌, ◌-◌, ◌*◌}
use mathlib.Core.Path.{◌≡◌}
use lib.ListN.{drop}
use Rattle.instance.specs.Parts.{pairs_at}
use Rattle.parts.specs.Read.{increasing}
use Rattle.parts.proofs.increasing.Given as goal

abbrev pub invariant-loop-i : goal.invariant-loop-i
invariant-loop-i l = increasing (pairs_at (l.n + 1 - l.i) (drop (2 * l.i - 2) l.publics)) ≡ increasing (pairs_at l.n l.publics)
