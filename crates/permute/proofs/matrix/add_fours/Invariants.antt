use Prim.Native.Nat.{◌*◌, ◌%◌}
use mathlib.Core.Path.{◌≡◌}
use Rattle.permute.specs.Walks.{Summing}
use Rattle.permute.proofs.matrix.add_fours.Given as goal

abbrev pub invariant-loop-j : goal.invariant-loop-j
invariant-loop-j l = Summing l.columns l.x l.w l.low l.high l.j (l.j * l.w) × (l.j % 4 ≡ 0)
