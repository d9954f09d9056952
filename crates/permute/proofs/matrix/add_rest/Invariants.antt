use Prim.Native.Nat.{◌*◌}
use Rattle.permute.specs.Walks.{Summing}
use Rattle.permute.proofs.matrix.add_rest.Given as goal

abbrev pub invariant-loop-j : goal.invariant-loop-j
invariant-loop-j l = Summing l.columns l.x l.w l.low l.high l.j (l.j * l.w)
