use Prim.Native.Nat.{◌-◌}
use Rattle.matrix_inverse.proofs.elimination.+eliminate.Given as goal

abbrev pub decreases-eliminate : goal.decreases-eliminate
decreases-eliminate l = l.w - l.c
