use Rattle.matrix_inverse.proofs.Walks.{Seeking}
use Rattle.matrix_inverse.proofs.elimination.pivot.Given as goal

abbrev pub invariant-loop-i : goal.invariant-loop-i
invariant-loop-i l = Seeking l.w l.c l.matrix l.i
