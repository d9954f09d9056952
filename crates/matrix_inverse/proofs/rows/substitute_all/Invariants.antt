use lib.ListN.{length}
use Rattle.matrix_inverse.specs.Rows.{substitute}
use Rattle.matrix_inverse.proofs.Walks.{Turning}
use Rattle.matrix_inverse.proofs.rows.substitute_all.Given as goal

abbrev pub invariant-loop-i : goal.invariant-loop-i
invariant-loop-i l = Turning (substitute l.c l.s) (length l.s) l.n l.initial.rows l.rows l.i
