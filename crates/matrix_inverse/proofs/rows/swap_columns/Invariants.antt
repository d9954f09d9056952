use Rattle.matrix_inverse.specs.Inverse.{swap}
use Rattle.matrix_inverse.proofs.Walks.{Turning}
use Rattle.matrix_inverse.proofs.rows.swap_columns.Given as goal

abbrev pub invariant-loop-k : goal.invariant-loop-k
invariant-loop-k l = Turning (swap 0 l.c l.i) l.w l.w l.initial.matrix l.matrix l.k
