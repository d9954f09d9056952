use Rattle.permute.proofs.Columns.{Turning}
use Rattle.permute.proofs.matrix.turn_matrix.Given as goal

abbrev pub invariant-loop-k : goal.invariant-loop-k
invariant-loop-k l = Turning l.matrix l.w l.initial.columns l.columns l.k
