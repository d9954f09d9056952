use Rattle.permute.proofs.Columns.{Putting}
use Rattle.permute.proofs.matrix.put_column.Given as goal

abbrev pub invariant-loop-i : goal.invariant-loop-i
invariant-loop-i l = Putting l.matrix l.w l.k l.word-items l.i
