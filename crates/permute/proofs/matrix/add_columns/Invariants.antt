use Rattle.permute.specs.Columns.{four}
use Rattle.permute.proofs.Columns.{Adding}
use Rattle.permute.proofs.matrix.add_columns.Given as goal

abbrev pub invariant-loop-i : goal.invariant-loop-i
invariant-loop-i l = Adding (four l.columns l.step l.a l.b l.c l.d) l.w l.initial.low l.initial.high l.low l.high l.i
