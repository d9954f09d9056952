use Rattle.inverse.proofs.Walk.{RowSum}
use Rattle.inverse.proofs.rounds.times_row.Given as goal

abbrev pub invariant-loop-i : goal.invariant-loop-i
invariant-loop-i l = RowSum l.row l.x l.low l.high l.i
