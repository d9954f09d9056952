use Rattle.inverse.proofs.Walk.{Rows}
use Rattle.inverse.proofs.rounds.times_rows.Given as goal

abbrev pub invariant-loop-i : goal.invariant-loop-i
invariant-loop-i l = Rows l.matrix l.x l.out l.i
