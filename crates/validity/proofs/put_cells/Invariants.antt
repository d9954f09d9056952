use Rattle.validity.proofs.Cells.{CellsLeft}
use Rattle.validity.proofs.put_cells.Given as goal

abbrev pub invariant-loop-i : goal.invariant-loop-i
invariant-loop-i l = CellsLeft l.initial.scratch l.vars l.values l.scratch l.i
