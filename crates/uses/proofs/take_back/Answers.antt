-- `take_back` meets its contract: moving the other way has room for every cell that was moved, so all are moved back.
-- Assumes nothing.
use Rattle.uses.proofs.Room.{takes_back}
use Rattle.uses.proofs.take_back.Goals as goal

pub returns : goal.returns
returns c = let a = c.args in takes_back a.strike a.end a.uses.now a.cells.now c.move_cells.result.n _ c.move_cells.ensures.0
