-- `validity::put_cells` meets its contract: the cells that are left, put to the words as they are, come to
-- the whole.
-- Assumes nothing.
use mathlib.Core.Path.{sym, ◌∙◌}
use native.Mathlib.Omega.{arith}
use Rattle.validity.proofs.Cells.{cell_below, cells-36, cells-33, cells-turn}
use Rattle.validity.proofs.put_cells.Goals as goal

pub returns-then-scratch-x : goal.returns-then-scratch-x
returns-then-scratch-x c = cells-36 c.loop-i.invariant (omega arith) c.if-scratch-x.true

pub returns-then-not-fits : goal.returns-then-not-fits
returns-then-not-fits c = cells-33 c.loop-i.invariant (omega arith) c.if-scratch-x.false (sym c.fits.ensures ∙ c.if-not-fits.true)

pub overflow_add-scratch : goal.overflow_add-scratch
overflow_add-scratch c = omega (arith, cell_below c.loop-i.invariant)

pub loop-i-preserved : goal.loop-i-preserved
loop-i-preserved c = cells-turn c.loop-i.invariant (omega arith) c.if-scratch-x.false (sym c.fits.ensures ∙ c.if-not-fits.false)
