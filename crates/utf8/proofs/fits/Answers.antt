-- `utf8::fits` meets its contract: both answers are asked, and `whole` says which counts. Assumes nothing.
use mathlib.Core.Path.{sym, ◌∙◌}
use Rattle.utf8.proofs.fits.Goals as goal

pub returns-then-whole : goal.returns-then-whole
returns-then-whole c = rw (sym c.whole.ensures ∙ c.if-whole.true)

pub returns-else-whole : goal.returns-else-whole
returns-else-whole c = rw (sym c.whole.ensures ∙ c.if-whole.false, c.tail_low.ensures, c.tail_high.ensures)
