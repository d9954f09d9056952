-- `validity::fits` meets its contract: the two cases of a word. Assumes nothing.
use Rattle.validity.proofs.Scratch.{fits-none, fits-some}
use Rattle.validity.proofs.fits.Goals as goal

pub returns-then-m-eq0 : goal.returns-then-m-eq0
returns-then-m-eq0 c = fits-none _ _ c.if-m-eq0.true

pub returns : goal.returns
returns c = fits-some _ _ c.if-m-eq0.false
