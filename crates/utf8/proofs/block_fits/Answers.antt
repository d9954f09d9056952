-- `utf8::block_fits` meets its contract: where all bytes so far fit, so do those that were asked. Assumes nothing.
use mathlib.Core.Path.{sym, ◌∙◌}
use native.Mathlib.Omega.{arith}
use Rattle.utf8.proofs.Scan.{each-so-far, fits_at-deep}
use Rattle.utf8.proofs.block_fits.Goals as goal

pub loop-i-preserved : goal.loop-i-preserved
loop-i-preserved c =
    let l = c.loop-i in
    each-so-far _ _ _ _ (omega arith) l.all _ l.invariant (λ e. sym (fits_at-deep c.args.bytes.now l.i (omega arith)) ∙ sym c.fits-all.ensures ∙ e)
