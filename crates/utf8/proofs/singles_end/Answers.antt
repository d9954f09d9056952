-- `utf8::singles_end` meets its contract: the three bytes before the place go along with it. Assumes nothing.
use mathlib.Core.Path.{sym, ◌∙◌}
use native.Mathlib.Omega.{arith}
use Rattle.utf8.proofs.Scan.{each_more, before-next, before-one}
use Rattle.utf8.proofs.singles_end.Goals as goal

pub loop-i-preserved : goal.loop-i-preserved
loop-i-preserved c =
    let s = c.args.bytes.now in
    let l = c.loop-i in
    let h = l.invariant in (
      h.1 ∙ sym (before-next s l.i 2),
      h.2 ∙ sym (before-next s l.i 1),
      sym (before-one s l.i),
      each_more _ _ _ _ (omega arith) h.3 (rw (h.0, h.1, h.2) at (sym c.fits.ensures ∙ c.if-not-fits.false)),
    )
