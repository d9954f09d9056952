-- `utf8::blocks_end` meets its contract: bytes below 80 fit where no byte is due, and other blocks are asked. Assumes nothing.
use mathlib.Core.Path.{sym, ◌∙◌}
use mathlib.Core.Bool.{and-eq-true_iff}
use native.Mathlib.Omega.{arith}
use Rattle.utf8.proofs.Scan.{each-join, ascii-fit}
use Rattle.utf8.proofs.blocks_end.Goals as goal

pub loop-i-preserved-then-ascii-whole_at : goal.loop-i-preserved-then-ascii-whole_at
loop-i-preserved-then-ascii-whole_at c =
    let s = c.args.bytes.now in
    let l = c.loop-i in
    let b = (and-eq-true_iff _ _).0 c.if-ascii-whole_at.true in
    let end = c.ascii_end-i.ensures in
    let below = each-join _ _ _ _ (c.ascii.ensures b.0) end.2 in (
      omega (arith, end.0),
      end.1,
      each-join _ _ _ _ l.invariant.2 (ascii-fit s l.i _ (sym c.whole_at.ensures ∙ b.1) below),
    )

pub loop-i-preserved : goal.loop-i-preserved
loop-i-preserved c =
    let l = c.loop-i in
    (omega arith, omega arith, each-join _ _ _ _ l.invariant.2 (c.block_fits.ensures c.if-not-block_fits.false))
