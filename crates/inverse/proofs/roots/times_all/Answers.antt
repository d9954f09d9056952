-- `inverse::roots::times_all` meets its contract. The invariant: the products and the elements left make the whole.
-- Assumes nothing.
use mathlib.Core.Path.{sym, ◌∙◌}
use native.Mathlib.Omega.{arith}
use Rattle.baby_bear.specs.Field.{mul_unit}
use Rattle.permute.proofs.Mix.{over-turn, over_done}
use Rattle.inverse.proofs.roots.times_all.Goals as goal

pub loop-i-preserved : goal.loop-i-preserved
loop-i-preserved c =
    let l = c.loop-i in
    over-turn mul_unit c.args.a.now c.args.by.now l.by l.i l.invariant _ (omega arith) (c.requires ∙ sym l.auto.by) c.mul_unit.ensures

pub returns : goal.returns
returns c = over_done mul_unit _ _ c.loop-i.by c.loop-i.i c.loop-i.invariant (omega arith)
