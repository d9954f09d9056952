-- `inverse::rounds::sub_constants` meets its contract. The invariant: the differences written and those left
-- make the whole. Assumes nothing.
use mathlib.Core.Path.{◌∙◌}
use native.Mathlib.Omega.{arith}
use Rattle.baby_bear.proofs.Units.{units-at}
use Rattle.permute.proofs.Mix.{pairwise-turn, pairwise-done}
use Rattle.inverse.proofs.rounds.sub_constants.Goals as goal

pub sub_units-requires : goal.sub_units-requires
sub_units-requires c =
    let p = c.requires in
    (units-at c.args.x.now p.units c.loop-i.i, units-at c.args.constants.now p.constant-units c.loop-i.i)

pub loop-i-preserved : goal.loop-i-preserved
loop-i-preserved c =
    let l = c.loop-i in
    let p = c.requires in
    pairwise-turn _ _ _ l.out l.i l.invariant (l.auto.out ∙ p.room) _ (omega (arith, p.room)) p.constants-long c.sub_units.ensures

pub returns : goal.returns
returns c =
    let l = c.loop-i in
    let p = c.requires in
    pairwise-done _ _ _ _ _ l.invariant (l.auto.out ∙ p.room) (omega (arith, p.room))
