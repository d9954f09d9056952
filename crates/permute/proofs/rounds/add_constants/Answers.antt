-- `permute::rounds::add_constants` meets its contract. The invariant: the sums written and those left make
-- the whole. Assumes nothing.
use mathlib.Core.Path.{◌∙◌}
use native.Mathlib.Omega.{arith}
use Rattle.baby_bear.proofs.Units.{units-at}
use Rattle.permute.proofs.Mix.{pairwise-turn, pairwise-done}
use Rattle.permute.proofs.rounds.add_constants.Goals as goal

pub add_units-requires : goal.add_units-requires
add_units-requires c =
    let i = c.loop-i.i in
    (units-at _ c.requires.units i, units-at _ c.requires.constant-units i)

pub loop-i-preserved : goal.loop-i-preserved
loop-i-preserved c =
    let l = c.loop-i in
    let p = c.requires in
    pairwise-turn _ _ _ _ _ l.invariant (l.auto.out ∙ p.room) _ (omega arith) p.constants-long c.add_units.ensures

pub returns : goal.returns
returns c =
    let l = c.loop-i in
    pairwise-done _ _ _ _ _ l.invariant (l.auto.out ∙ c.requires.room) (omega arith)
