-- `inverse::roots::lower` meets its contract: kind 0 lowers all elements, any other only the first. Assumes nothing.
use Rattle.inverse.proofs.Lanes.{lower-several, lower-first}
use Rattle.inverse.proofs.roots.lower.Goals as goal

pub returns-then-kind-x : goal.returns-then-kind-x
returns-then-kind-x c = lower-several _ _ _ c.if-kind-x.true c.lower_all.ensures

pub returns-else-kind-x : goal.returns-else-kind-x
returns-else-kind-x c = lower-first _ _ _ c.if-kind-x.false c.requires.0 c.power_unit.ensures
