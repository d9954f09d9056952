-- `powers::times_power` meets its contract: by halves of the exponent, which is the measure. Assumes nothing.
use Rattle.powers.proofs.Halves.{times_none, times-even, times-odd}
use Rattle.powers.proofs.+times_power.Goals as goal

pub returns-then-e-eq0 : goal.returns-then-e-eq0
returns-then-e-eq0 t c = times_none _ _ _ _ c.if-e-eq0.true c.mul_unit.ensures

pub returns-then-e-eq0-2 : goal.returns-then-e-eq0-2
returns-then-e-eq0-2 t c = times-even _ _ _ _ _ c.if-e-eq0-2.true c.mul_unit-square.ensures c.times_power.ensures

pub returns : goal.returns
returns t c = times-odd _ _ _ _ _ _ c.if-e-eq0-2.false c.mul_unit-square.ensures c.mul_unit-2.ensures c.times_power-2.ensures
