-- `powers::power_unit` meets its contract. Assumes nothing.
use Rattle.powers.proofs.Halves.{one-times}
use Rattle.powers.proofs.power_unit.Goals as goal

pub returns : goal.returns
returns c = one-times _ _ _ c.times_power.ensures
