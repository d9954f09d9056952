-- `baby_bear::add_unit` meets its contract: the sum of two u32 fits a u64.
-- Assumes nothing.
use mathlib.Core.Path.{refl}
use Rattle.baby_bear.specs.Field.{add_unit}
use Rattle.baby_bear.proofs.add_unit.Goals as goal

pub returns : goal.returns
unfolding add_unit
returns c = refl
