-- `inverse::rounds::sub_units` meets its contract: p more than the difference where that is below 0. Assumes nothing.
use native.Mathlib.Omega.{arith}
use Rattle.baby_bear.specs.Field.{add_unit, mul_unit}
use Rattle.inverse.specs.Inverse.{sub_unit}
use Rattle.inverse.proofs.rounds.sub_units.Goals as goal

pub returns-then-a-b : goal.returns-then-a-b
unfolding sub_unit add_unit mul_unit
returns-then-a-b c = omega arith

pub returns-else-a-b : goal.returns-else-a-b
unfolding sub_unit add_unit mul_unit
returns-else-a-b c = omega arith
