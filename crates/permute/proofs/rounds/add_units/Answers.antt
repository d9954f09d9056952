-- `permute::rounds::add_units` meets its contract: the sum of two units is below 2p.
-- Assumes nothing.
use native.Mathlib.Omega.{arith}
use Rattle.baby_bear.specs.Field.{add_unit}
use Rattle.permute.proofs.rounds.add_units.Goals as goal

pub returns-then-s-ge-P : goal.returns-then-s-ge-P
unfolding add_unit
returns-then-s-ge-P c = omega arith

pub returns-else-s-ge-P : goal.returns-else-s-ge-P
unfolding add_unit
returns-else-s-ge-P c = omega arith
