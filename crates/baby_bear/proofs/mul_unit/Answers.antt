-- `baby_bear::mul_unit` meets its contract: the product of two u32 fits a u64.
-- Assumes nothing.
use mathlib.Core.Path.{refl}
use borrow.Author.Rules.{rules}
use Rattle.baby_bear.specs.Field.{mul_unit}
use Rattle.limits.proofs.Product.{below}
use Rattle.baby_bear.proofs.mul_unit.Goals as goal

pub overflow_mul-result : goal.overflow_mul-result
overflow_mul-result c = record { fits = below 32 (search rules) (search rules) }

pub returns : goal.returns
unfolding mul_unit
returns c = refl
