-- `baby_bear::seventh` meets its contract: the square, its square, their product and the number itself.
-- Assumes nothing.
use Rattle.baby_bear.proofs.Ring.{seventh-squares}
use Rattle.baby_bear.proofs.seventh.Goals as goal

pub returns : goal.returns
returns c =
    seventh-squares _ _ _ _ _ c.mul_unit-square.ensures c.mul_unit-fourth.ensures c.mul_unit-sixth.ensures
    c.mul_unit.ensures
