-- `validity::plus` meets its contract: the product of two units is below p·p, so at most one p·p is taken off.
-- Assumes nothing.
use Rattle.validity.proofs.Reduced.{plus-fits, plus-kept, plus-less}
use Rattle.validity.proofs.plus.Goals as goal

pub overflow_mul-s : goal.overflow_mul-s
overflow_mul-s c = record { fits = (plus-fits _ _ _ c.requires.0 c.requires.1 c.requires.2).0 }

pub overflow_add-s : goal.overflow_add-s
overflow_add-s c = record { fits = (plus-fits _ _ _ c.requires.0 c.requires.1 c.requires.2).1 }

pub returns-then-s-ge-P_SQUARED : goal.returns-then-s-ge-P_SQUARED
returns-then-s-ge-P_SQUARED c =
    let p = c.requires in
    plus-less _ _ _ p.0 p.1 p.2 c.if-s-ge-P_SQUARED.true

pub returns-else-s-ge-P_SQUARED : goal.returns-else-s-ge-P_SQUARED
returns-else-s-ge-P_SQUARED c = let a = c.args in plus-kept a.sum a.weight a.unit c.if-s-ge-P_SQUARED.false
