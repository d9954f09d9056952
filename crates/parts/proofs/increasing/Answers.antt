-- `increasing` meets its contract: what is left of the pairs says the same as all of them.
-- Assumes nothing.
use native.Mathlib.Omega.{arith}
use Rattle.parts.proofs.Order.{order-none, order-no, order-more}
use Rattle.parts.proofs.increasing.Goals as goal

pub returns-then-publics-i : goal.returns-then-publics-i
returns-then-publics-i c =
    let l = c.loop-i in
    order-none c.args.publics.now c.args.n l.i _ l.invariant l.auto.i c.loop-i-test.true c.if-publics-i.true

pub returns-then-publics-i-2 : goal.returns-then-publics-i-2
returns-then-publics-i-2 c =
    let l = c.loop-i in
    order-no c.args.publics.now c.args.n l.i _ l.invariant l.auto.i c.loop-i-test.true c.if-publics-i-2.true

pub loop-i-preserved : goal.loop-i-preserved
loop-i-preserved c =
    let l = c.loop-i in
    order-more c.args.publics.now c.args.n l.i _ l.invariant l.auto.i c.loop-i-test.true (omega (arith, c.if-publics-i-2.false))
