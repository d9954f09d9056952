-- `last_value` meets its contract: what is left of the pairs has the value of all of them.
-- Assumes nothing.
use Rattle.instance.proofs.Looks.{value_of, value_none, value_found, value-earlier}
use Rattle.instance.proofs.last_value.Goals as goal

pub returns-then-publics-i : goal.returns-then-publics-i
unfolding value_of
returns-then-publics-i c =
    let l = c.loop-i in
    let a = c.args in
    value_found l.i a.publics.now a.x _ l.invariant c.loop-i-test.true c.if-publics-i.true

pub loop-i-preserved : goal.loop-i-preserved
loop-i-preserved c =
    let l = c.loop-i in
    let a = c.args in
    value-earlier l.i a.publics.now a.x _ l.invariant c.loop-i-test.true c.if-publics-i.false

pub returns : goal.returns
unfolding value_of
returns c =
    let l = c.loop-i in
    let a = c.args in
    value_none l.i a.publics.now a.x _ l.invariant c.loop-i-test.false
