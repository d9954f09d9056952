-- `calls::set_vars` meets its contract: what `permutation::set_vars` ensures is what the list has.
-- Assumes nothing.
use Rattle.calls.proofs.Laws.{listed}
use Rattle.calls.proofs.set_vars.Goals as goal

pub returns : goal.returns
returns c =
    let a = c.args in
    let made = c.set_vars.ensures in
    listed a.rel.now a.slots.now a.vars.now a.values.now _ _ made.answer made.slots
