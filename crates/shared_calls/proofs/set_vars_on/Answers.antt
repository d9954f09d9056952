-- `shared_calls::set_vars_on` meets its contract: what `shared_vars::set_vars_on` ensures is what the list has.
-- Assumes nothing.
use Rattle.shared_calls.proofs.Laws.{listed}
use Rattle.shared_calls.proofs.set_vars_on.Goals as goal

pub returns : goal.returns
returns c =
    let a = c.args in
    let made = c.set_vars_on.ensures in
    listed a.allocator.now a.index a.rel.now a.slots.now a.vars.now a.values.now _ _ made.answer made.slots
