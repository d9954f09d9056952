-- `shared_calls::set_tickets_on` meets its contract: what `shared_vars::set_tickets_on` ensures is what the list has.
-- Assumes nothing.
use Rattle.shared_calls.proofs.Laws.{ticketed}
use Rattle.shared_calls.proofs.set_tickets_on.Goals as goal

pub returns : goal.returns
returns c =
    let a = c.args in
    let made = c.set_tickets_on.ensures in
    ticketed a.allocator.now a.index a.rel.now a.slots.now a.text.now _ _ made.answer made.slots
