-- `calls::set_tickets` meets its contract: what `tickets::set_tickets` ensures is what the list has.
-- Assumes nothing.
use Rattle.calls.proofs.Laws.{ticketed}
use Rattle.calls.proofs.set_tickets.Goals as goal

pub returns : goal.returns
returns c =
    let a = c.args in
    let made = c.set_tickets.ensures in
    ticketed a.rel.now a.slots.now a.text.now _ _ made.answer made.slots
