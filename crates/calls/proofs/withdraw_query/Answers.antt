-- `calls::withdraw_query` meets its contract: what `withdraw::withdraw_query` ensures is what the list has.
-- Assumes nothing.
use Rattle.calls.proofs.Laws.{query-withdrawn}
use Rattle.calls.proofs.withdraw_query.Goals as goal

pub returns : goal.returns
returns c =
    let a = c.args in
    let made = c.withdraw_query.ensures in
    query-withdrawn a.rel.now a.slots.now a.queries.now a.uses.now a.i _ _ _ made.answer made.queries made.uses
