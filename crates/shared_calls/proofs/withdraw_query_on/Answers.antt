-- `shared_calls::withdraw_query_on` meets its contract: what `shared_withdraw::withdraw_query_on` ensures is what the list has.
-- Assumes nothing.
use Rattle.shared_calls.proofs.Laws.{query-withdrawn}
use Rattle.shared_calls.proofs.withdraw_query_on.Goals as goal

pub returns : goal.returns
returns c =
    let a = c.args in
    let made = c.withdraw_query_on.ensures in
    query-withdrawn a.allocator.now a.index a.rel.now a.slots.now a.queries.now a.uses.now a.i _ _ _
    made.answers made.leaves made.leaves-too
