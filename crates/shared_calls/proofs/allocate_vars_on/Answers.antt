-- `shared_calls::allocate_vars_on` meets its contract: what `shared_vars::allocate_vars_on` ensures is what the list has.
-- Assumes nothing.
use Rattle.shared_calls.proofs.Laws.{allocated}
use Rattle.shared_calls.proofs.allocate_vars_on.Goals as goal

pub returns : goal.returns
returns c =
    let a = c.args in
    let made = c.allocate_vars_on.ensures in
    allocated a.allocator.now a.index a.rel.now a.slots.now a.n _ _ made.answers made.leaves
