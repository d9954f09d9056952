-- `shared_calls::with_allocator` meets its contract: what `sharing::with_allocator` ensures is what the list has.
-- Assumes nothing.
use Rattle.shared_calls.proofs.Laws.{opens}
use Rattle.shared_calls.proofs.with_allocator.Goals as goal

pub returns : goal.returns
returns c =
    let a = c.args in
    let made = c.with_allocator.ensures in
    opens a.width a.quota _ a.allocator.now a.slots.now a.uses.now _ _ made.answers made.leaves made.leaves-too
