-- `shared_calls::allocate_permutation_on` meets its contract: what `shared_recording::allocate_permutation_on` ensures is what the list has.
-- Assumes nothing.
use Rattle.shared_calls.proofs.Laws.{minted}
use Rattle.shared_calls.proofs.allocate_permutation_on.Goals as goal

pub returns : goal.returns
returns c =
    let a = c.args in
    let made = c.allocate_permutation_on.ensures in
    minted a.allocator.now a.index a.rel.now a.slots.now a.queries.now a.uses.now a.input.now _ _ _ _
    made.answers made.leaves made.leaves-too made.leaves_last
