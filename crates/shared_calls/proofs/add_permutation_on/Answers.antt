-- `shared_calls::add_permutation_on` meets its contract: what `shared_recording::add_permutation_on` ensures is what the list has.
-- Assumes nothing.
use Rattle.shared_calls.proofs.Laws.{recorded}
use Rattle.shared_calls.proofs.add_permutation_on.Goals as goal

pub returns : goal.returns
returns c =
    let a = c.args in
    let made = c.add_permutation_on.ensures in
    recorded a.allocator.now a.index a.rel.now a.slots.now a.queries.now a.uses.now a.input.now a.output.now _ _ _
    made.answers made.leaves made.leaves-too
