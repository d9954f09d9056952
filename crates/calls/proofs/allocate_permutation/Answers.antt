-- `calls::allocate_permutation` meets its contract: what `recording::allocate_permutation` ensures is what the list has.
-- Assumes nothing.
use Rattle.calls.proofs.Laws.{minted}
use Rattle.calls.proofs.allocate_permutation.Goals as goal

pub returns : goal.returns
returns c =
    let a = c.args in
    let made = c.allocate_permutation.ensures in
    minted a.rel.now a.slots.now a.queries.now a.uses.now a.input.now _ _ _ _ made.answer made.slots made.queries made.uses
