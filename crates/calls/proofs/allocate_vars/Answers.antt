-- `calls::allocate_vars` meets its contract: what `permutation::allocate_vars` ensures is what the list has.
-- Assumes nothing.
use Rattle.calls.proofs.Laws.{allocated}
use Rattle.calls.proofs.allocate_vars.Goals as goal

pub returns : goal.returns
returns c =
    let a = c.args in
    let made = c.allocate_vars.ensures in
    allocated a.rel.now a.slots.now a.n _ _ made.answer made.slots
