-- `calls::add_permutation` meets its contract: what `recording::add_permutation` ensures is what the list has.
-- Assumes nothing.
use Rattle.calls.proofs.Laws.{recorded}
use Rattle.calls.proofs.add_permutation.Goals as goal

pub returns : goal.returns
returns c =
    let a = c.args in
    let made = c.add_permutation.ensures in
    recorded a.rel.now a.slots.now a.queries.now a.uses.now a.input.now a.output.now _ _ _ made.answer made.queries made.uses
