-- `calls::new_relation` meets its contract: what `permutation::new_relation` ensures is what the list has.
-- Assumes nothing.
use Rattle.calls.proofs.Laws.{started}
use Rattle.calls.proofs.new_relation.Goals as goal

pub returns : goal.returns
returns c =
    let a = c.args in
    let made = c.new_relation.ensures in
    started a.width a.slots.now a.uses.now _ _ _ made.answer made.slots made.uses
