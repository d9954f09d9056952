-- `calls::set_var` meets its contract: what `permutation::set_var` ensures is what the list has.
-- Assumes nothing.
use Rattle.allocator.specs.Slots.{pair}
use Rattle.calls.proofs.Laws.{set}
use Rattle.calls.proofs.set_var.Goals as goal

pub returns : goal.returns
returns c =
    let a = c.args in
    let made = c.set_var.ensures in
    set a.rel.now a.slots.now (pair a.var.0 a.value.0) _ _ made.answer made.slots
