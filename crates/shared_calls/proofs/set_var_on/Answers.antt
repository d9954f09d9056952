-- `shared_calls::set_var_on` meets its contract: what `shared_vars::set_var_on` ensures is what the list has.
-- Assumes nothing.
use Rattle.allocator.specs.Slots.{pair}
use Rattle.shared_calls.proofs.Laws.{set_is}
use Rattle.shared_calls.proofs.set_var_on.Goals as goal

pub returns : goal.returns
returns c =
    let a = c.args in
    let made = c.set_var_on.ensures in
    set_is a.allocator.now a.index a.rel.now a.slots.now (pair a.var.0 a.value.0) _ _ made.answers made.leaves
