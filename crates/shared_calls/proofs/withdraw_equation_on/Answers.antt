-- `shared_calls::withdraw_equation_on` meets its contract: what `shared_withdraw::withdraw_equation_on` ensures is what the
-- list has. Assumes nothing.
use Rattle.shared_calls.proofs.Laws.{equation-withdrawn}
use Rattle.shared_calls.proofs.withdraw_equation_on.Goals as goal

pub returns : goal.returns
returns c =
    let a = c.args in
    let made = c.withdraw_equation_on.ensures in
    equation-withdrawn a.allocator.now a.index a.rel.now a.equations.now a.i _ _ made.answers made.leaves
