-- `calls::withdraw_equation` meets its contract: what `withdraw::withdraw_equation` ensures is what the list has.
-- Assumes nothing.
use Rattle.calls.proofs.Laws.{equation-withdrawn}
use Rattle.calls.proofs.withdraw_equation.Goals as goal

pub returns : goal.returns
returns c =
    let a = c.args in
    let made = c.withdraw_equation.ensures in
    equation-withdrawn a.rel.now a.equations.now a.i _ _ made.answer made.equations
