-- `calls::add_equation` meets its contract: what `recording::add_equation` ensures is what the list has.
-- Assumes nothing.
use Rattle.calls.proofs.Laws.{equated}
use Rattle.calls.proofs.add_equation.Goals as goal

pub returns : goal.returns
returns c =
    let a = c.args in
    let made = c.add_equation.ensures in
    equated a.rel.now a.equations.now a.terms.now a.image.0 _ _ made.answer made.equations
