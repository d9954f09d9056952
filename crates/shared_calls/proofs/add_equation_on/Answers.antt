-- `shared_calls::add_equation_on` meets its contract: what `shared_recording::add_equation_on` ensures is what the list has.
-- Assumes nothing.
use Rattle.shared_calls.proofs.Laws.{equated}
use Rattle.shared_calls.proofs.add_equation_on.Goals as goal

pub returns : goal.returns
returns c =
    let a = c.args in
    let made = c.add_equation_on.ensures in
    equated a.allocator.now a.index a.rel.now a.equations.now a.terms.now a.image.0 _ _ made.answers made.leaves
