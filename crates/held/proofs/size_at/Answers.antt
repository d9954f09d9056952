-- `size_at` meets its contract: the size goes by the word at the place.
-- Assumes nothing.
use Rattle.expr.specs.Equation.{size_at}
use Rattle.instance.proofs.Pairs.{at_first}
use Rattle.held.proofs.size_at.Goals as goal

pub returns : goal.returns
unfolding size_at
returns c =
    let a = c.args in
    rw (c.word_at.ensures, at_first a.s.now a.at)
