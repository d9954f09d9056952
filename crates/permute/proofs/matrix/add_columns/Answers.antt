-- `permute::matrix::add_columns` meets its contract. The invariant is `Adding`: the sums before i have grown by
-- what the columns have there. Assumes nothing.
use Rattle.permute.proofs.Columns.{adding-turn, adding-done}
use Rattle.permute.proofs.matrix.add_columns.Goals as goal

pub loop-i-preserved : goal.loop-i-preserved
loop-i-preserved c =
    adding-turn c.loop-i.invariant c.requires.1 c.loop-i-test.true _ c.four-u.ensures

pub returns : goal.returns
returns c = adding-done c.loop-i.invariant c.loop-i-test.false
