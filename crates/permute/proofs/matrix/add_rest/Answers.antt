-- `permute::matrix::add_rest` meets its contract. The invariant is `Summing`: the sums and the columns that are
-- left make the whole, and the sums fit. Assumes nothing.
use Rattle.permute.proofs.Columns.{sums-asked, one-asked, one-turn, summing-at, summing-done}
use Rattle.permute.proofs.matrix.add_rest.Goals as goal

pub add_columns-requires : goal.add_columns-requires
add_columns-requires c =
    let p = c.requires.0 in
    (one-asked p c.loop-j.invariant c.loop-j-test.true, sums-asked p c.loop-j.invariant)

pub loop-j-preserved : goal.loop-j-preserved
loop-j-preserved c =
    let p = c.requires.0 in
    let d = c.add_columns in
    summing-at p (one-turn p c.loop-j.invariant c.loop-j-test.true d.auto.low d.auto.high d.ensures)

pub returns : goal.returns
returns c = summing-done c.requires.0 c.loop-j.invariant c.loop-j-test.false
