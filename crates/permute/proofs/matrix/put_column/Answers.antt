-- `permute::matrix::put_column` meets its contract. The invariant is `Putting`: the words put so far are the
-- column's. Assumes nothing.
use Rattle.permute.proofs.Columns.{putting-start, putting-turn, putting-done}
use Rattle.permute.proofs.matrix.put_column.Goals as goal

pub loop-i-init : goal.loop-i-init
loop-i-init c = putting-start c.requires

pub loop-i-preserved : goal.loop-i-preserved
loop-i-preserved c =
    let l = c.loop-i in
    putting-turn c.requires l.invariant l.auto.word-items c.loop-i-test.true _ c.from.ensures

pub returns : goal.returns
returns c = putting-done c.requires c.loop-i.invariant c.loop-i.auto.word-items c.loop-i-test.false
