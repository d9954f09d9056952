-- `permute::matrix::turn_matrix` meets its contract. The invariant is `Turning`: the columns done have the
-- matrix's words. Assumes nothing.
use Rattle.permute.proofs.Columns.{turning-turn, turning-done}
use Rattle.permute.proofs.matrix.turn_matrix.Goals as goal

pub loop-k-preserved : goal.loop-k-preserved
loop-k-preserved c = turning-turn c.requires c.loop-k.invariant c.put_column.auto.columns c.put_column.ensures

pub returns : goal.returns
returns c = turning-done c.requires c.loop-k.invariant c.loop-k-test.false
