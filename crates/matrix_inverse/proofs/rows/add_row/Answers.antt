-- `matrix_inverse::rows::add_row` meets its contract. The invariant: the words added to and those left make the whole.
-- Assumes nothing.
use mathlib.Core.Path.{sym, ◌∙◌}
use native.Mathlib.Omega.{arith}
use Rattle.permute.proofs.Mix.{over-turn, over_done}
use Rattle.matrix_inverse.proofs.Walks.{sum-product}
use Rattle.matrix_inverse.proofs.rows.add_row.Goals as goal

pub loop-i-preserved : goal.loop-i-preserved
loop-i-preserved c =
    let l = c.loop-i in
    over-turn _ c.args.s.now c.args.row.now l.row l.i l.invariant _ (omega arith) (c.requires ∙ sym l.auto.row) (sum-product _ _ _)

pub returns : goal.returns
returns c = over_done _ c.args.s.now c.args.row.now c.loop-i.row c.loop-i.i c.loop-i.invariant (omega arith)
