-- `matrix_inverse::rows::substitute_all` meets its contract, row by row. Assumes nothing.
use mathlib.Core.Path.{◌∙◌}
use native.Mathlib.Omega.{arith}
use Rattle.matrix_inverse.proofs.Walks.{turning-turn, turning-done}
use Rattle.matrix_inverse.proofs.rows.substitute_all.Goals as goal

pub loop-i-preserved : goal.loop-i-preserved
loop-i-preserved c =
    let l = c.loop-i in
    turning-turn _ _ _ c.args.rows.now l.rows l.i l.invariant (omega arith) (l.auto.rows ∙ c.requires.3)
    c.substitute.new.row c.substitute.ensures c.substitute.auto.row

pub returns : goal.returns
returns c = turning-done _ _ _ _ c.loop-i.rows c.loop-i.i c.loop-i.invariant (omega arith)
