-- `matrix_inverse::elimination::pivot` meets its contract, row by row. Assumes nothing.
use native.Mathlib.Omega.{arith}
use Rattle.matrix_inverse.proofs.Walks.{seeking-start, seeking-none, seeking-here, seeking-next}
use Rattle.matrix_inverse.proofs.elimination.pivot.Goals as goal

pub loop-i-init : goal.loop-i-init
loop-i-init c = seeking-start _ _ _

pub returns-then-matrix-i-ne0 : goal.returns-then-matrix-i-ne0
returns-then-matrix-i-ne0 c =
    seeking-here _ _ c.args.matrix.now c.loop-i.i c.loop-i.invariant (omega arith) c.requires.0 c.if-matrix-i-ne0.true

pub loop-i-preserved : goal.loop-i-preserved
loop-i-preserved c =
    seeking-next _ _ c.args.matrix.now c.loop-i.i c.loop-i.invariant (omega arith) c.requires.0 c.if-matrix-i-ne0.false

pub returns : goal.returns
returns c = seeking-none _ _ c.args.matrix.now c.loop-i.i c.loop-i.invariant (omega arith)
