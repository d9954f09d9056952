-- `matrix_inverse::rows::swap_columns` meets its contract, row by row. Assumes nothing.
use Prim.Native.Nat.{◌*◌}
use mathlib.Core.Path.{sym, ◌∙◌}
use native.Mathlib.Omega.{arith}
use Rattle.std.proofs.lemmas.List.Edits.{swap_is}
use Rattle.permute.proofs.Trace.{lent_length}
use Rattle.matrix_inverse.proofs.Places.{row_room}
use Rattle.matrix_inverse.proofs.Walks.{turning-turn, turning-done}
use Rattle.matrix_inverse.proofs.rows.swap_columns.Goals as goal

pub loop-k-preserved : goal.loop-k-preserved
loop-k-preserved c =
    let l = c.loop-k in
    let w = c.args.w in
    let k = l.auto.matrix ∙ c.requires.3 in
    let n = lent_length l.matrix (l.k * w) w (row_room w w l.k l.matrix (omega arith) k) in
    turning-turn _ _ _ c.args.matrix.now l.matrix l.k l.invariant (omega arith) k c.swap.new.self
    (c.swap.ensures.after ∙ sym (swap_is _ c.args.c c.args.i 0 (omega (arith, n)) (omega (arith, n)))) c.swap.auto.self

pub returns : goal.returns
returns c = turning-done _ _ _ _ c.loop-k.matrix c.loop-k.k c.loop-k.invariant (omega arith)
