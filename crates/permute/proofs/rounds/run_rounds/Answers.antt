-- `permute::rounds::run_rounds` meets its contract: no rounds leave the state, and others run with the matrix
-- turned. Assumes nothing.
use Prim.Native.Nat.{ℕ}
use mathlib.Core.Path.{◌∙◌}
use native.Mathlib.Omega.{arith}
use lib.ListN.{length-replicate}
use Rattle.permute.proofs.Columns.{zeros-units}
use Rattle.permute.proofs.Run.{sound, matrix-asked, matrix-turned}
use Rattle.permute.proofs.Laws.{no-rounds}
use Rattle.permute.proofs.rounds.run_rounds.Goals as goal

pub returns-then-rounds-eq0 : goal.returns-then-rounds-eq0
returns-then-rounds-eq0 c = no-rounds _ _ _ _ c.if-rounds-eq0.true

pub overflow_mul-start : goal.overflow_mul-start
overflow_mul-start c = record { fits = omega (arith, (sound c.requires.0).size) }

pub offset_bounds-params-start : goal.offset_bounds-params-start
offset_bounds-params-start c = record { fits = omega (arith, (sound c.requires.0).size) }

pub slice_bounds-turn_matrix-start : goal.slice_bounds-turn_matrix-start
slice_bounds-turn_matrix-start c = omega (arith, (sound c.requires.0).size)

pub slice_bounds-turn_matrix-count : goal.slice_bounds-turn_matrix-count
slice_bounds-turn_matrix-count c = omega (arith, (sound c.requires.0).size)

pub turn_matrix-requires : goal.turn_matrix-requires
turn_matrix-requires c = matrix-asked c.requires.0 _ (zeros-units 576) (length-replicate {A = ℕ} 576 0)

pub run_turned-requires : goal.run_turned-requires
run_turned-requires c =
    let t = c.turn_matrix in
    let p = c.requires in
    (p.0, p.1, t.auto.columns ∙ length-replicate {A = ℕ} 576 0, matrix-turned p.0 t.ensures)
