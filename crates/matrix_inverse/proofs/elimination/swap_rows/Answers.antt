-- `matrix_inverse::elimination::swap_rows` meets its contract. Assumes nothing.
use lib.ListN.{replicate}
use Rattle.matrix_inverse.proofs.Places.{rows-swapped}
use Rattle.matrix_inverse.proofs.elimination.swap_rows.Goals as goal

pub returns : goal.returns
returns c =
    rows-swapped c.args.w c.args.i c.args.j c.args.matrix.now (replicate 24 0) _ _ _ c.requires.0 c.requires.1 c.requires.3
    c.copy_from_slice.ensures.after c.copy_within.ensures.after c.copy_within.ensures.len c.copy_from_slice-2.ensures.after
