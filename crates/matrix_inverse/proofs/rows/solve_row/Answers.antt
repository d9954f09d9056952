-- `matrix_inverse::rows::solve_row` meets its contract. Assumes nothing.
use Rattle.powers.specs.Powers.{invert_unit}
use Rattle.matrix_inverse.specs.Rows.{solve_row}
use Rattle.matrix_inverse.proofs.rows.solve_row.Goals as goal

pub returns : goal.returns
unfolding solve_row invert_unit
returns c = rw (c.scale_row.ensures, c.mul_unit-minus.ensures, c.power_unit-inverse.ensures)
