-- `matrix_inverse::rows::substitute` meets its contract. Assumes nothing.
use borrow.Author.Rules.{rules}
use Rattle.matrix_inverse.specs.Rows.{substitute}
use Rattle.matrix_inverse.proofs.rows.substitute.Goals as goal

pub returns : goal.returns
unfolding substitute
returns c = search rules
