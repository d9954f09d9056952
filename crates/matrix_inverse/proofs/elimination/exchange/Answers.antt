-- `matrix_inverse::elimination::exchange` meets its contract. Assumes nothing.
use borrow.Author.Rules.{rules}
use lib.ListN.{replicate}
use Rattle.matrix_inverse.proofs.Parts.{one-held, two-asked, exchanged}
use Rattle.matrix_inverse.proofs.elimination.exchange.Goals as goal

pub substitute_all-requires-2 : goal.substitute_all-requires-2
substitute_all-requires-2 c =
    let e = one-held c.args.w c.args.c c.args.matrix.now c.requires.0 c.requires.2 c.solve_row.new.row (search rules) (replicate 24 0) _ c.requires.1 c.put.ensures in
    two-asked c.args.w c.args.c c.args.matrix.now c.requires.0 c.requires.2 c.solve_row.new.row (search rules) c.substitute_all.new.rows (search rules) _ e c.requires.1

pub returns : goal.returns
returns c =
    let e = one-held c.args.w c.args.c c.args.matrix.now c.requires.0 c.requires.2 c.solve_row.new.row (search rules) (replicate 24 0) _ c.requires.1 c.put.ensures in
    exchanged c.args.w c.args.c c.args.matrix.now c.requires.0 c.requires.2 c.solve_row.new.row (search rules) c.substitute_all.new.rows (search rules) c.substitute_all-2.new.rows _ e c.solve_row.ensures c.substitute_all.ensures c.substitute_all-2.ensures
