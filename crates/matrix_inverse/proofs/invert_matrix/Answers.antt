-- `matrix_inverse::invert_matrix` meets its contract: a copy is eliminated, and put over the words where there is an inverse.
-- Assumes nothing.
use borrow.Author.Rules.{rules}
use lib.ListN.{replicate}
use Rattle.matrix_inverse.proofs.Inverted.{too_wide, wrong_size, inverted-no, inverted-yes}
use Rattle.matrix_inverse.proofs.invert_matrix.Goals as goal

pub returns-then-width-gt-MAX_WIDTH : goal.returns-then-width-gt-MAX_WIDTH
returns-then-width-gt-MAX_WIDTH c = too_wide _ _ c.if-width-gt-MAX_WIDTH.true

pub returns-then-words-size : goal.returns-then-words-size
returns-then-words-size c = wrong_size _ _ c.if-width-gt-MAX_WIDTH.false c.if-words-size.true

pub returns-then-not-eliminate : goal.returns-then-not-eliminate
returns-then-not-eliminate c =
    inverted-no c.args.width c.args.words.now c.if-width-gt-MAX_WIDTH.false c.if-words-size.false (replicate 576 0) c.put.new.out (search rules) c.put.ensures
    c.eliminate.new.matrix (search rules) _ c.eliminate.ensures (c.if-not-eliminate.true)

pub returns : goal.returns
returns c =
    inverted-yes c.args.width c.args.words.now c.if-width-gt-MAX_WIDTH.false c.if-words-size.false (replicate 576 0) c.put.new.out (search rules) c.put.ensures
    c.eliminate.new.matrix (search rules) _ c.eliminate.ensures (c.if-not-eliminate.false) _ c.put-2.ensures
