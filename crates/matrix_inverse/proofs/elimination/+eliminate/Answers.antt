-- `matrix_inverse::elimination::eliminate` meets its contract: unknown by unknown. The measure is how many are left.
-- Assumes nothing.
use borrow.Author.Rules.{rules}
use Rattle.matrix_inverse.proofs.Walks.{pivot-below, eliminated-all, eliminated-none, eliminated-no, eliminated-yes}
use Rattle.matrix_inverse.proofs.elimination.+eliminate.Goals as goal

pub returns-then-c-w : goal.returns-then-c-w
returns-then-c-w t c = eliminated-all _ _ _ c.if-c-w.true

pub returns-then-i-w : goal.returns-then-i-w
returns-then-i-w t c =
    let a = c.args in
    eliminated-none a.w a.c a.matrix.now c.requires.0 c.if-c-w.false _ c.pivot-i.ensures c.if-i-w.true _

pub swap_rows-requires : goal.swap_rows-requires
swap_rows-requires t c =
    let a = c.args in
    let k = pivot-below a.w a.c _ a.matrix.now c.requires.0 c.if-c-w.false c.pivot-i.ensures c.if-i-w.false in
    (k.0, k.1, search rules, search rules)

pub returns-then-not-eliminate : goal.returns-then-not-eliminate
returns-then-not-eliminate t c =
    let a = c.args in
    eliminated-no a.w a.c a.matrix.now c.requires.0 c.if-c-w.false _ c.pivot-i.ensures c.if-i-w.false
    c.swap_rows.new.matrix c.exchange.new.matrix c.eliminate.new.matrix _ c.swap_rows.ensures c.exchange.ensures c.eliminate.ensures
    c.if-not-eliminate.true

pub swap_columns-requires : goal.swap_columns-requires
swap_columns-requires t c =
    let a = c.args in
    let k = pivot-below a.w a.c _ a.matrix.now c.requires.0 c.if-c-w.false c.pivot-i.ensures c.if-i-w.false in
    (k.0, k.1, search rules, search rules)

pub returns : goal.returns
returns t c =
    let a = c.args in
    eliminated-yes a.w a.c a.matrix.now c.requires.0 c.if-c-w.false _ c.pivot-i.ensures c.if-i-w.false
    c.swap_rows.new.matrix c.exchange.new.matrix c.eliminate.new.matrix _ c.swap_rows.ensures c.exchange.ensures c.eliminate.ensures
    c.if-not-eliminate.false _ c.swap_columns.ensures
