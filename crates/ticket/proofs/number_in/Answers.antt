-- `ticket::number_in` meets its contract: the columns that are left, behind the number so far, come to what all come to,
-- and i columns read give a number of at most i digits. Assumes nothing.
use mathlib.Core.Path.{sym, ◌∙◌}
use native.Mathlib.Numerals.{add-one}
use native.Mathlib.Omega.{arith}
use Rattle.ticket.proofs.Scan.{fits_more, column_fits, read-on, read-bad, read_all}
use Rattle.ticket.proofs.number_in.Goals as goal

pub returns-in_err-n : goal.returns-in_err-n
returns-in_err-n c =
    let l = c.loop-b in
    c.from_residual.ensures ∙ read-bad _ l.b-index _ l.invariant.1 _ c.loop-b-test.true (sym c.with_column.ensures ∙ c.in_err-n.was)

pub loop-b-preserved : goal.loop-b-preserved
loop-b-preserved c =
    let l = c.loop-b in
    let z = sym c.with_column.ensures ∙ c.in_ok-n.was in
    (rw (add-one l.b-index) (column_fits l.b-index _ _ _ l.invariant.0 z), read-on _ l.b-index _ l.invariant.1 _ c.loop-b-test.true z)

pub with_digit-requires : goal.with_digit-requires
with_digit-requires c = let l = c.loop-b in fits_more l.b-index 11 _ (omega arith) l.invariant.0

pub returns : goal.returns
returns c =
    let l = c.loop-b in
    c.with_digit.ensures ∙ read_all _ l.b-index _ l.invariant.1 _ c.loop-b-test.false
