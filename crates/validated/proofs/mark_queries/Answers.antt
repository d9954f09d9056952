-- `mark_queries` meets its contract: what is left of the wires, marked on what is there, comes to the whole.
-- Assumes nothing.
use native.Mathlib.Numerals.{add-one}
use lib.ListN.{drop_of_length-le}
use lib.Seq.{drop-cons}
use Rattle.validated.proofs.Marks.{mark-done, mark-no, mark-more}
use Rattle.validated.proofs.mark_queries.Goals as goal

pub returns-then-vars-x : goal.returns-then-vars-x
returns-then-vars-x c =
    let l = c.loop-x in
    let a = c.args in
    l.invariant _ _ (rw (drop-cons a.s.now l.x-index 0 c.loop-x-test.true) (mark-no a.vars l.marks _ _ c.if-vars-x.true))

pub loop-x-preserved : goal.loop-x-preserved
loop-x-preserved c =
    let l = c.loop-x in
    let a = c.args in
    rw add-one
    (λ says end m.
    l.invariant says end
    (rw (drop-cons a.s.now l.x-index 0 c.loop-x-test.true) (mark-more a.vars l.marks _ _ c.if-vars-x.false m)))

pub returns : goal.returns
returns c =
    let l = c.loop-x in
    let a = c.args in
    l.invariant _ _ (rw (drop_of_length-le a.s.now c.loop-x-test.false) (mark-done a.vars l.marks))
