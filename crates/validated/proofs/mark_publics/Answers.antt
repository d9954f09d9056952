-- `mark_publics` meets its contract: what is left of the pairs, marked on what is there, comes to the whole.
-- Assumes nothing.
use native.Mathlib.Omega.{arith}
use native.Mathlib.Nat.{sub-zero}
use Prim.Native.Nat.{◌≤◌, ◌<◌, ◌-◌, ◌+◌, ◌*◌}
use mathlib.Core.Path.{◌≡◌}
use lib.ListN.{length, get_or, drop_of_length-le, get_or-eq_default}
use Rattle.instance.proofs.Pairs.{pairs-at}
use Rattle.validated.proofs.Marks.{mark-done, mark-no, mark-more, mark-lacking}
use Rattle.validated.proofs.mark_publics.Goals as goal

pub loop-i-init : goal.loop-i-init
loop-i-init c = rw sub-zero (λ says end m. m)

pub returns-then-vars-x : goal.returns-then-vars-x
returns-then-vars-x c =
    let l = c.loop-i in
    let a = c.args in
    let s = a.s.now in
    let h : a.vars ≤ get_or s (2 * l.i) 0 = rw c.word_at-x.ensures at c.if-vars-x.true in
    l.invariant _ _ (rw (pairs-at s (2 * l.i) (a.n - l.i) (omega arith)) (mark-no a.vars l.marks _ _ h))

pub returns-then-s-i : goal.returns-then-s-i
returns-then-s-i c =
    let l = c.loop-i in
    let a = c.args in
    let s = a.s.now in
    let e = c.word_at-x.ensures in
    let z : get_or s (2 * l.i) 0 ≡ 0 = get_or-eq_default s 0 c.if-s-i.true in
    let k : 0 < a.vars = rw (e, z) at c.if-vars-x.false in
    let d : length s ≤ 2 * l.i + 2 = omega arith in
    rw (e, z)
    (l.invariant _ _
    (rw (pairs-at s (2 * l.i) (a.n - l.i) (omega arith), z, drop_of_length-le s d)
    (mark-more a.vars l.marks 0 _ k (mark-lacking a.vars (a.n - l.i - 1) l.marks k))))

pub loop-i-preserved : goal.loop-i-preserved
loop-i-preserved c =
    let l = c.loop-i in
    let a = c.args in
    let s = a.s.now in
    let e = c.word_at-x.ensures in
    let h : get_or s (2 * l.i) 0 < a.vars = rw e at c.if-vars-x.false in
    let n : a.n - (l.i + 1) ≡ a.n - l.i - 1 = omega arith in
    let i : 2 * (l.i + 1) ≡ 2 * l.i + 2 = omega arith in
    rw (e, n, i)
    (λ says end m.
    l.invariant says end (rw (pairs-at s (2 * l.i) (a.n - l.i) (omega arith)) (mark-more a.vars l.marks _ _ h m)))

pub returns : goal.returns
returns c =
    let l = c.loop-i in
    let a = c.args in
    let z : a.n - l.i ≡ 0 = omega arith in
    l.invariant _ _ (rw z (mark-done a.vars l.marks))
