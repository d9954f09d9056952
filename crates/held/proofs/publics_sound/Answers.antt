-- `publics_sound` meets its contract: what is left of the pairs says the same as all of them.
-- Assumes nothing.
use Prim.Native.Nat.{◌+◌, ◌*◌, ◌-◌, ◌≤◌, ◌<◌}
use mathlib.Core.Path.{◌≡◌}
use native.Mathlib.Omega.{arith}
use lib.ListN.{get_or}
use Rattle.limits.specs.Numbers.{prime}
use Rattle.held.proofs.Sound.{sound-lacking, sound-all, sound-wire, sound-unit, sound_more}
use Rattle.held.proofs.publics_sound.Goals as goal

pub returns-then-held-at : goal.returns-then-held-at
returns-then-held-at c =
    let l = c.loop-i in
    let a = c.args in
    sound-lacking a.held.now (2 * l.i) (a.n - l.i) _ l.invariant c.if-held-at.true

pub returns-then-held-at-ge-MAX_COUNT : goal.returns-then-held-at-ge-MAX_COUNT
returns-then-held-at-ge-MAX_COUNT c =
    let l = c.loop-i in
    let a = c.args in
    sound-wire a.held.now (2 * l.i) (a.n - l.i) _ l.invariant (omega arith) c.if-held-at-ge-MAX_COUNT.true

pub returns-then-word_at-ge-P : goal.returns-then-word_at-ge-P
returns-then-word_at-ge-P c =
    let l = c.loop-i in
    let a = c.args in
    let e : prime ≤ get_or a.held.now (2 * l.i + 1) 0 = rw c.word_at.ensures at c.if-word_at-ge-P.true in
    sound-unit a.held.now (2 * l.i) (a.n - l.i) _ l.invariant (omega arith) c.if-held-at-ge-MAX_COUNT.false e

pub loop-i-preserved : goal.loop-i-preserved
loop-i-preserved c =
    let l = c.loop-i in
    let a = c.args in
    let e : get_or a.held.now (2 * l.i + 1) 0 < prime = rw c.word_at.ensures at c.if-word_at-ge-P.false in
    let left : a.n - (l.i + 1) ≡ a.n - l.i - 1 = omega arith in
    let place : 2 * (l.i + 1) ≡ 2 * l.i + 2 = omega arith in
    rw (left, place) (sound_more a.held.now (2 * l.i) (a.n - l.i) _ l.invariant (omega arith) c.if-held-at-ge-MAX_COUNT.false e)

pub returns : goal.returns
returns c =
    let l = c.loop-i in
    let a = c.args in
    sound-all a.held.now (2 * l.i) (a.n - l.i) _ l.invariant (omega arith)
