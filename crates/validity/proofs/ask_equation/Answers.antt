-- `validity::ask_equation` meets its contract: the terms that are left, with the sum so far, come to the whole.
-- Assumes nothing.
use Prim.Native.Nat.{◌+◌, ◌-◌}
use mathlib.Core.Path.{◌≡◌, ap, ◌∙◌}
use lib.ListN.{get_or}
use native.Mathlib.Omega.{arith}
use Rattle.limits.specs.Outcome.{outcome_of}
use Rattle.limits.proofs.Answered.{asked-is}
use Rattle.validity.proofs.Sums.{size-at, sum-start, sum-beyond, sum-nothing, sum-asked, sum-turn, sum-image}
use Rattle.validity.proofs.ask_equation.Goals as goal

pub bounds-words-at : goal.bounds-words-at
bounds-words-at c = omega (arith, c.requires.0, size-at c.args.words.now c.args.at)

pub loop-init : goal.loop-init
loop-init c =
    let p = c.requires in
    let m = get_or c.args.words.now c.args.at 0 in
    let n : m - 0 ≡ m = omega arith in
    rw n (sum-start _ _ _ p.0 p.1 p.2)

pub returns-then-scratch-x : goal.returns-then-scratch-x
returns-then-scratch-x c = ap outcome_of (sum-beyond c.loop.invariant (omega arith) c.if-scratch-x.true)

pub returns-then-m-eq0 : goal.returns-then-m-eq0
returns-then-m-eq0 c = ap outcome_of (sum-nothing c.loop.invariant (omega arith) c.if-m-eq0.true)

pub plus-sum-requires : goal.plus-sum-requires
plus-sum-requires c = sum-asked c.loop.invariant (omega arith) c.if-m-eq0.false

pub loop-preserved : goal.loop-preserved
loop-preserved c =
    let m = get_or c.args.words.now c.args.at 0 in
    let i = c.loop.counter in
    let n : m - i - 1 ≡ m - (i + 1) = omega arith in
    rw n at (sum-turn c.loop.invariant (omega arith) c.if-m-eq0.false c.plus-sum.ensures)

pub returns : goal.returns
returns c = c.ask.ensures ∙ asked-is 34 _ ∙ ap outcome_of (sum-image c.loop.invariant (omega arith))
