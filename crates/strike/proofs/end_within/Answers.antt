-- `end_within` meets its contract: what is left of the equations ends where all of them end.
-- Assumes nothing.
use native.Mathlib.Omega.{arith}
use native.Mathlib.Nat.{sub-zero}
use Prim.Native.Nat.{◌+◌, ◌-◌, ◌<◌}
use mathlib.Core.Path.{◌≡◌}
use lib.ListN.{length, drop}
use Rattle.expr.specs.Equation.{size_at}
use Rattle.strike.proofs.Ends.{rest-whole, rest-ended, rest-long, rest_more}
use Rattle.strike.proofs.end_within.Goals as goal

pub loop-init : goal.loop-init
loop-init c = let a = c.args in (omega arith, rw sub-zero (rest-whole a.n a.held.now))

pub returns-then-held-at : goal.returns-then-held-at
returns-then-held-at c =
    let l = c.loop in
    let s = c.args.held.now in
    let h : length s - l.at < size_at (drop l.at s) = rw c.size_at-size.ensures at c.if-held-at.true in
    rest-long s l.at _ _ l.invariant.0 l.invariant.1 (omega arith) h

pub loop-preserved : goal.loop-preserved
loop-preserved c =
    let l = c.loop in
    let k : c.args.n - (l.counter + 1) ≡ c.args.n - l.counter - 1 = omega arith in
    (omega arith, rw (c.size_at-size.ensures, k) (rest_more c.args.held.now l.at _ _ l.invariant.0 l.invariant.1 (omega arith)))

pub returns : goal.returns
returns c = let l = c.loop in rest-ended c.args.held.now l.at _ _ l.invariant.0 l.invariant.1 (omega arith)
