-- `equations_sound` meets its contract: what is left of the equations says the same as all of them.
-- Assumes nothing.
use native.Mathlib.Omega.{arith}
use native.Mathlib.Nat.{sub-zero}
use Prim.Native.Nat.{◌+◌, ◌<◌, ◌-◌}
use mathlib.Core.Path.{◌≡◌, sym, ◌∙◌}
use lib.ListN.{length, drop}
use Rattle.expr.specs.Equation.{size_at}
use Rattle.held.proofs.Sound.{size_is, rest-whole, rest_end, rest-long, rest-unsound, rest_more}
use Rattle.held.proofs.equations_sound.Goals as goal

pub loop-init : goal.loop-init
loop-init c = let a = c.args in (omega arith, rw sub-zero (rest-whole a.n a.held.now))

pub returns-then-held-at : goal.returns-then-held-at
returns-then-held-at c =
    let l = c.loop in
    let s = c.args.held.now in
    let h : length s - l.at < size_at (drop l.at s) = rw c.size_at-size.ensures at c.if-held-at.true in
    rest-long s l.at _ _ l.invariant.1 (omega arith) l.invariant.0 h

pub equation_sound-requires : goal.equation_sound-requires
equation_sound-requires c = omega (arith, size_is c.args.held.now c.loop.at)

pub returns-then-not-equation_sound : goal.returns-then-not-equation_sound
returns-then-not-equation_sound c =
    let l = c.loop in
    rest-unsound c.args.held.now l.at _ _ l.invariant.1 (omega arith) l.invariant.0 (sym c.equation_sound.ensures ∙ c.if-not-equation_sound.true)

pub loop-preserved : goal.loop-preserved
loop-preserved c =
    let l = c.loop in
    let k : c.args.n - (l.counter + 1) ≡ c.args.n - l.counter - 1 = omega arith in (
      omega arith,
      rw (c.size_at-size.ensures, k)
          (rest_more c.args.held.now l.at _ _ l.invariant.1 (omega arith) l.invariant.0 (sym c.equation_sound.ensures ∙ c.if-not-equation_sound.false)),
    )

pub returns : goal.returns
returns c = let l = c.loop in rest_end c.args.held.now l.at _ _ l.invariant.1 (omega arith)
