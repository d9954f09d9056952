-- `validity::ask_equations` meets its contract: the equations that are left come to the whole.
-- Assumes nothing.
use Prim.Native.Nat.{◌+◌, ◌-◌}
use mathlib.Core.Path.{◌≡◌, refl, ap, ◌∙◌}
use native.Mathlib.Omega.{arith}
use Rattle.std.proofs.Common.{rules}
use Rattle.limits.specs.Outcome.{outcome_of}
use Rattle.limits.proofs.Answered.{accepted-zero, refused-some}
use Rattle.validity.proofs.Equations.{equations-start, equation-fits, equations-stop, equations-turn}
use Rattle.validity.proofs.ask_equations.Goals as goal

pub loop-init : goal.loop-init
loop-init c = let z : c.args.count - 0 ≡ c.args.count = omega arith in rw z (equations-start _ _ _ c.requires.0)

pub returns-in_err-ask_equation : goal.returns-in_err-ask_equation
returns-in_err-ask_equation c =
    let e = c.ask_equation.ensures in
    let was = c.in_err-ask_equation.was in
    let same : c.from_residual.result ≡ c.ask_equation.result = search rules in
    same ∙ e ∙ ap outcome_of (equations-stop _ _ _ c.loop.at _ c.loop.invariant (omega arith) _ refl (refused-some _ _ e was))

pub bounds-words-at : goal.bounds-words-at
bounds-words-at c = omega (arith, equation-fits _ _ _ c.loop.at _ c.loop.invariant (omega arith))

pub loop-preserved : goal.loop-preserved
loop-preserved c =
    let n = c.args.count in
    let i = c.loop.counter in
    let z : n - i - 1 ≡ n - (i + 1) = omega arith in
    rw z at (equations-turn _ _ _ c.loop.at _ c.loop.invariant (omega arith) (accepted-zero _ _ c.ask_equation.ensures c.in_ok-ask_equation.was))
