-- `validity::put_steps` meets its contract: the steps that are left, put to the words as they are, come to
-- the whole.
-- Assumes nothing.
use Prim.Native.Nat.{◌+◌, ◌-◌}
use mathlib.Core.Path.{◌≡◌}
use native.Mathlib.Omega.{arith}
use Rattle.std.proofs.Common.{rules}
use Rattle.limits.proofs.Answered.{accepted-zero, refused-some}
use Rattle.validity.proofs.Steps.{step-asked, steps-stop, some_known, steps-turn}
use Rattle.validity.proofs.put_steps.Goals as goal

pub put_step-requires : goal.put_step-requires
put_step-requires c = step-asked c.loop-done.invariant (omega arith)

pub returns-in_err-put_step : goal.returns-in_err-put_step
returns-in_err-put_step c =
    let r = c.put_step.ensures in
    let same : c.from_residual.result ≡ c.put_step.result = search rules in
    steps-stop c.loop-done.invariant (omega arith) c.look_ahead-known.ensures r same (refused-some _ _ r.answer c.in_err-put_step.was)

pub overflow_sub-known : goal.overflow_sub-known
overflow_sub-known c =
    let k = some_known c.loop-done.invariant (omega arith) c.look_ahead-known.ensures c.put_step.ensures (accepted-zero _ _ c.put_step.ensures.answer c.in_ok-put_step.was) in
    omega arith

pub loop-done-preserved : goal.loop-done-preserved
loop-done-preserved c =
    let n = c.args.steps in
    let i = c.loop-done.done in
    let z : n - i - 1 ≡ n - (i + 1) = omega arith in
    rw z at (steps-turn c.loop-done.invariant (omega arith) c.look_ahead-known.ensures c.put_step.ensures (accepted-zero _ _ c.put_step.ensures.answer c.in_ok-put_step.was))
