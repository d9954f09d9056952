-- `permute::leading` meets its contract. The invariant is `Leading`: the steps found and those at the front of
-- the steps left come to the whole. Assumes nothing.
use mathlib.Core.Path.{◌∙◌}
use native.Mathlib.Omega.{arith}
use Rattle.permute.proofs.Trace.{leading-done, evaluates-asked, leading-stop, leading-turn}
use Rattle.permute.proofs.leading.Goals as goal

pub evaluates-requires : goal.evaluates-requires
evaluates-requires c =
    let i = c.loop-step.invariant in
    let s = c.in-Some.ensures.steps in
    evaluates-asked i.0 (record { parts = s.0.1.0; long = s.0.1.1 ∙ i.1; count = s.1 }) c.requires

pub returns-then-not-evaluates : goal.returns-then-not-evaluates
returns-then-not-evaluates c =
    let i = c.loop-step.invariant in
    let s = c.in-Some.ensures.steps in
    leading-stop i.0 (record { parts = s.0.1.0; long = s.0.1.1 ∙ i.1; count = s.1 }) c.evaluates.ensures c.if-not-evaluates.true

pub loop-step-preserved : goal.loop-step-preserved
loop-step-preserved c =
    let i = c.loop-step.invariant in
    let s = c.in-Some.ensures.steps in (
      leading-turn i.0 (record { parts = s.0.1.0; long = s.0.1.1 ∙ i.1; count = s.1 }) c.evaluates.ensures c.if-not-evaluates.false c.evaluates.auto.state,
      s.0.0 ∙ i.1,
    )

pub returns : goal.returns
returns c =
    let i = c.loop-step.invariant in
    leading-done i.0 (λ h. omega (arith, (c.in-None.ensures.steps h).1.0, i.1))
