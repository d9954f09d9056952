-- `validity::put_step` meets its contract: 32 where no step is known, else what the cells answer.
-- Assumes nothing.
use Rattle.allocator.specs.Slots.{pairs}
use Rattle.validity.proofs.Steps.{step-32, step-cells}
use Rattle.validity.proofs.put_step.Goals as goal

pub returns-then-known-eq0 : goal.returns-then-known-eq0
returns-then-known-eq0 c =
    step-32 _ _ (pairs c.args.vars.now c.args.values.now) c.if-known-eq0.true c.requires.2

pub returns : goal.returns
returns c =
    let a = c.args in
    step-cells a.known a.scratch.now (pairs a.vars.now a.values.now) _ _ c.if-known-eq0.false c.put_cells.ensures
