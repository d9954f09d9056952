-- `validity::look_ahead` meets its contract: the number that is known, or what is found of the next steps.
-- Assumes nothing.
use Rattle.validity.proofs.Ahead.{ahead-known, ahead-found}
use Rattle.validity.proofs.look_ahead.Goals as goal

pub returns-then-known-ne0 : goal.returns-then-known-ne0
returns-then-known-ne0 c = ahead-known _ _ c.if-known-ne0.true

pub returns : goal.returns
returns c = ahead-found _ _ c.args.trace.now _ c.args.left _ _ c.if-known-ne0.false c.min.ensures c.evaluations.ensures
