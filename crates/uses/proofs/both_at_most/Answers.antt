-- `both_at_most` meets its contract: a strike's counts are asked, list by list.
-- Assumes nothing.
use Rattle.uses.proofs.Steps.{asked-joined, asked-struck}
use Rattle.uses.proofs.both_at_most.Goals as goal

pub returns-then-not-strike : goal.returns-then-not-strike
returns-then-not-strike c = let a = c.args in asked-joined a.end a.uses.now a.a.now a.b.now a.strike c.if-not-strike.true

pub returns : goal.returns
returns c =
    let a = c.args in
    asked-struck a.end a.uses.now a.a.now a.b.now a.strike c.if-not-strike.false c.at_most-first.result c.at_most-second.result c.at_most-first.ensures c.at_most-second.ensures
