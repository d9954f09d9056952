-- `take_both_back` meets its contract: the second list is taken back to where the first left the counts.
-- Assumes nothing.
use Rattle.uses.proofs.Tried.{both-back}
use Rattle.uses.proofs.take_both_back.Goals as goal

pub returns : goal.returns
returns c = let a = c.args in both-back a.strike a.end a.a.now a.b.now a.uses.now _ _ c.take_back.ensures c.take_back-2.ensures
