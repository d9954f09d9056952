-- `at_most` meets its contract: the fold over the cells is what is said of all.
-- Assumes nothing.
use Rattle.std.proofs.Common.{◌&&◌, ◌∙◌, true, rules, tests}
use Rattle.std.proofs.lemmas.Iterator.{YieldsList-from_slice}
use Rattle.std.proofs.lemmas.Iterator.Consumers.{fold_from_yields_List}
use Rattle.uses.specs.Moves.{cell_at_most}
use Rattle.uses.proofs.Steps.{most-folded}
use Rattle.uses.proofs.at_most.Goals as goal

pub returns : goal.returns
returns c =
    let a = c.args in
    fold_from_yields_List _ (λ all x. all && cell_at_most a.end a.uses.now x) true _ c.fold.ensures.ran (YieldsList-from_slice a.cells.now cc) (λ p x b q k. search (rules, tests))
    ∙ most-folded a.end a.uses.now a.cells.now true
