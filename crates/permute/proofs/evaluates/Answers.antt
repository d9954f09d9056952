-- `permute::evaluates` meets its contract: the first w words are copied, turned and compared with the others.
-- Assumes nothing.
use mathlib.Core.Path.{sym, ◌∙◌}
use Rattle.permute.proofs.Trace.{not-units, rounds-asked, evaluates-is}
use Rattle.permute.proofs.Words.{pointwise-is}
use Rattle.permute.proofs.evaluates.Goals as goal

pub returns-then-not-are_units : goal.returns-then-not-are_units
returns-then-not-are_units c =
    not-units c.requires.0 c.args.step.now c.requires.1 (sym c.are_units.ensures ∙ c.if-not-are_units.true)

pub run_rounds-requires : goal.run_rounds-requires
run_rounds-requires c =
    rounds-asked c.requires.0 c.args.step.now c.requires.1 (sym c.are_units.ensures ∙ c.if-not-are_units.false)
    c.put.ensures

pub returns : goal.returns
returns c =
    evaluates-is c.requires.0 c.args.step.now c.requires.1 (sym c.are_units.ensures ∙ c.if-not-are_units.false)
    c.put.ensures
    c.run_rounds.ensures (c.eq.ensures ∙ pointwise-is _ _)
