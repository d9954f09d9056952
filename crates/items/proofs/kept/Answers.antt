-- `kept` meets its contract: by the answer's two cases.
-- Assumes nothing.
use mathlib.Core.Path.{refl, sym, ◌∙◌}
use Rattle.items.proofs.Lists.{kept-err, kept-ok}
use Rattle.items.proofs.kept.Goals as goal

pub returns-then-is_err : goal.returns-then-is_err
returns-then-is_err c = (refl, c.fill.ensures ∙ kept-err c.args.list c.args.out.now (sym c.is_err.ensures.value ∙ c.if-is_err.true))

pub returns-else-is_err : goal.returns-else-is_err
returns-else-is_err c = (refl, kept-ok c.args.list c.args.out.now (sym c.is_err.ensures.value ∙ c.if-is_err.false))
