-- `read_parts` meets its contract: the parts are read, and the stores all 0 where they are refused.
-- Assumes nothing.
use Prim.Native.Nat.{ℕ}
use mathlib.Core.Path.{sym, ap, ◌∙◌}
use mathlib.Core.List.{List}
use lib.ListN.{replicate}
use Rattle.parts.proofs.Parts.{parts-no, parts-got}
use Rattle.parts.proofs.read_parts.Goals as goal

-- that many zeros
abbrev zeros : ℕ → List ℕ
zeros n = replicate n 0

pub returns-then-is_err : goal.returns-then-is_err
returns-then-is_err c =
    let a = c.args in
    let z = c.parts_into-parts.auto in
    parts-no a.width a.bytes.now a.c.at a.publics.now a.queries.now a.equations.now _ _ _ _ c.parts_into-parts.ensures (sym c.is_err.ensures.value ∙ c.if-is_err.true) _ _ _
    (c.clear.ensures.0 ∙ ap zeros z.publics) (c.clear.ensures.1 ∙ ap zeros z.queries) (c.clear.ensures.2 ∙ ap zeros z.equations)

pub returns-else-is_err : goal.returns-else-is_err
returns-else-is_err c =
    let a = c.args in
    parts-got a.width a.bytes.now a.c.at a.publics.now a.queries.now a.equations.now _ _ _ _ c.parts_into-parts.ensures (sym c.is_err.ensures.value ∙ c.if-is_err.false)
