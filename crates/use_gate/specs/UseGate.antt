-- 13 and 15 of a relation's gate by use counts and stray count (document 02, R-6), with no walk over the queries.
-- Assumes nothing.
use Rattle.std.specs.Prelude.{ℕ, Bool, ◌&&◌, List, eqb, drop}
use Rattle.limits.specs.Questions.{ask, ◌▸◌, first_no}
use Rattle.words.specs.Store.{all_below}
use Rattle.expr.specs.Equation.{Equation}
use Rattle.validated.specs.Validated.{bound_by, termwise_asks}

-- 13: no stray cell, and no count above 0 from the wire count to the store's end, which 10 asks to be that of the slots
abbrev pub uses_below : (vars : ℕ) → (uses : List ℕ) → (stray : ℕ) → Bool
uses_below vars uses stray = eqb stray 0 && all_below 1 (drop vars uses)

-- 13 to 15, their first no or 0, with the slots of the allocated wires; 12 never says no of a relation, whose public
-- wires are those of its slots
unfoldable pub used_no : (vars : ℕ) → (slots uses : List ℕ) → (stray : ℕ) → List Equation → ℕ
used_no vars slots uses stray equations =
    ask 13 (uses_below vars uses stray) ▸ first_no (termwise_asks vars (bound_by slots uses) equations)
