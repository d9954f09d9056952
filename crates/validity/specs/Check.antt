-- The check on parts and a trace, 31 to 36 (the source's `is_witness_valid`): one step per query, publics
-- below the count, every step an evaluation whose cells agree with what the wires already carry, and every
-- equation's sum its image. Assumes nothing.
use Rattle.std.specs.Prelude.{ℕ, Bool, List, [], ◌∷◌, eqb, ltb, length}
use Rattle.limits.specs.Questions.{ask, ◌▸◌}
use Rattle.baby_bear.specs.Field.{add_unit, mul_unit}
use Rattle.allocator.specs.Slots.{Pair, pairs}
use Rattle.allocator.specs.Values.{Values, is_some, nothing, put_all, put, fits}
use Rattle.expr.specs.Equation.{Term, Equation}
use Rattle.instance.specs.Parts.{Parts}
use Rattle.validity.specs.Values.{or_zero, cells}

-- 36 of each public wire
abbrev pub publics_no : ℕ → List Pair → ℕ
publics_no vars [] = 0
publics_no vars (p ∷ ps) = ask 36 (ltb p.var vars) ▸ publics_no vars ps

-- cell by cell: 36, then 33; the wire then carries the unit
abbrev pub cells_no : ℕ → Values → List Pair → ℕ
cells_no vars g [] = 0
cells_no vars g (p ∷ ps) = ask 36 (ltb p.var vars) ▸ ask 33 (fits (g p.var) p.value) ▸ cells_no vars (put p g) ps

-- step by step: 32, then its cells
abbrev pub steps_no : (List ℕ → Bool) → ℕ → Values → List (List ℕ) → List (List ℕ) → ℕ
steps_no evaluation vars g [] steps = 0
steps_no evaluation vars g (q ∷ qs) [] = 0
steps_no evaluation vars g (q ∷ qs) (s ∷ steps) =
    ask 32 (evaluation s) ▸ cells_no vars g (pairs q s) ▸ steps_no evaluation vars (put_all g (pairs q s)) qs steps

-- 34 of each term: its wire carries a value, also where the weight is 0
abbrev pub terms_no : Values → List Term → ℕ
terms_no g [] = 0
terms_no g (t ∷ ts) = ask 34 (is_some (g t.var)) ▸ terms_no g ts

-- weight times unit, summed over the terms
abbrev pub sum_from : ℕ → Values → List Term → ℕ
sum_from sum g [] = sum
sum_from sum g (t ∷ ts) = sum_from (add_unit sum (mul_unit t.weight (or_zero (g t.var)))) g ts

-- 34 term by term, then 35, whether the sum is the image
abbrev pub equation_no : Values → Equation → ℕ
equation_no g e = terms_no g e.terms ▸ ask 35 (eqb (sum_from 0 g e.terms) e.image)

-- equation by equation
abbrev pub equations_no : Values → List Equation → ℕ
equations_no g [] = 0
equations_no g (e ∷ es) = equation_no g e ▸ equations_no g es

-- what the wires carry after the publics and all steps
abbrev pub carried : Parts → List (List ℕ) → Values
carried parts steps = put_all (put_all nothing parts.publics) (cells parts.queries steps)

-- the check's number: 31, 36 of the publics, then step by step, then equation by equation
unfoldable pub check_no : (List ℕ → Bool) → Parts → List (List ℕ) → ℕ
check_no evaluation parts steps =
    ask 31 (eqb (length steps) (length parts.queries))
    ▸ publics_no parts.vars parts.publics
    ▸ steps_no evaluation parts.vars (put_all nothing parts.publics) parts.queries steps
    ▸ equations_no (carried parts steps) parts.equations
