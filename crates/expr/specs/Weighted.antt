-- Terms lent as a list of records (the source's `Weighted`), and scaling them. Assumes nothing.
use Rattle.std.specs.Prelude.{ℕ, List, [], ◌∷◌, ◌++◌, map, ltb}
use Rattle.limits.specs.Numbers.{prime}
use Rattle.limits.specs.Outcome.{Outcome, outcome_of}
use Rattle.limits.specs.Questions.{Question, question, first_no, on_yes}
use Rattle.baby_bear.specs.Field.{mul_unit}
use Rattle.expr.specs.Equation.{Term, terms_asks}
use Rattle.expr.specs.declared.Weighted.{Weighted}

-- the terms that the records are, in order
abbrev pub terms_of : List Weighted → List Term
terms_of [] = []
terms_of (t ∷ ts) = record { var = t.var.0; weight = t.weight.0 } ∷ terms_of ts

-- a record with its weight times a factor, modulo p
abbrev pub scaled_by : ℕ → Weighted → Weighted
scaled_by factor t = record { var = t.var; weight = record { 0 = mul_unit t.weight.0 factor } }

-- 3 over all wires, then 4 over all weights and the factor
abbrev pub scale_asks : List Weighted → ℕ → List Question
scale_asks ts factor = terms_asks (terms_of ts) ++ (question 4 (ltb factor prime) ∷ [])

-- the number of a scaling: the first no of its questions
unfoldable pub scale_no : List Weighted → ℕ → ℕ
scale_no ts factor = first_no (scale_asks ts factor)

-- what scaling answers, and the list afterwards: every weight scaled, or as it was
abbrev pub scale : List Weighted → ℕ → Outcome
scale ts factor = outcome_of (scale_no ts factor)

-- the list afterwards: every weight times the factor, or as it was
abbrev pub scale_terms : List Weighted → ℕ → List Weighted
scale_terms ts factor = on_yes (scale_no ts factor) (map (scaled_by factor) ts) ts
