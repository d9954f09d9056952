-- `validated`: the gate's questions on parts, 16 and 12 to 15 (the source's `PermutationInstance::validated`).
-- Assumes nothing.
use Rattle.std.specs.Prelude.{ℕ, ◌≡◌, Bool, not, ◌||◌, List, [], ◌∷◌, ◌++◌, eqb, ltb, leb, get_or, replicate}
use Rattle.limits.specs.Numbers.{unassigned}
use Rattle.limits.specs.Questions.{Question, question, first_no}
use Rattle.limits.specs.Outcome.{Outcome, outcome_of}
use Rattle.words.specs.Store.{all_below}
use Rattle.words.specs.Pieces.{flat}
use Rattle.expr.specs.Equation.{Term, Equation}
use Rattle.instance.specs.Parts.{Parts, pair_vars, has}

-- a wire is bound if it is public or in a query; no equation binds
abbrev pub bound : Parts → ℕ → Bool
bound parts x = has (pair_vars parts.publics) x || has (flat parts.queries) x

-- a wire is bound by slots and counts if its slot is assigned or its count is above 0
abbrev pub bound_by : (slots uses : List ℕ) → ℕ → Bool
bound_by slots uses x = not (eqb (get_or slots x unassigned) unassigned) || ltb 0 (get_or uses x 0)

-- term by term: 14 is the wire below the count, 15 is it bound, or its weight 0?
abbrev pub gate_terms_asks : ℕ → (ℕ → Bool) → List Term → List Question
gate_terms_asks vars binds [] = []
gate_terms_asks vars binds (t ∷ ts) =
    question 14 (ltb t.var vars) ∷ question 15 (binds t.var || eqb t.weight 0) ∷ gate_terms_asks vars binds ts

-- of every equation, in order
abbrev pub termwise_asks : ℕ → (ℕ → Bool) → List Equation → List Question
termwise_asks vars binds [] = []
termwise_asks vars binds (e ∷ es) = gate_terms_asks vars binds e.terms ++ termwise_asks vars binds es

-- 12 of all publics, 13, whether the queries are below the count, then 14 and 15, by what binds
abbrev pub validated_asks_by : (below : Bool) → (binds : ℕ → Bool) → Parts → List Question
validated_asks_by below binds parts =
    question 12 (all_below parts.vars (pair_vars parts.publics))
    ∷ question 13 below
    ∷ termwise_asks parts.vars binds parts.equations

-- 13 and 15 by a walk over the queries
abbrev pub validated_asks : Parts → List Question
validated_asks parts = validated_asks_by (all_below parts.vars (flat parts.queries)) (bound parts) parts

-- their first no, or 0
unfoldable pub validated_no : Parts → ℕ
validated_no parts = first_no (validated_asks parts)

-- 16, whether scratch has a word per wire, and then 12 to 15: what a gate and a read end with
abbrev pub gate_asks_by : (below : Bool) → (binds : ℕ → Bool) → Parts → ℕ → List Question
gate_asks_by below binds parts scratch = question 16 (leb parts.vars scratch) ∷ validated_asks_by below binds parts

-- by a walk over the queries: of a read, and of all that works on parts
abbrev pub gate_asks : Parts → ℕ → List Question
gate_asks parts scratch = gate_asks_by (all_below parts.vars (flat parts.queries)) (bound parts) parts scratch

-- their first no, or 0
unfoldable pub gate_no : Parts → ℕ → ℕ
gate_no parts scratch = first_no (gate_asks parts scratch)

-- what `ask_validated` ensures: accepted or refused with their first no, and scratch all 0
pub record AsksValidated (parts : Parts) (len : ℕ) (r : Outcome) (left : List ℕ) : Type 0 where
  pub answer : r ≡ outcome_of (gate_no parts len)
  pub scratch : left ≡ replicate len 0
