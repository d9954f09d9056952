-- 13 and 15 by counts, as one fact of the definitions: two wires, both unassigned, on three slots, and an equation
-- weight · wire 1 = 0. Assumes nothing.
use Prim.Native.Nat.{ℕ}
use mathlib.Core.Path.{◌≡◌, refl}
use mathlib.Core.Bool.{true, false}
use mathlib.Core.List.{List, [], ◌∷◌}
use Rattle.limits.specs.Numbers.{unassigned}
use Rattle.limits.specs.Questions.{ask, first_of_two}
use Rattle.words.specs.Store.{all_below}
use Rattle.expr.specs.Equation.{Equation}
use Rattle.validated.specs.Validated.{bound_by, validated_no}
use Rattle.use_gate.specs.UseGate.{uses_below, used_no}

-- the slots of the allocated wires
abbrev slots : List ℕ
slots = unassigned ∷ unassigned ∷ []

abbrev equations : ℕ → List Equation
equations weight = record { terms = record { var = 1; weight = weight } ∷ []; image = 0 } ∷ []

-- 13 to 15 by these counts and this stray count
abbrev by : (uses : List ℕ) → (stray : ℕ) → ℕ
by uses stray = used_no 2 slots uses stray (equations 1)

-- 12 to 15 by a walk over one query
abbrev walked : (query : List ℕ) → ℕ
walked query = validated_no (record { vars = 2; publics = []; queries = query ∷ []; equations = equations 1 })

pub record Examples : Type 0 where
  -- 13: a stray cell; a count on a slot past the wire count; else yes, whatever the counts below it
  pub stray-cell : uses_below 2 (1 ∷ 1 ∷ 0 ∷ []) 1 ≡ false
  pub past-count : uses_below 2 (1 ∷ 1 ∷ 1 ∷ []) 0 ≡ false
  pub below-count : uses_below 2 (1 ∷ 7 ∷ 0 ∷ []) 0 ≡ true
  pub no-uses : uses_below 2 [] 0 ≡ true
  -- 15: by the count where the slot is unassigned, or lacking; by the slot alone where it is assigned, 0 too
  pub counted-once : bound_by slots (0 ∷ 1 ∷ 0 ∷ []) 1 ≡ true
  pub not-counted : bound_by slots (2 ∷ 0 ∷ 0 ∷ []) 1 ≡ false
  pub assigned : bound_by (unassigned ∷ 0 ∷ []) (2 ∷ 0 ∷ 0 ∷ []) 1 ≡ true
  pub no_slot : bound_by slots (0 ∷ 0 ∷ 1 ∷ []) 2 ≡ true
  pub nothing : bound_by [] [] 1 ≡ false
  -- both in order, 13 first; weight 0 is not asked
  pub accepted : by (1 ∷ 1 ∷ 0 ∷ []) 0 ≡ 0
  pub unbound : by (2 ∷ 0 ∷ 0 ∷ []) 0 ≡ 15
  pub stray-first : by (2 ∷ 0 ∷ 0 ∷ []) 1 ≡ 13
  pub past_first : by (1 ∷ 0 ∷ 1 ∷ []) 0 ≡ 13
  pub weightless : used_no 2 slots (2 ∷ 0 ∷ 0 ∷ []) 0 (equations 0) ≡ 0
  -- right counts say what the walk says; of wrong counts the answer is theirs
  pub right : walked (0 ∷ 1 ∷ []) ≡ by (1 ∷ 1 ∷ 0 ∷ []) 0
  pub wrong-bound : (walked (0 ∷ 0 ∷ []) ≡ 15) × (by (1 ∷ 1 ∷ 0 ∷ []) 0 ≡ 0)
  pub wrong-below : (walked (1 ∷ 2 ∷ []) ≡ 13) × (by (0 ∷ 1 ∷ 0 ∷ []) 0 ≡ 0)

pub examples : Examples
unfolding ask first_of_two all_below validated_no used_no
examples =
    record {
      stray-cell = refl;
      past-count = refl;
      below-count = refl;
      no-uses = refl;
      counted-once = refl;
      not-counted = refl;
      assigned = refl;
      no_slot = refl;
      nothing = refl;
      accepted = refl;
      unbound = refl;
      stray-first = refl;
      past_first = refl;
      weightless = refl;
      right = refl;
      wrong-bound = (refl, refl);
      wrong-below = (refl, refl);
    }
