-- Worked examples of fresh and repeated (document 02's R-5), as one fact of the definitions: on three wires, of which wire 0
-- holds 0 and wires 1 and 2 hold nothing yet. Assumes nothing.
use Prim.Native.Nat.{ℕ}
use mathlib.Core.Path.{◌≡◌, refl}
use mathlib.Core.List.{List, [], ◌∷◌}
use Rattle.limits.specs.Numbers.{prime, unassigned}
use Rattle.limits.specs.Questions.{ask, first_of_two}
use Rattle.allocator.specs.Slots.{Pair, pair, pair_no, is_fresh, ran, set_items, set_run}
use Rattle.allocator.specs.Assign.{set_of}
use Rattle.allocator.specs.declared.Set.{Set}
use Rattle.std.specs.Prelude.{Result, Ok, Err}
use Rattle.limits.specs.Outcome.{refusal}
use Rattle.limits.specs.declared.Refused.{Refused}
use Rattle.allocator.specs.declared.Set.TheVariants.{Fresh, Repeated}

-- the slots with wires 1 and 2 so
abbrev slots : (one two : ℕ) → List ℕ
slots one two = 0 ∷ one ∷ two ∷ []

abbrev before : List ℕ
before = slots unassigned unassigned

-- what one set answers
abbrev set : List ℕ → Pair → Result Set Refused
set held p = set_of (pair_no 3 held p) (is_fresh held p)

pub record Examples : Type 0 where
  -- a value is fresh once, 0 too; wire 0 has its value from the start
  pub first : set before (pair 1 7) ≡ Ok Fresh
  pub again : set (slots 7 unassigned) (pair 1 7) ≡ Ok Repeated
  pub zero-first : set before (pair 1 0) ≡ Ok Fresh
  pub zero-wire : set before (pair 0 0) ≡ Ok Repeated
  -- a refused set is neither
  pub other : set (slots 7 unassigned) (pair 1 8) ≡ Err (refusal 8)
  pub unheld : set before (pair 3 7) ≡ Err (refusal 7)
  -- nor is one on a slot that holds no unit; a wire below the count whose slot the store lacks is fresh
  pub no-unit : set (slots prime unassigned) (pair 1 7) ≡ Err (refusal 8)
  pub no_slot : set_of (pair_no 4 before (pair 3 7)) (is_fresh before (pair 3 7)) ≡ Ok Fresh
  -- of a list the second occurrence is repeated, and so is wire 0
  pub twice : set_run 3 before (pair 1 7 ∷ pair 1 7 ∷ []) ≡ ran 0 2 1 (slots 7 unassigned)
  pub both : set_run 3 before (pair 0 0 ∷ pair 1 7 ∷ pair 2 7 ∷ pair 1 7 ∷ []) ≡ ran 0 4 2 (slots 7 7)
  -- a refused pair ends the count, fresh as it would be, and whatever follows
  pub refused : set_run 3 before (pair 1 7 ∷ pair 2 prime ∷ pair 2 7 ∷ []) ≡ ran 4 1 1 (slots 7 unassigned)
  pub refused-repeat : set_run 3 before (pair 0 0 ∷ pair 0 5 ∷ pair 1 7 ∷ []) ≡ ran 8 1 0 before

pub examples : Examples
unfolding ask first_of_two pair_no set_items
examples =
    record {
      first = refl;
      again = refl;
      zero-first = refl;
      zero-wire = refl;
      other = refl;
      unheld = refl;
      no-unit = refl;
      no_slot = refl;
      twice = refl;
      both = refl;
      refused = refl;
      refused-repeat = refl;
    }
