-- Document 01's starred examples of these calls, as one fact of the definitions: from a fresh relation of
-- width 1 on eight slots that held anything before. And set lists with what of them is fresh (document 02's R-5): on three
-- slots, of which wires 1 and 2 hold nothing yet. Assumes nothing.
use Prim.Native.Nat.{ℕ}
use mathlib.Core.Path.{◌≡◌, refl}
use mathlib.Core.List.{List, [], ◌∷◌}
use Rattle.std.specs.Prelude.{Err, Ok}
use Rattle.limits.specs.Outcome.{Outcome, refusal}
use Rattle.limits.specs.Numbers.{unassigned}
use Rattle.limits.specs.Questions.{ask, first_of_two}
use Rattle.baby_bear.specs.Field.{add_unit, mul_unit}
use Rattle.allocator.specs.Slots.{pair, pair_no, set_items}
use Rattle.permutation.specs.Numbers.{new_relation_no, allocate_vars_no, set_var_no, set_vars_no}
use Rattle.permutation.specs.Answers.{relation, new_relation, new_slots, new_uses, set_var, set_vars_run, set_vars, allocate_vars}
use Rattle.permutation.specs.declared.PermutationRelation.{PermutationRelation}
use Rattle.allocator.specs.declared.Set.TheVariants as set
use Rattle.permutation.specs.declared.SetVars.{SetVars}

abbrev before : List ℕ
before = 9 ∷ 8 ∷ 7 ∷ 6 ∷ 5 ∷ 4 ∷ 3 ∷ 2 ∷ []

-- one wire, and an 8-slot store
abbrev one : PermutationRelation
one = (new_relation 1 before before).relation

abbrev slots : List ℕ
slots = new_slots 1 before before

pub record Examples : Type 0 where
  pub sum : add_unit 2013265920 1 ≡ 0
  pub product : mul_unit 2013265920 2013265920 ≡ 1
  pub set-zero : set_var one slots (pair 0 0) ≡ Ok set.Repeated
  pub set-five : set_var one slots (pair 0 5) ≡ Err (refusal 8)
  pub allocate-all : (allocate_vars one slots 1073741824).first ≡ Err (refusal 5)
  pub allocate-rest : (allocate_vars one slots 1073741823).first ≡ Err (refusal 6)

pub examples : Examples
unfolding ask first_of_two add_unit mul_unit new_relation_no set_var_no allocate_vars_no
examples = record { sum = refl; product = refl; set-zero = refl; set-five = refl; allocate-all = refl; allocate-rest = refl }

-- ---- fresh and its use store (document 02's R-6)
pub record Fresh : Type 0 where
  -- 6 before 10; a use store that is short, long, or larger than any store
  pub no_slot : new_relation_no 1 0 1 ≡ 6
  pub short : new_relation_no 1 3 2 ≡ 10
  pub long : new_relation_no 1 3 4 ≡ 10
  pub too_large : new_relation_no 1 0 1073741825 ≡ 2
  -- cleared where it is accepted, else as it was
  pub cleared : new_uses 1 (9 ∷ 9 ∷ []) (3 ∷ 3 ∷ []) ≡ 0 ∷ 0 ∷ []
  pub refused : new_uses 1 (9 ∷ 9 ∷ []) (3 ∷ []) ≡ 3 ∷ []

pub fresh : Fresh
unfolding ask first_of_two new_relation_no
fresh = record { no_slot = refl; short = refl; long = refl; too_large = refl; cleared = refl; refused = refl }

-- ---- set lists
-- a list on a relation of this width and count
abbrev listed : (width count : ℕ) → (vars values : List ℕ) → SetVars
listed width count = set_vars (relation width count 0 0 0 0) (0 ∷ unassigned ∷ unassigned ∷ [])

-- an answer
abbrev told : Outcome → (accepted fresh : ℕ) → SetVars
told outcome accepted fresh = record { outcome = outcome; accepted = accepted; fresh = fresh }

pub record Lists : Type 0 where
  -- wire 1 twice and wire 0: of four accepted ones two are fresh
  pub whole : listed 1 3 (1 ∷ 0 ∷ 1 ∷ 2 ∷ []) (7 ∷ 0 ∷ 7 ∷ 7 ∷ []) ≡ told (Ok tt) 4 2
  -- what follows the refused pair isn't counted
  pub refused : listed 1 3 (1 ∷ 0 ∷ 1 ∷ 2 ∷ []) (7 ∷ 0 ∷ 8 ∷ 7 ∷ []) ≡ told (Err (refusal 8)) 2 1
  -- 9 comes after the common pairs, which count
  pub cut : listed 1 3 (1 ∷ 2 ∷ []) (7 ∷ []) ≡ told (Err (refusal 9)) 1 1
  -- at 1 and 2 nothing is tried
  pub widthless : listed 0 3 (1 ∷ []) (7 ∷ []) ≡ told (Err (refusal 1)) 0 0
  pub unfit : listed 1 4 (1 ∷ []) (7 ∷ []) ≡ told (Err (refusal 2)) 0 0

pub lists : Lists
unfolding ask first_of_two set_vars_no pair_no set_items set_vars_run
lists = record { whole = refl; refused = refl; cut = refl; widthless = refl; unfit = refl }
