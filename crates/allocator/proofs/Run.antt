-- Items set in turn: the end, one that is refused, and one that is accepted; what a run keeps, and its number.
--
-- The loop has set i items; what is left, done to the slots as they are and counted from i, comes to the
-- whole. Assumes nothing.
use Prim.Native.Nat.{ℕ, zero, suc, ◌+◌, ◌≤◌, ◌<◌}
use mathlib.Core.Path.{◌≡◌, refl, sym, ap, ap₂, ◌∙◌}
use mathlib.Core.Bool.{Bool, true, false}
use mathlib.Core.List.{List, [], ◌∷◌}
use mathlib.Core.Logic.{◌⊎◌, inl, inr}
use native.Mathlib.Omega.{arith}
use native.Mathlib.Nat.{not-suc-le-zero, le_of_suc-le-suc}
use native.Mathlib.Numerals.{add-one}
use lib.ListN.{length, take, drop, get_or, length-set}
use Rattle.limits.specs.Questions.{Question, first_of_two, ◌▸◌, first_no, pick, on_yes}
use Rattle.limits.proofs.Questions.{on_yes-no, first_no-append}
use Rattle.limits.specs.Outcome.{Outcome, outcome_of, refusal}
use Rattle.words.specs.Store.{All}
use Rattle.std.specs.Prelude.{Result, Ok, Err}
use Rattle.limits.specs.declared.Refused.{Refused}
use Rattle.limits.proofs.Answered.{outcome-refused, outcome-accepted, stays_by}
use Rattle.allocator.specs.Slots.{Pair, pair, pairs, is_fresh, SetRun, ran, after_item, set_items, items_asks, run_after, one_accepted, with_pair}
use Rattle.allocator.specs.Assign.{how_far, Runs}

-- ---- the common pairs of two lists, from place i on: none where one of them has ended
pub pairs_end : (vars values : List ℕ) (i : ℕ) → (length vars ≤ i) ⊎ (length values ≤ i) → drop i (pairs vars values) ≡ []
pairs_end [] values zero o = refl
pairs_end [] values (suc i) o = refl
pairs_end (x ∷ vars) [] zero o = refl
pairs_end (x ∷ vars) [] (suc i) o = refl
pairs_end (x ∷ vars) (v ∷ values) zero (inl h) = absurd (not-suc-le-zero h)
pairs_end (x ∷ vars) (v ∷ values) zero (inr h) = absurd (not-suc-le-zero h)
pairs_end (x ∷ vars) (v ∷ values) (suc i) (inl h) = pairs_end vars values i (inl (le_of_suc-le-suc h))
pairs_end (x ∷ vars) (v ∷ values) (suc i) (inr h) = pairs_end vars values i (inr (le_of_suc-le-suc h))

-- ---- a run counted from i accepted and f fresh ones
abbrev pub counted : (accepted fresh : ℕ) → SetRun → SetRun
counted i f r = ran r.number (i + r.accepted) (f + r.fresh) r.slots

-- a run as the answer and the slots: what its number comes to, and how many were accepted and fresh
pub told : {a run : SetRun} {o : Outcome} → o ≡ outcome_of a.number → a ≡ run
    → Runs how_far run (record { outcome = o; accepted = a.accepted; fresh = a.fresh }) a.slots
told {a} o e = record {
  answer = ap (λ (t : Outcome). record { outcome = t; accepted = a.accepted; fresh = a.fresh }) o ∙ ap how_far e;
  slots = ap (λ (r : SetRun). r.slots) e;
}

pub from-none : (r : SetRun) → counted 0 0 r ≡ r
from-none r =
    let a : 0 + r.accepted ≡ r.accepted = omega arith in
    let f : 0 + r.fresh ≡ r.fresh = omega arith in
    ap₂ (λ (n m : ℕ). ran r.number n m r.slots) a f

-- two runs of one number and one store are told apart by their tallies
tallied : (k : ℕ) (slots : List ℕ) {i j f g : ℕ} → i ≡ j → f ≡ g → ran k i f slots ≡ ran k j g slots
tallied k slots = ap₂ (λ (n m : ℕ). ran k n m slots)

module _ {A : Type 0} (no_of : List ℕ → A → ℕ) (pair_of : A → Pair) where
  module _ (slots : List ℕ) (i f : ℕ) (whole : SetRun) where
    pub run-ended : (items : List A) → items ≡ [] → counted i f (set_items no_of pair_of slots items) ≡ whole → ran 0 i f slots ≡ whole
    unfolding set_items
    run-ended items z e =
        let n : i ≡ i + 0 = omega arith in
        let m : f ≡ f + 0 = omega arith in
        tallied 0 slots n m ∙ (rw z at e)

    module _ (a : A) (items rest : List A) (z : items ≡ a ∷ rest) (e : counted i f (set_items no_of pair_of slots items) ≡ whole) where
      pub run-refused : (k : ℕ) → k ≡ no_of slots a → (k ≡ 0 → ⊥) → ran k i f (after_item no_of pair_of slots a) ≡ whole
      unfolding set_items
      run-refused k j h =
          let n : i ≡ i + 0 = omega arith in
          let m : f ≡ f + 0 = omega arith in
          let q : no_of slots a ≡ k = sym j in
          let d = rw z at e in
          let g = simp q at d in
          rw (q, on_yes-no k (with_pair slots (pair_of a)) slots h)
          (tallied k slots n m ∙ (sym (ap (counted i f) (on_yes-no k _ (ran k 0 0 slots) h)) ∙ g))

      -- g: 1 where the item is fresh
      pub run-accepted : (g : ℕ) → g ≡ pick (is_fresh slots (pair_of a)) 1 0 → no_of slots a ≡ 0
          → counted (i + 1) (f + g) (set_items no_of pair_of (after_item no_of pair_of slots a) rest) ≡ whole
      unfolding set_items
      run-accepted g s q =
          let r = set_items no_of pair_of (with_pair slots (pair_of a)) rest in
          let n : i + 1 + r.accepted ≡ i + suc r.accepted = omega arith in
          let m : f + g + r.fresh ≡ f + (pick (is_fresh slots (pair_of a)) 1 0 + r.fresh) = omega (arith, s) in
          let d = simp q at (rw z at e) in
          rw q (tallied r.number r.slots n m ∙ d)

  -- an item keeps the store's length
  pub item-length : (slots : List ℕ) (a : A) → length (after_item no_of pair_of slots a) ≡ length slots
  item-length slots a = go (no_of slots a)
    where
      go : (k : ℕ) → length (on_yes k (with_pair slots (pair_of a)) slots) ≡ length slots
      go zero = length-set slots (pair_of a).var (pair_of a).value
      go (suc k) = refl

  -- and so does a run
  pub run_length : (items : List A) (slots : List ℕ) → length (set_items no_of pair_of slots items).slots ≡ length slots
  unfolding set_items
  run_length [] slots = refl
  run_length (a ∷ items) slots = go (no_of slots a) _ (run_length items (with_pair slots (pair_of a)))
    where
      go : (k : ℕ) (r : SetRun) → length r.slots ≡ length (with_pair slots (pair_of a))
          → length (on_yes {A = SetRun} k (one_accepted (is_fresh slots (pair_of a)) r) (ran k 0 0 slots)).slots ≡ length slots
      go zero r e = e ∙ length-set slots (pair_of a).var (pair_of a).value
      go (suc k) r e = refl

  -- no more items are accepted than there are
  pub accepted-within : (slots : List ℕ) (items : List A) → (set_items no_of pair_of slots items).accepted ≤ length items
  unfolding set_items
  accepted-within slots [] = omega arith
  accepted-within slots (a ∷ items) = go (no_of slots a) _ (accepted-within (with_pair slots (pair_of a)) items)
    where
      go : (k : ℕ) (r : SetRun) → r.accepted ≤ length items
          → (on_yes {A = SetRun} k (one_accepted (is_fresh slots (pair_of a)) r) (ran k 0 0 slots)).accepted ≤ length (a ∷ items)
      go zero r h = omega arith
      go (suc k) r h = omega arith

  -- nor are more fresh than accepted
  pub fresh-within : (slots : List ℕ) (items : List A)
      → (set_items no_of pair_of slots items).fresh ≤ (set_items no_of pair_of slots items).accepted
  unfolding set_items
  fresh-within slots [] = omega arith
  fresh-within slots (a ∷ items) =
      go (no_of slots a) (is_fresh slots (pair_of a)) _ (fresh-within (with_pair slots (pair_of a)) items)
    where
      go : (k : ℕ) (b : Bool) (r : SetRun) → r.fresh ≤ r.accepted
          → (on_yes {A = SetRun} k (one_accepted b r) (ran k 0 0 slots)).fresh
          ≤ (on_yes {A = SetRun} k (one_accepted b r) (ran k 0 0 slots)).accepted
      go zero true r h = omega arith
      go zero false r h = omega arith
      go (suc k) b r h = omega arith

  -- what an item has that is accepted, each of the accepted ones has
  pub accepted-all : (P : A → Type 0) → ((slots : List ℕ) (a : A) → no_of slots a ≡ 0 → P a)
      → (slots : List ℕ) (items : List A) → All P (take (set_items no_of pair_of slots items).accepted items)
  unfolding set_items
  accepted-all P f slots [] = tt
  accepted-all P f slots (a ∷ items) =
      go (no_of slots a) refl _ (accepted-all P f (with_pair slots (pair_of a)) items)
    where
      go : (k : ℕ) → no_of slots a ≡ k → (r : SetRun) → All P (take r.accepted items)
          → All P (take (on_yes {A = SetRun} k (one_accepted (is_fresh slots (pair_of a)) r) (ran k 0 0 slots)).accepted (a ∷ items))
      go zero e r h = (f slots a e, h)
      go (suc k) e r h = tt

  -- its number is the first no of the items' questions
  pub run-number : (asks : List ℕ → A → List Question) → ((slots : List ℕ) (a : A) → no_of slots a ≡ first_no (asks slots a))
      → (slots : List ℕ) (items : List A) → (set_items no_of pair_of slots items).number ≡ first_no (items_asks asks pair_of slots items)
  unfolding set_items first_of_two
  run-number asks n slots [] = refl
  run-number asks n slots (a ∷ items) =
      go (no_of slots a) _ (run-number asks n (with_pair slots (pair_of a)) items)
      ∙ ap (λ (k : ℕ). k ▸ first_no (items_asks asks pair_of (with_pair slots (pair_of a)) items)) (n slots a)
      ∙ sym (first_no-append (asks slots a) (items_asks asks pair_of (with_pair slots (pair_of a)) items))
    where
      go : (k : ℕ) (r : SetRun) → r.number ≡ first_no (items_asks asks pair_of (with_pair slots (pair_of a)) items)
          → (on_yes {A = SetRun} k (one_accepted (is_fresh slots (pair_of a)) r) (ran k 0 0 slots)).number
          ≡ k ▸ first_no (items_asks asks pair_of (with_pair slots (pair_of a)) items)
      go zero r e = e
      go (suc k) r e = refl

-- ---- a run behind earlier questions
pub after-number : (k : ℕ) (r : SetRun) (slots : List ℕ) → (run_after k r slots).number ≡ k ▸ r.number
unfolding first_of_two
after-number zero r slots = refl
after-number (suc k) r slots = refl

pub after-length : (k : ℕ) (r : SetRun) (slots : List ℕ) → length r.slots ≡ length slots → length (run_after k r slots).slots ≡ length slots
after-length zero r slots e = e
after-length (suc k) r slots e = refl

-- what code tells of it that found the number k of the earlier questions, and then how far the items came
module _ {A : Type 0} (tell : Outcome → (accepted fresh : ℕ) → A) (before k : ℕ) (e : k ≡ before) (slots : List ℕ) (items : SetRun) where
  abbrev Tells : A → List ℕ → Type 0
  Tells = Runs (λ r. tell (outcome_of r.number) r.accepted r.fresh) (run_after before items slots)

  tells : (r : SetRun) → r ≡ run_after before items slots → (o : Outcome) → o ≡ outcome_of r.number
      → Tells (tell o r.accepted r.fresh) r.slots
  tells r q o s = record {
    answer = λ i. tell ((s ∙ ap (λ (t : SetRun). outcome_of t.number) q) i) (q i).accepted (q i).fresh;
    slots = ap (λ (t : SetRun). t.slots) q;
  }

  pub stopped : (k ≡ 0 → ⊥) → Tells (tell (Err (refusal k)) 0 0) slots
  stopped h = tells (ran k 0 0 slots) (rw (sym e) (stays_by k items (ran k 0 0 slots) h)) (Err (refusal k)) (outcome-refused k h)

  -- j, n, f, slots₁: how far they came
  module _ (z : k ≡ 0) (j n f : ℕ) (slots₁ : List ℕ) (d : ran j n f slots₁ ≡ items) where
    went_on : ran j n f slots₁ ≡ run_after before items slots
    went_on = let y : before ≡ 0 = sym e ∙ z in rw y d

    pub items-told : (o : Outcome) → o ≡ outcome_of j → Tells (tell o n f) slots₁
    items-told o e = tells (ran j n f slots₁) went_on o e

    pub items_refused : (j ≡ 0 → ⊥) → Tells (tell (Err (refusal j)) n f) slots₁
    items_refused h = items-told (Err (refusal j)) (outcome-refused j h)

    pub items-accepted : j ≡ 0 → Tells (tell (Ok tt) n f) slots₁
    items-accepted y = items-told (Ok tt) (outcome-accepted j y)

-- there are no more pairs than wires
pub pairs-within : (vars values : List ℕ) → length (pairs vars values) ≤ length vars
pairs-within [] values = omega arith
pairs-within (x ∷ vars) [] = omega arith
pairs-within (x ∷ vars) (v ∷ values) = let r = pairs-within vars values in omega arith
