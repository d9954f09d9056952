-- One wire set: the cases of the definition, by facts on numbers. Assumes nothing.
use Prim.Native.Nat.{ℕ, zero, suc, ◌≤◌}
use mathlib.Core.Path.{◌≡◌, refl, sym, ap, ◌∙◌}
use mathlib.Core.Bool.{Bool, true, false}
use mathlib.Core.List.{List}
use native.Mathlib.Omega.{arith}
use borrow.Author.Tests.{eq-eqb, ne_eqb}
use lib.ListN.{length, get_or, set, get_or-eq_default}
use lib.Seq.{set_out, set-get_or}
use Rattle.limits.specs.Numbers.{unassigned}
use Rattle.limits.specs.Questions.{ask, ◌▸◌, pick, first_no}
use Rattle.limits.proofs.Questions.{stays, goes_on, ask-yes, ask-no, ▸-assoc, ▸-zero, on_yes-no}
use Rattle.allocator.specs.Slots.{Pair, is_fresh, slot_takes, wire_asks, pair_no}
use Rattle.allocator.specs.Assign.{set_of, set_number, set_fresh, SetsItem, AssignsVar}
use Rattle.allocator.specs.declared.Set.{Set}
use Rattle.std.specs.Prelude.{Result, Ok, Err}
use Rattle.limits.specs.Outcome.{Outcome, outcome_of, refusal}
use Rattle.limits.proofs.Answered.{accepted-zero, refused-some, refused-number}
use Rattle.limits.specs.declared.Refused.{Refused}
use Rattle.allocator.specs.declared.Set.TheVariants.{Fresh, Repeated}

-- ---- answers by number
-- an answer's number is the one that it was made from
pub set-number : (k : ℕ) (fresh : Bool) → set_number (set_of k fresh) ≡ k
set-number zero true = refl
set-number zero false = refl
set-number (suc k) fresh = refl

-- an accepted one counts as fresh where it was made so
pub set-fresh : (k : ℕ) (fresh : Bool) → k ≡ 0 → set_fresh (set_of k fresh) ≡ pick fresh 1 0
set-fresh zero true z = refl
set-fresh zero false z = refl
set-fresh (suc k) fresh z = absurd (omega (arith, z))

pub set-refused : (k : ℕ) (fresh : Bool) → (k ≡ 0 → ⊥) → Err (refusal k) ≡ set_of k fresh
set-refused zero fresh h = absurd (h refl)
set-refused (suc k) fresh h = refl

-- it counts one at most
pub set-one : (s : Result Set Refused) → set_fresh s ≤ 1
set-one (Ok Fresh) = omega arith
set-one (Ok Repeated) = omega arith
set-one (Err e) = omega arith

-- ---- one item
module _ {A : Type 0} (no_of : List ℕ → A → ℕ) (pair_of : A → Pair) (slots : List ℕ) (a : A) (r : Result Set Refused) (slots₁ : List ℕ)
    (d : SetsItem no_of pair_of slots a r slots₁) where
  pub item-number : set_number r ≡ no_of slots a
  item-number = ap set_number d.answer ∙ set-number (no_of slots a) (is_fresh slots (pair_of a))

  pub item-fresh : no_of slots a ≡ 0 → set_fresh r ≡ pick (is_fresh slots (pair_of a)) 1 0
  item-fresh z = ap set_fresh d.answer ∙ set-fresh (no_of slots a) (is_fresh slots (pair_of a)) z

  pub item-refused : {e : Refused} → r ≡ Err e → e.0 ≡ 0 → ⊥
  item-refused was z = refused-some _ _ d.answer was (refused-number _ _ d.answer was ∙ z)

-- ---- one wire

-- k: what 3, 4 and 7 answer
module _ (count : ℕ) (slots : List ℕ) (p : Pair) (k : ℕ) (e : k ≡ first_no (wire_asks count p)) where
  number_is : pair_no count slots p ≡ k ▸ ask 8 (slot_takes slots p)
  unfolding pair_no
  number_is = rw e (simp (▸-assoc, ▸-zero))

  pub assign-refused : (k ≡ 0 → ⊥) → AssignsVar count slots p (Err (refusal k)) slots
  assign-refused h =
      let n : pair_no count slots p ≡ k = number_is ∙ stays _ _ h in
      record { answer = rw n (set-refused k _ h); slots = rw n (sym (on_yes-no k _ _ h)) }

  module _ (z : k ≡ 0) where
    taken : slot_takes slots p ≡ true → pair_no count slots p ≡ 0
    taken t = number_is ∙ goes_on _ _ z ∙ ask-yes 8 (slot_takes slots p) t

    pub assign-fresh : get_or slots p.var unassigned ≡ unassigned → AssignsVar count slots p (Ok Fresh) (set slots p.var p.value)
    assign-fresh u =
        let b : is_fresh slots p ≡ true = eq-eqb _ _ u in
        let n : pair_no count slots p ≡ 0 = taken (simp b) in
        record { answer = rw n (simp b); slots = rw n }

    pub assign-out : length slots ≤ p.var → AssignsVar count slots p (Ok Fresh) slots
    assign-out h =
        let r = assign-fresh (get_or-eq_default slots unassigned h) in
        record { answer = r.answer; slots = sym (set_out slots p.var p.value h) ∙ r.slots }

    module _ (u : get_or slots p.var unassigned ≡ unassigned → ⊥) where
      held : is_fresh slots p ≡ false
      held = ne_eqb _ _ u

      pub assign-repeated : get_or slots p.var unassigned ≡ p.value → AssignsVar count slots p (Ok Repeated) slots
      assign-repeated v =
          let n : pair_no count slots p ≡ 0 = taken (simp (held, eq-eqb _ p.value v)) in
          record {
            answer = rw n (simp held);
            slots = rw n (sym (ap (λ (x : ℕ). set slots p.var x) (sym v) ∙ set-get_or slots p.var unassigned));
          }

      pub assign-conflict : (get_or slots p.var unassigned ≡ p.value → ⊥) → AssignsVar count slots p (Err (refusal 8)) slots
      assign-conflict v =
          let b : slot_takes slots p ≡ false = simp (held, ne_eqb _ p.value v) in
          let n : pair_no count slots p ≡ 8 = number_is ∙ goes_on _ _ z ∙ ask-no 8 (slot_takes slots p) b in
          record { answer = rw n; slots = rw n }
