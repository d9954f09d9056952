-- What is answered and left by a number k that the code found, which is that of the definition: refused where
-- it is not 0, accepted where it is. Assumes nothing.
use Prim.Native.Nat.{ℕ, zero, suc}
use mathlib.Core.Path.{◌≡◌, refl, sym, ap, ◌∙◌}
use mathlib.Core.List.{List}
use Rattle.std.specs.Prelude.{Bool, true, false, Result, Ok, Err}
use Rattle.std.specs.Result.{result_and}
use Rattle.limits.specs.Questions.{ask, first_of_two, ◌▸◌, on_yes}
use Rattle.limits.specs.Outcome.{Outcome, answer_of, outcome_of, outcome_number, asked, refusal}
use Rattle.limits.specs.declared.Refused.{Refused}

-- an answer's number is the one that it was made from
pub outcome-number : (k : ℕ) → outcome_number (outcome_of k) ≡ k
outcome-number zero = refl
outcome-number (suc k) = refl

pub outcome-refused : (k : ℕ) → (k ≡ 0 → ⊥) → Err (refusal k) ≡ outcome_of k
outcome-refused zero h = absurd (h refl)
outcome-refused (suc k) h = refl

pub answer-refused : {A : Type 0} (k : ℕ) (a : A) → (k ≡ 0 → ⊥) → Err (refusal k) ≡ answer_of k a
answer-refused zero a h = absurd (h refl)
answer-refused (suc k) a h = refl

pub outcome-accepted : (k : ℕ) → k ≡ 0 → outcome_of 0 ≡ outcome_of k
outcome-accepted k z = rw z

pub stays_by : {A : Type 0} (k : ℕ) (new old : A) → (k ≡ 0 → ⊥) → old ≡ on_yes k new old
stays_by zero new old h = absurd (h refl)
stays_by (suc k) new old h = refl

-- an accepted one's number is 0, and a refused one's is its own, and not 0
pub accepted-zero : {A : Type 0} (k : ℕ) (a : A) {b : A} {r : Result A Refused} → r ≡ answer_of k a → r ≡ Ok b → k ≡ 0
accepted-zero zero a is was = refl
accepted-zero (suc k) a is was = cc

pub refused-number : {A : Type 0} (k : ℕ) (a : A) {e : Refused} {r : Result A Refused} → r ≡ answer_of k a → r ≡ Err e → k ≡ e.0
refused-number zero a is was = cc
refused-number (suc k) a is was = cc

pub refused-some : {A : Type 0} (k : ℕ) (a : A) {e : Refused} {r : Result A Refused} → r ≡ answer_of k a → r ≡ Err e → k ≡ 0 → ⊥
refused-some zero a is was z = cc
refused-some (suc k) a is was z = cc

pub refused-own : {A : Type 0} (k : ℕ) (a : A) {e : Refused} {r : Result A Refused} → r ≡ answer_of k a → r ≡ Err e → e.0 ≡ 0 → ⊥
refused-own k a is was z = refused-some k a is was (refused-number k a is was ∙ z)

-- so an answer with that number is the definition's
pub refused-is : {A : Type 0} {o : Result A Refused} {e : Refused} (k : ℕ) (a : A) → o ≡ Err e → e.0 ≡ k → (e.0 ≡ 0 → ⊥) → o ≡ answer_of k a
refused-is {e = e} k a is n h = is ∙ answer-refused e.0 a h ∙ ap (λ (m : ℕ). answer_of m a) n

-- ---- one answer after another
-- a question with a number
pub asked-is : (k : ℕ) (says : Bool) → asked (suc k) says ≡ outcome_of (ask (suc k) says)
unfolding ask
asked-is k true = refl
asked-is k false = refl

-- the first no of two
pub and-is : (n m : ℕ) → result_and (outcome_of n) (outcome_of m) ≡ outcome_of (n ▸ m)
unfolding first_of_two
and-is zero m = refl
and-is (suc n) m = refl

-- a store
module _ (no k : ℕ) (e : k ≡ no) (new old : List ℕ) where
  pub store-refused : (k ≡ 0 → ⊥) → old ≡ on_yes no new old
  store-refused h = rw (sym e) (stays_by k new old h)

  pub store-accepted : k ≡ 0 → new ≡ on_yes no new old
  store-accepted z = let q : no ≡ 0 = sym e ∙ z in rw q
