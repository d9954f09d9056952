-- What is answered and left by a number k that the code found, which is that of the definition: refused where
-- it is not 0, accepted where it is. Assumes nothing.
use Prim.Native.Nat.{ℕ, zero, suc}
use mathlib.Core.Path.{◌≡◌, refl, sym, ◌∙◌}
use Rattle.limits.specs.Outcome.{refusal}
use Rattle.std.specs.Prelude.{Err, Ok}
use Rattle.limits.proofs.Answered.{outcome-refused, stays_by}
use Rattle.permutation.specs.Answers.{first_of, first_number, recorded_of, allocated_of}
use Rattle.permutation.specs.declared.PermutationRelation.{PermutationRelation}

-- an answer's number is the one that it was made from
pub first-number : (k v : ℕ) → first_number (first_of k v) ≡ k
first-number zero v = refl
first-number (suc k) v = refl

first-refused : (k v : ℕ) → (k ≡ 0 → ⊥) → Err (refusal k) ≡ first_of k v
first-refused zero v h = absurd (h refl)
first-refused (suc k) v h = refl

-- a call that answers an outcome and the record
module _ (no k : ℕ) (e : k ≡ no) (new given : PermutationRelation) where
  pub recorded-refused : (k ≡ 0 → ⊥) → record { outcome = Err (refusal k); relation = given } ≡ recorded_of no new given
  recorded-refused h =
      rw (sym e) (λ i. record { outcome = outcome-refused k h i; relation = stays_by k new given h i })

  pub recorded-accepted : k ≡ 0 → record { outcome = Ok tt; relation = new } ≡ recorded_of no new given
  recorded-accepted z = let q : no ≡ 0 = sym e ∙ z in rw q

  -- one that answers the first new wire and the record
  pub allocated-refused : (v : ℕ) → (k ≡ 0 → ⊥) → record { first = Err (refusal k); relation = given } ≡ allocated_of no v new given
  allocated-refused v h =
      rw (sym e) (λ i. record { first = first-refused k v h i; relation = stays_by k new given h i })

  pub allocated-accepted : (v : ℕ) → k ≡ 0 → record { first = Ok v; relation = new } ≡ allocated_of no v new given
  allocated-accepted v z = let q : no ≡ 0 = sym e ∙ z in rw q
