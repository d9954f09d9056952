-- The first no of two where one of them is settled, and the outcome of a number. Assumes nothing.
use Prim.Native.Nat.{ℕ, zero, suc, ◌≤◌}
use mathlib.Core.Path.{◌≡◌, refl, sym, ap, ◌∙◌}
use mathlib.Core.Bool.{Bool, true, false}
use borrow.Author.Tests.{le-leb}
use lib.Dec.{leb}
use Rattle.std.specs.Prelude.{Err, Ok}
use Rattle.limits.specs.Numbers.{max_width}
use Rattle.limits.specs.Questions.{ask, first_of_two, ◌▸◌}
use Rattle.limits.specs.Outcome.{outcome_of, outcome_number, refusal}
use Rattle.limits.proofs.Questions.{ask-yes, goes_on, ▸-zero}
use Rattle.limits.proofs.Answered.{outcome-number}

-- ---- the first no of two
-- questions that say yes do not count
pub past-yes : (n : ℕ) (b : Bool) (k : ℕ) → b ≡ true → ask n b ▸ k ≡ k
past-yes n b k e = goes_on _ k (ask-yes n b e)

pub past_fits : (n a b k : ℕ) → a ≤ b → ask n (leb a b) ▸ k ≡ k
past_fits n a b k h = past-yes n (leb a b) k (le-leb a b h)

pub past-width : (w k : ℕ) → 1 ≤ w → w ≤ max_width → ask 1 (leb 1 w) ▸ (ask 1 (leb w max_width) ▸ k) ≡ k
past-width w k least most = past_fits 1 1 w _ least ∙ past_fits 1 w max_width k most

pub then : (a b c : ℕ) → b ≡ c → a ▸ b ≡ a ▸ c
then a b c e = ap (λ (n : ℕ). a ▸ n) e

pub after-says : (k : ℕ) (b : Bool) (x y : ℕ) → (b ≡ true → x ≡ y) → ask (suc k) b ▸ x ≡ ask (suc k) b ▸ y
unfolding ask first_of_two
after-says k true x y f = f refl
after-says k false x y f = refl

-- a last question
pub then-last : (a b : ℕ) → (a ▸ 0) ▸ b ≡ a ▸ (b ▸ 0)
then-last a b = ap (λ (k : ℕ). k ▸ b) (▸-zero a) ∙ ap (λ (k : ℕ). a ▸ k) (sym (▸-zero b))

-- ---- the outcome of a number
-- accepted only at 0
pub accepted-no : (k : ℕ) → outcome_of k ≡ Ok tt → k ≡ 0
accepted-no zero e = refl
accepted-no (suc k) e = cc

-- refused with that number only
pub refused-no : (k n : ℕ) → outcome_of k ≡ Err (refusal n) → k ≡ n
refused-no k n e = sym (outcome-number k) ∙ ap outcome_number e
