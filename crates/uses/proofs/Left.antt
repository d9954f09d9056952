-- What a count of a query's cells answers and leaves: by what it answered, and by the number of the call that makes it.
-- Assumes nothing.
use Prim.Native.Nat.{ℕ, zero, suc}
use mathlib.Core.Path.{◌≡◌, refl, sym, ap, ◌∙◌, subst}
use mathlib.Core.Bool.{Bool}
use mathlib.Core.List.{List}
use Rattle.std.specs.Prelude.{Result, Ok, Err}
use Rattle.std.specs.Result.{result_and}
use Rattle.limits.specs.Outcome.{Outcome, answer_of, outcome_of, is_accepted}
use Rattle.limits.specs.Questions.{pick, ◌▸◌, first_of_two, first_no, on_yes}
use Rattle.limits.specs.declared.Refused.{Refused}
use Rattle.uses.specs.Uses.{uses_after, stray_after, uses_asks, CountsCells}

-- one answer after another, by their numbers
and-of : (j m n : ℕ) → result_and (outcome_of j) (result_and (outcome_of m) (Ok n)) ≡ answer_of (j ▸ m) n
unfolding first_of_two
and-of zero zero n = refl
and-of zero (suc m) n = refl
and-of (suc j) m n = refl

-- and the value, which is what is answered where none is a refusal
and-value : (a b : Outcome) (n : ℕ) {s : ℕ} → result_and a (result_and b (Ok n)) ≡ Ok s → s ≡ n
and-value (Ok u) (Ok v) n e = cc
and-value (Ok u) (Err e) n f = cc
and-value (Err e) b n f = cc

left-by : (k n : ℕ) (new old : List ℕ) → pick (is_accepted (answer_of k n)) new old ≡ on_yes k new old
left-by zero n new old = refl
left-by (suc k) n new old = refl

module _ (strike : Bool) (len : ℕ) (uses : List ℕ) (stray : ℕ) (cells : List ℕ) (rest : Outcome) (r : Result ℕ Refused) (left : List ℕ)
    (t : CountsCells strike len uses stray cells rest r left) where
  -- the stray count that was answered
  pub stray-left : {s : ℕ} → r ≡ Ok s → s ≡ stray_after strike len stray cells
  stray-left was = and-value _ rest _ (sym t.answer ∙ was)

  -- what is asked after 11 and 10, by its number
  module _ (m : ℕ) (is : rest ≡ outcome_of m) where
    pub counts-answer : r ≡ answer_of (first_no (uses_asks strike len uses stray cells) ▸ m) (stray_after strike len stray cells)
    counts-answer = t.answer ∙ rw is (and-of _ m _)

    pub uses-left : (k : ℕ) → first_no (uses_asks strike len uses stray cells) ▸ m ≡ k → left ≡ on_yes k (uses_after strike uses cells) uses
    uses-left k e =
        t.uses-are
        ∙ ap (λ (o : Result ℕ Refused). pick (is_accepted o) (uses_after strike uses cells) uses)
        (counts-answer ∙ ap (λ (n : ℕ). answer_of n (stray_after strike len stray cells)) e)
        ∙ left-by k _ _ _

  -- the same cells, in other words
  pub same-cells : (these : List ℕ) → cells ≡ these → CountsCells strike len uses stray these rest r left
  same-cells these e = subst (λ (l : List ℕ). CountsCells strike len uses stray l rest r left) e t
