-- The number that each withdrawal shows in relation r of an allocator is the first no of its whole list of questions, in
-- document 01's order. Assumes nothing.
use Prim.Native.Nat.{ℕ}
use mathlib.Core.Path.{◌≡◌, refl}
use mathlib.Core.Bool.{true}
use mathlib.Core.List.{List, [], ◌∷◌}
use lib.Dec.{ltb}
use lib.ListN.{length, take}
use Rattle.limits.specs.Questions.{question, first_no}
use Rattle.limits.specs.Outcome.{outcome_number}
use Rattle.limits.proofs.Answered.{outcome-number}
use Rattle.expr.specs.Equation.{ends_right}
use Rattle.uses.specs.Uses.{uses_asks}
use Rattle.permutation.specs.Sharing.{Sharing}
use Rattle.permutation.specs.declared.PermutationRelation.{PermutationRelation}
use Rattle.recording.specs.Relation.{add_equation_front}
use Rattle.withdraw.specs.Relation.{withdraw_equation_asks_with, withdraw_equation_no, cells_at, withdraw_query_front, withdraw_query_asks_with, withdraw_query_no}
use Rattle.sharing.specs.Shares.{on_allocator, shares}
use Rattle.sharing.specs.declared.VarAllocator.{VarAllocator}
use Rattle.sharing.specs.declared.SharedRelation.{SharedRelation}
use Rattle.sharing.specs.Records.{RecordedOn}
use Rattle.sharing.proofs.Numbers.{puts-in, subsequence, number-on}
use Rattle.shared_recording.specs.Answers.{add_equation_on_no}
use Rattle.shared_withdraw.specs.Answers.{withdraw_equation_on, withdraw_query_on_no, withdraw_query_on}

module _ (a : VarAllocator) (r : ℕ) (m : SharedRelation) where
  abbrev x : PermutationRelation
  x = on_allocator a m

  abbrev h : Sharing
  h = shares a r m

  -- an equation
  pub withdraw_equation_on-number : (equations : List ℕ) (i : ℕ)
      → outcome_number (withdraw_equation_on a r m equations i).outcome ≡ first_no (withdraw_equation_asks_with h x equations i)
  unfolding add_equation_on_no withdraw_equation_no
  withdraw_equation_on-number equations i =
      number-on a r m (λ (g : Sharing). add_equation_front g x (length equations))
      (search puts-in depth 20) (search subsequence depth 40)
      (λ (q : RecordedOn). outcome_number q.outcome)
      (question 45 (ltb i m.equations) ∷ question 11 (ends_right m.equations (take m.words equations)) ∷ []) _ _
      (outcome-number (withdraw_equation_no x equations i)) refl

  -- a query
  pub withdraw_query_on-number : (slots : ℕ) (queries uses : List ℕ) (i : ℕ)
      → outcome_number (withdraw_query_on a r m slots queries uses i).outcome ≡ first_no (withdraw_query_asks_with h x slots queries uses i)
  unfolding withdraw_query_on_no withdraw_query_no
  withdraw_query_on-number slots queries uses i =
      number-on a r m (λ (g : Sharing). withdraw_query_front g x slots (length queries) (length uses))
      (search puts-in depth 20) (search subsequence depth 40)
      (λ (q : RecordedOn). outcome_number q.outcome)
      (question 45 (ltb i m.queries) ∷ uses_asks true slots uses m.stray (cells_at x queries i)) _ _
      (outcome-number (withdraw_query_no x slots queries uses i)) refl
