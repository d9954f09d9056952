-- The number that each call shows that records in relation r of an allocator is the first no of its whole list of
-- questions, in document 01's order. Assumes nothing.
use Prim.Native.Nat.{ℕ}
use mathlib.Core.Path.{◌≡◌, refl}
use mathlib.Core.List.{List, ◌++◌}
use lib.ListN.{length}
use Rattle.limits.specs.Questions.{first_no}
use Rattle.limits.specs.Outcome.{outcome_number}
use Rattle.limits.proofs.Answered.{outcome-number}
use Rattle.expr.specs.Equation.{Term}
use Rattle.permutation.specs.Sharing.{Sharing}
use Rattle.permutation.specs.Answers.{first_number}
use Rattle.permutation.specs.declared.PermutationRelation.{PermutationRelation}
use Rattle.permutation.proofs.Answered.{first-number}
use Rattle.allocator.specs.Slots.{room_asks}
use Rattle.recording.specs.Relation.{add_permutation_front, record_asks, join_asks, add_permutation_asks_with, mint_cells, allocate_permutation_front, allocate_permutation_asks_with, add_equation_front, add_equation_rest, add_equation_asks_with}
use Rattle.recording.specs.Numbers.{add_permutation_no, allocate_permutation_no, add_equation_no}
use Rattle.sharing.specs.Shares.{on_allocator, shares}
use Rattle.sharing.specs.declared.VarAllocator.{VarAllocator}
use Rattle.sharing.specs.declared.SharedRelation.{SharedRelation}
use Rattle.sharing.specs.Records.{AllocatedOn, RecordedOn}
use Rattle.sharing.proofs.Numbers.{puts-in, subsequence, number-on}
use Rattle.shared_recording.specs.Answers.{add_permutation_on_no, allocate_permutation_on_no, add_equation_on_no, add_permutation_on, allocate_permutation_on, add_equation_on}

module _ (a : VarAllocator) (r : ℕ) (m : SharedRelation) where
  abbrev x : PermutationRelation
  x = on_allocator a m

  abbrev h : Sharing
  h = shares a r m

  -- record
  pub add_permutation_on-number : (slots : ℕ) (queries uses input output : List ℕ)
      → outcome_number (add_permutation_on a r m slots queries uses input output).outcome ≡ first_no (add_permutation_asks_with h x slots (length queries) uses input output)
  unfolding add_permutation_on_no add_permutation_no
  add_permutation_on-number slots queries uses input output =
      number-on a r m (λ (g : Sharing). add_permutation_front g x slots (length queries) (length uses) input output)
      (search puts-in depth 20) (search subsequence depth 40)
      (λ (q : RecordedOn). outcome_number q.outcome) (record_asks x input output ++ join_asks x slots (length queries) uses (input ++ output)) _ _
      (outcome-number (add_permutation_no x slots (length queries) uses input output)) refl

  -- mint
  pub allocate_permutation_on-number : (slots queries uses input : List ℕ)
      → first_number (allocate_permutation_on a r m slots queries uses input).first ≡ first_no (allocate_permutation_asks_with h x (length slots) (length queries) uses input)
  unfolding allocate_permutation_on_no allocate_permutation_no
  allocate_permutation_on-number slots queries uses input =
      number-on a r m (λ (g : Sharing). allocate_permutation_front g x (length slots) (length queries) (length uses) input)
      (search puts-in depth 20) (search subsequence depth 40)
      (λ (q : AllocatedOn). first_number q.first)
      (room_asks a.vars (length slots) m.width ++ join_asks x (length slots) (length queries) uses (mint_cells x input)) _ _
      (first-number (allocate_permutation_no x (length slots) (length queries) uses input) a.vars) refl

  -- equation
  pub add_equation_on-number : (equations : List ℕ) (terms : List Term) (image : ℕ)
      → outcome_number (add_equation_on a r m equations terms image).outcome ≡ first_no (add_equation_asks_with h x (length equations) terms image)
  unfolding add_equation_on_no add_equation_no
  add_equation_on-number equations terms image =
      number-on a r m (λ (g : Sharing). add_equation_front g x (length equations))
      (search puts-in depth 20) (search subsequence depth 40)
      (λ (q : RecordedOn). outcome_number q.outcome) (add_equation_rest x (length equations) terms image) _ _
      (outcome-number (add_equation_no x (length equations) terms image)) refl
