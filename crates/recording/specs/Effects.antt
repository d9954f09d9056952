-- What each call that records does, its parts by name: the answer, told as the caller has it (`as_is` or, for C, as a
-- struct), and each lent store. A store's ₀ is what it held before the call, its ₁ what it holds after it.
-- Assumes nothing.
use Rattle.permutation.specs.Records.{Recorded, Allocated}
use Rattle.std.specs.Prelude.{ℕ, ◌≡◌, List, length}
use Rattle.expr.specs.Equation.{Term}
use Rattle.recording.specs.Answers.{add_permutation, add_permutation_queries, add_permutation_uses, allocate_permutation, allocate_permutation_slots, allocate_permutation_queries, allocate_permutation_uses, add_equation, add_equation_equations}
use Rattle.permutation.specs.declared.PermutationRelation.{PermutationRelation}

-- record: the slots are only looked at
pub record AddsPermutation {A : Type 0} (told : Recorded → A) (rel : PermutationRelation) (slots queries₀ uses₀ input output : List ℕ)
    (r : A) (queries₁ uses₁ : List ℕ) : Type 0 where
  pub answer : r ≡ told (add_permutation rel (length slots) queries₀ uses₀ input output)
  pub queries : queries₁ ≡ add_permutation_queries rel (length slots) queries₀ uses₀ input output
  pub uses : uses₁ ≡ add_permutation_uses rel (length slots) queries₀ uses₀ input output

-- mint
pub record AllocatesPermutation {A : Type 0} (told : Allocated → A) (rel : PermutationRelation) (slots₀ queries₀ uses₀ input : List ℕ)
    (r : A) (slots₁ queries₁ uses₁ : List ℕ) : Type 0 where
  pub answer : r ≡ told (allocate_permutation rel slots₀ queries₀ uses₀ input)
  pub slots : slots₁ ≡ allocate_permutation_slots rel slots₀ queries₀ uses₀ input
  pub queries : queries₁ ≡ allocate_permutation_queries rel slots₀ queries₀ uses₀ input
  pub uses : uses₁ ≡ allocate_permutation_uses rel slots₀ queries₀ uses₀ input

-- equation
pub record AddsEquation {A : Type 0} (told : Recorded → A) (rel : PermutationRelation) (equations₀ : List ℕ) (terms : List Term) (image : ℕ)
    (r : A) (equations₁ : List ℕ) : Type 0 where
  pub answer : r ≡ told (add_equation rel equations₀ terms image)
  pub equations : equations₁ ≡ add_equation_equations rel equations₀ terms image
