-- The number that each call that records answers: the first no of its questions. Assumes nothing.
use Rattle.std.specs.Prelude.{ℕ, List}
use Rattle.limits.specs.Questions.{first_no}
use Rattle.expr.specs.Equation.{Term}
use Rattle.recording.specs.Relation.{add_permutation_asks, allocate_permutation_asks, add_equation_asks}
use Rattle.permutation.specs.declared.PermutationRelation.{PermutationRelation}

-- of record
unfoldable pub add_permutation_no : PermutationRelation → (slots len : ℕ) → (uses input output : List ℕ) → ℕ
add_permutation_no rel slots len uses input output = first_no (add_permutation_asks rel slots len uses input output)

-- of mint
unfoldable pub allocate_permutation_no : PermutationRelation → (slots len : ℕ) → (uses input : List ℕ) → ℕ
allocate_permutation_no rel slots len uses input = first_no (allocate_permutation_asks rel slots len uses input)

-- of equation
unfoldable pub add_equation_no : PermutationRelation → ℕ → List Term → ℕ → ℕ
add_equation_no rel len terms image = first_no (add_equation_asks rel len terms image)
