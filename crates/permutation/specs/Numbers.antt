-- The number that each call on a relation's wires answers: the first no of its questions. Assumes nothing.
use Rattle.std.specs.Prelude.{ℕ, List}
use Rattle.limits.specs.Questions.{first_no}
use Rattle.allocator.specs.Slots.{Pair}
use Rattle.permutation.specs.Sharing.{alone}
use Rattle.permutation.specs.Relation.{new_relation_asks, allocate_vars_asks, set_var_asks, set_vars_front, value_of_asks, is_allocated_asks}
use Rattle.permutation.specs.declared.PermutationRelation.{PermutationRelation}

-- of fresh
unfoldable pub new_relation_no : (width len uses : ℕ) → ℕ
new_relation_no width len uses = first_no (new_relation_asks width len uses)

-- of allocate
unfoldable pub allocate_vars_no : PermutationRelation → ℕ → ℕ → ℕ
allocate_vars_no rel len n = first_no (allocate_vars_asks rel len n)

-- of set
unfoldable pub set_var_no : PermutationRelation → List ℕ → Pair → ℕ
set_var_no rel slots p = first_no (set_var_asks rel slots p)

-- of the set list, what comes before the pairs
unfoldable pub set_vars_no : PermutationRelation → ℕ → List ℕ → List ℕ → ℕ
set_vars_no rel len vars values = first_no (set_vars_front alone rel len vars values)

-- of the value of a wire
unfoldable pub value_of_no : PermutationRelation → ℕ → ℕ → ℕ
value_of_no rel len var = first_no (value_of_asks rel len var)

-- of the question whether a wire is allocated
unfoldable pub is_allocated_no : PermutationRelation → ℕ → ℕ
is_allocated_no rel var = first_no (is_allocated_asks rel var)
