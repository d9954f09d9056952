-- What record and stores hold, in the terms of a reader who kept a book of the calls: the wire count, the
-- sets (newest first), the queries and the equations. What lies in the stores past what they hold is free.
-- Assumes nothing.
use Rattle.std.specs.Prelude.{ℕ, ◌+◌, ◌≤◌, ◌≡◌, true, List, length}
use Rattle.limits.specs.Numbers.{max_count, max_width}
use Rattle.words.specs.Store.{all_below, All, Begins}
use Rattle.words.specs.Pieces.{flat}
use Rattle.uses.specs.Uses.{UseCounts}
use Rattle.allocator.specs.Slots.{Pair}
use Rattle.expr.specs.Equation.{Equation, equations_words, equations_held}
use Rattle.permutation.specs.declared.PermutationRelation.{PermutationRelation}
use Rattle.permutation.specs.State.{HoldsSlots}

-- the store begins with the queries' words, 2w each
pub record HoldsQueries (width count : ℕ) (store : List ℕ) (queries : List (List ℕ)) : Type 0 where
  pub counts : count ≡ length queries
  pub widths : All (λ q. length q ≡ width + width) queries
  pub below : all_below max_count (flat queries) ≡ true
  pub begins : Begins (flat queries) store
  pub sized : 1 ≤ count → length store ≤ max_count

-- the store begins with the equations' words
pub record HoldsEquations (count used : ℕ) (store : List ℕ) (equations : List Equation) : Type 0 where
  pub counts : count ≡ length equations
  pub words : used ≡ length (equations_words equations)
  pub below : equations_held equations ≡ true
  pub begins : Begins (equations_words equations) store
  pub sized : 1 ≤ count → length store ≤ max_count

-- the record and the four stores; the width is the one given to fresh
pub record Holds (width : ℕ) (rel : PermutationRelation) (slots queries equations uses : List ℕ)
    (n : ℕ) (sets : List Pair) (asked : List (List ℕ)) (stated : List Equation) : Type 0 where
  pub least : 1 ≤ width
  pub most : width ≤ max_width
  pub width_is : rel.width ≡ width
  pub count : rel.vars ≡ n
  pub in_slots : HoldsSlots rel.vars slots sets
  pub in_queries : HoldsQueries width rel.queries queries asked
  pub in_equations : HoldsEquations rel.equations rel.words equations stated
  -- each use count is that of the queries' cells, and so is the stray count
  pub counts : UseCounts (length slots) (flat asked) uses rel.stray
