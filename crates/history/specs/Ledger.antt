-- The ledger of a relation (document 01 calls it the book): what its calls were given and answered, and
-- never what record or stores hold. Assumes nothing.
use Rattle.std.specs.Prelude.{ℕ, Bool, ◌||◌, List}
use Rattle.words.specs.Pieces.{flat}
use Rattle.allocator.specs.Slots.{Pair}
use Rattle.expr.specs.Equation.{Equation}
use Rattle.instance.specs.Parts.{pair_vars, has}

-- the wires allocated so far (01's n), the accepted sets, the recorded queries of 2w cells each, the equations
pub record Ledger : Type 0 where
  pub count : ℕ
  pub sets : List Pair
  pub queries : List (List ℕ)
  pub equations : List Equation

-- a wire is known if a set or a query names it
abbrev pub known : Ledger → ℕ → Bool
known ledger x = has (pair_vars ledger.sets) x || has (flat ledger.queries) x
