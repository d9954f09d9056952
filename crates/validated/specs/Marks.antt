-- Scratch as marks, a word per wire: 0, or 1 where the wire is bound. Only private contracts cite it.
-- Assumes nothing.
use Rattle.std.specs.Prelude.{ℕ, ◌≡◌, Bool, List, [], ◌∷◌, ltb, set}
use Rattle.limits.specs.Questions.{pick}
use Rattle.words.specs.Store.{all_below}

-- wires marked in order, up to the first that is not below the count
unfoldable pub marked : ℕ → List ℕ → List ℕ → List ℕ
marked vars [] marks = marks
marked vars (x ∷ xs) marks = pick (ltb x vars) (marked vars xs (set marks x 1)) marks

-- wires marked on what is there: whether all are below the count, and the marks afterwards
pub record Marking (vars : ℕ) (xs marks : List ℕ) (says : Bool) (left : List ℕ) : Type 0 where
  pub below : says ≡ all_below vars xs
  pub after : left ≡ marked vars xs marks
