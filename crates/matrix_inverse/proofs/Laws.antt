-- What a caller has of the inverse in words: that there is one where its rows are found, and these are its rows; and
-- units row by row. Assumes nothing.
use Prim.Native.Nat.{ℕ, zero, suc, ◌*◌, ◌≤◌}
use mathlib.Core.Path.{◌≡◌, refl, sym, ap, ◌∙◌}
use mathlib.Core.Bool.{true}
use mathlib.Core.List.{List, [], ◌∷◌}
use lib.ListN.{length, drop}
use Rattle.limits.specs.Numbers.{prime, max_width}
use Rattle.limits.specs.Below.{all_below}
use Rattle.limits.proofs.Below.{true-both, below-take, below-drop}
use Rattle.words.specs.Pieces.{flat}
use Rattle.words.specs.Store.{All}
use Rattle.words.proofs.Below.{all_below-append}
use Rattle.words.proofs.Held.{flat-length}
use Rattle.baby_bear.specs.Field.{are_units}
use Rattle.permute.specs.Parameters.{rows_of}
use Rattle.permute.proofs.Keeps.{rows_of-length}
use Rattle.matrix_inverse.specs.Inverse.{Square, inverse, invert_matrix}
use Rattle.matrix_inverse.specs.Words.{inverted_words, words_or}
use Rattle.matrix_inverse.proofs.Places.{rows-flat, rows_long}
use Rattle.matrix_inverse.proofs.Inverted.{inverted-is}

-- ---- rows
-- w·w words are a matrix of w rows of w words
pub rows-square : (w : ℕ) (words : List ℕ) → length words ≡ w * w → Square w (rows_of w w words)
rows-square w words l = record { count = rows_of-length w w words; rows = rows_long w w words l }

-- the rows of units are units
pub rows-units : (w n : ℕ) (words : List ℕ) → are_units words ≡ true → All (λ r. are_units r ≡ true) (rows_of w n words)
unfolding rows_of
rows-units w zero words u = tt
rows-units w (suc n) words u = (below-take prime w words u, rows-units w n (drop w words) (below-drop prime w words u))

-- and the words of such rows are
pub flat-units : (m : List (List ℕ)) → All (λ r. are_units r ≡ true) m → are_units (flat m) ≡ true
unfolding all_below
flat-units [] a = refl
flat-units (r ∷ m) a =
    all_below-append prime r (flat m) ∙ true-both (are_units r) (are_units (flat m)) a.0 (flat-units m a.1)

-- ---- the inverse
module _ (w : ℕ) (words : List ℕ) where
  module _ (n : List (List ℕ)) (h : w ≤ max_width) (l : length words ≡ w * w) (e : invert_matrix (rows_of w w words) ≡ inverse n) where
    -- the words are those of the inverse's rows
    pub inverted-flat : inverted_words w words ≡ flat n
    inverted-flat = inverted-is w words h l ∙ ap (words_or words) e

    -- so they have its rows
    pub inverted-words : Square w n → (length (inverted_words w words) ≡ w * w) × (rows_of w w (inverted_words w words) ≡ n)
    inverted-words s = (
      ap length inverted-flat ∙ flat-length w n s.rows ∙ ap (λ (k : ℕ). k * w) s.count,
      ap (rows_of w w) inverted-flat ∙ ap (λ (k : ℕ). rows_of w k (flat n)) (sym s.count) ∙ rows-flat w n s.rows,
    )
