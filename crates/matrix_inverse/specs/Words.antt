-- A matrix in words, row by row, turned into its inverse. Assumes nothing.
use Rattle.std.specs.Prelude.{ℕ, ◌*◌, ◌≡◌, Bool, true, false, ◌&&◌, List, eqb, leb, length}
use Rattle.limits.specs.Numbers.{max_width}
use Rattle.limits.specs.Questions.{pick}
use Rattle.words.specs.Pieces.{flat}
use Rattle.permute.specs.Parameters.{rows_of}
use Rattle.matrix_inverse.specs.Inverse.{Inverse, inverse, none, invert_matrix, is_found}

-- are these the words of a matrix of w rows, w at most 24?
abbrev pub is_square : ℕ → List ℕ → Bool
is_square w words = leb w max_width && eqb (length words) (w * w)

-- and has it an inverse?
unfoldable pub is_regular : ℕ → List ℕ → Bool
is_regular w words = is_square w words && is_found (invert_matrix (rows_of w w words))

-- the words of an inverse; where there is none, the words s
abbrev pub words_or : List ℕ → Inverse → List ℕ
words_or s (inverse n) = flat n
words_or s none = s

-- the words of its inverse; where it has none, or is no such matrix, the same words
unfoldable pub inverted_words : ℕ → List ℕ → List ℕ
inverted_words w words = pick (is_square w words) (words_or words (invert_matrix (rows_of w w words))) words

-- ---- for private contracts
-- what an elimination leaves: yes and the inverse's rows, or no
abbrev pub Eliminated : ℕ → Inverse → Bool → List ℕ → Type 0
Eliminated w (inverse n) says words = (says ≡ true) × (rows_of w w words ≡ n)
Eliminated w none says words = says ≡ false
