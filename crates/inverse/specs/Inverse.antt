-- The way back through a permutation, as maps on lists; and what an input is, and two inputs that share an output.
-- Assumes nothing.
use Rattle.std.specs.Prelude.{ℕ, ◌≡◌, List, [], ◌∷◌}
use Rattle.baby_bear.specs.Field.{add_unit}
use Rattle.permute.specs.Permute.{Round, pairwise, on_kind, times_matrix, Parameters, permute}
use Rattle.powers.specs.Powers.{seventh_root}
use Rattle.matrix_inverse.specs.Rows.{neg_unit}
use Rattle.matrix_inverse.specs.Inverse.{Units, Inverse, inverse, none, invert_matrix}

-- ---- what they are
-- x is the input that gives y: the permutation turns it into y, and no other list of w units
pub record OnlyInput (w : ℕ) (ps : Parameters) (y x : List ℕ) : Type 0 where
  pub units : Units w x
  pub gives : permute ps x ≡ y
  pub only : (z : List ℕ) → Units w z → permute ps z ≡ y → z ≡ x

-- two different lists of w units share an output
pub record SharedOutput (w : ℕ) (ps : Parameters) : Type 0 where
  pub first : List ℕ
  pub second : List ℕ
  pub first-units : Units w first
  pub second-units : Units w second
  pub differ : first ≡ second → ⊥
  pub share : permute ps first ≡ permute ps second

-- ---- how the input is found
-- the difference modulo p
unfoldable pub sub_unit : ℕ → ℕ → ℕ
sub_unit a b = add_unit a (neg_unit b)

-- constant i taken away from element i
abbrev pub sub_constants : List ℕ → List ℕ → List ℕ
sub_constants cs x = pairwise sub_unit cs x

-- the 7th root of every element (kind 0) or only of element 0 (kind 1)
abbrev pub lower : ℕ → List ℕ → List ℕ
lower kind x = on_kind seventh_root kind x

-- one round undone by the inverse of the matrix: what the round does last is undone first
unfoldable pub undo_round : List (List ℕ) → Round → List ℕ → List ℕ
undo_round n r y = sub_constants r.constants (lower r.kind (times_matrix n y))

-- all rounds undone, the last one first
unfoldable pub undo_rounds : List (List ℕ) → List Round → List ℕ → List ℕ
undo_rounds n [] y = y
undo_rounds n (r ∷ rs) y = undo_round n r (undo_rounds n rs y)

-- the same by an inverse that was found; where none was, nothing is undone
abbrev pub undo_with : Inverse → List Round → List ℕ → List ℕ
undo_with (inverse n) rs y = undo_rounds n rs y
undo_with none rs y = y

-- the permutation undone; the matrix is inverted once
abbrev pub permute_inverse : Parameters → List ℕ → List ℕ
permute_inverse ps y = undo_with (invert_matrix ps.matrix) ps.rounds y
