-- A permutation of units by its parameters (document 01 calls them the sheet, "R rounds, each a kind and w
-- constants, then w·w matrix units row by row"), as maps on lists. Assumes nothing.
use Rattle.std.specs.Prelude.{ℕ, zero, suc, List, [], ◌∷◌, map}
use Rattle.baby_bear.specs.Field.{add_unit, seventh, dot_units}

-- a round: its kind, and its w constants
pub record Round : Type 0 where
  pub kind : ℕ
  pub constants : List ℕ

-- the round of this kind with these constants
abbrev pub round_of : ℕ → List ℕ → Round
round_of kind constants = record { kind = kind; constants = constants }

-- the rounds in order, and the matrix row by row
pub record Parameters : Type 0 where
  pub rounds : List Round
  pub matrix : List (List ℕ)

-- f of each element and the word at its place in another list; an element that has none there stays
unfoldable pub pairwise : (ℕ → ℕ → ℕ) → List ℕ → List ℕ → List ℕ
pairwise f cs [] = []
pairwise f [] (a ∷ x) = a ∷ x
pairwise f (c ∷ cs) (a ∷ x) = f a c ∷ pairwise f cs x

-- f of every element (kind 0) or only of element 0 (kind 1)
unfoldable pub on_kind : (ℕ → ℕ) → ℕ → List ℕ → List ℕ
on_kind f kind [] = []
on_kind f zero (a ∷ x) = f a ∷ map f x
on_kind f (suc k) (a ∷ x) = f a ∷ x

-- "a round adds constant i to element i,"
abbrev pub add_constants : List ℕ → List ℕ → List ℕ
add_constants cs x = pairwise add_unit cs x

-- "raises every element (kind 0) or only element 0 (kind 1) to the 7th power,"
abbrev pub raise : ℕ → List ℕ → List ℕ
raise kind x = on_kind seventh kind x

-- "and replaces element i by the sum over j of M[i][j] times element j"
unfoldable pub times_matrix : List (List ℕ) → List ℕ → List ℕ
times_matrix [] x = []
times_matrix (row ∷ m) x = dot_units row x ∷ times_matrix m x

-- one round: the three in this order
unfoldable pub run_round : List (List ℕ) → Round → List ℕ → List ℕ
run_round m r x = times_matrix m (raise r.kind (add_constants r.constants x))

-- one round after the other; "R = 0 returns its input"
unfoldable pub run_rounds : List (List ℕ) → List Round → List ℕ → List ℕ
run_rounds m [] x = x
run_rounds m (r ∷ rs) x = run_rounds m rs (run_round m r x)

-- the permutation that the parameters are: every round, with the one matrix
abbrev pub permute : Parameters → List ℕ → List ℕ
permute ps x = run_rounds ps.matrix ps.rounds x
