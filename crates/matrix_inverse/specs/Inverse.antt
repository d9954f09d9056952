-- The inverse of a square matrix of units, by exchanging its unknowns one after the other, or that there is none;
-- and what an inverse and a singular matrix are. Assumes nothing.
use Rattle.std.specs.Prelude.{ℕ, zero, suc, ◌+◌, ◌%◌, ◌≡◌, Bool, true, false, List, [], ◌∷◌, map, eqb, ltb, length, get_or, set, drop, replicate}
use Rattle.limits.specs.Numbers.{prime}
use Rattle.limits.specs.Questions.{pick}
use Rattle.words.specs.Store.{All}
use Rattle.baby_bear.specs.Field.{are_units}
use Rattle.permute.specs.Permute.{times_matrix}
use Rattle.matrix_inverse.specs.Rows.{solve_row, substitute}

-- ---- what they are
-- a list of w units
pub record Units (w : ℕ) (x : List ℕ) : Type 0 where
  pub size : length x ≡ w
  pub below : are_units x ≡ true

-- n is the inverse of m: m turns x into y exactly where n turns y into x, for all lists of w units
pub record Inverts (w : ℕ) (m n : List (List ℕ)) : Type 0 where
  pub to : (x y : List ℕ) → Units w x → Units w y → times_matrix m x ≡ y → times_matrix n y ≡ x
  pub from : (x y : List ℕ) → Units w x → Units w y → times_matrix n y ≡ x → times_matrix m x ≡ y

-- m is singular: it turns a list of w units that aren't all 0 into 0
pub record Singular (w : ℕ) (m : List (List ℕ)) : Type 0 where
  pub vector : List ℕ
  pub units : Units w vector
  pub some : vector ≡ replicate w 0 → ⊥
  pub sent : times_matrix m vector ≡ replicate w 0

-- a matrix of w rows of w words
pub record Square (w : ℕ) (m : List (List ℕ)) : Type 0 where
  pub count : length m ≡ w
  pub rows : All (λ r. length r ≡ w) m

-- ---- how the inverse is found
-- a list with places i and j exchanged; d stands for what is not there
abbrev pub swap : {A : Type 0} → A → ℕ → ℕ → List A → List A
swap d i j l = set (set l i (get_or l j d)) j (get_or l i d)

-- u[c] and v[c] exchanged: row c solved for u[c], and the solution put into the other rows
unfoldable pub exchange : ℕ → List (List ℕ) → List (List ℕ)
exchange c m = set (map (substitute c (solve_row c (get_or m c []))) m) c (solve_row c (get_or m c []))

-- how many rows at the front have 0 at c
unfoldable pub zeros_at : ℕ → List (List ℕ) → ℕ
zeros_at c [] = 0
zeros_at c (r ∷ m) = pick (eqb (get_or r c 0 % prime) 0) (suc (zeros_at c m)) 0

-- the first row from c on that can be solved for u[c], or as many as there are
unfoldable pub pivot : ℕ → List (List ℕ) → ℕ
pivot c m = c + zeros_at c (drop c m)

-- an inverse, or none
pub data Inverse : Type 0 where
  inverse : List (List ℕ) → Inverse
  none : Inverse

-- its columns c and i exchanged
abbrev pub swap_columns : ℕ → ℕ → Inverse → Inverse
swap_columns c i (inverse n) = inverse (map (swap 0 c i) n)
swap_columns c i none = none

-- k unknowns from c on: row c is exchanged with the first that can be solved for u[c], that one is solved, and the rest
-- done; the columns are exchanged as the rows were
unfoldable pub eliminate : ℕ → ℕ → List (List ℕ) → Inverse
eliminate zero c m = inverse m
eliminate (suc k) c m =
    pick (ltb (pivot c m) (length m))
    (swap_columns c (pivot c m) (eliminate k (suc c) (exchange c (swap [] c (pivot c m) m))))
    none

-- all unknowns
abbrev pub invert_matrix : List (List ℕ) → Inverse
invert_matrix m = eliminate (length m) 0 m

-- is there an inverse?
abbrev pub is_found : Inverse → Bool
is_found (inverse n) = true
is_found none = false
