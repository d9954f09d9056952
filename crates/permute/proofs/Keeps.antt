-- Each map of a round gives as many elements as it should, and units: so does a whole permutation.
-- Assumes nothing.
use Prim.Native.Nat.{ℕ, zero, suc, ◌<◌}
use mathlib.Core.Path.{◌≡◌, refl, ap}
use mathlib.Core.Bool.{true}
use mathlib.Core.List.{List, [], ◌∷◌, map}
use lib.Dec.{lit<}
use lib.ListN.{length, drop, length-map}
use Rattle.limits.specs.Numbers.{prime}
use Rattle.limits.specs.Below.{all_below}
use Rattle.limits.proofs.Below.{below-cons, cons-below}
use Rattle.baby_bear.specs.Field.{are_units, mul_unit, sum_units, product_units, dot_units}
use Rattle.baby_bear.proofs.Ring.{add_unit-below}
use Rattle.permute.specs.Permute.{Round, pairwise, on_kind, add_constants, raise, times_matrix, run_round, run_rounds}
use Rattle.permute.specs.Parameters.{rows_of}

-- ---- how many
pub pairwise-length : (f : ℕ → ℕ → ℕ) (cs x : List ℕ) → length (pairwise f cs x) ≡ length x
unfolding pairwise
pairwise-length f cs [] = refl
pairwise-length f [] (a ∷ x) = refl
pairwise-length f (c ∷ cs) (a ∷ x) = ap suc (pairwise-length f cs x)

pub on_kind-length : (f : ℕ → ℕ) (kind : ℕ) (x : List ℕ) → length (on_kind f kind x) ≡ length x
unfolding on_kind
on_kind-length f kind [] = refl
on_kind-length f zero (a ∷ x) = ap suc (length-map x f)
on_kind-length f (suc kind) (a ∷ x) = refl

pub times_matrix-length : (m : List (List ℕ)) (x : List ℕ) → length (times_matrix m x) ≡ length m
unfolding times_matrix
times_matrix-length [] x = refl
times_matrix-length (row ∷ m) x = ap suc (times_matrix-length m x)

pub rows_of-length : (w n : ℕ) (words : List ℕ) → length (rows_of w n words) ≡ n
unfolding rows_of
rows_of-length w zero words = refl
rows_of-length w (suc n) words = ap suc (rows_of-length w n (drop w words))

-- ---- units
pub dot_units-below : (r x : List ℕ) → dot_units r x < prime
unfolding dot_units
dot_units-below [] x = lit< tt
dot_units-below (a ∷ r) [] = lit< tt
dot_units-below (a ∷ r) (b ∷ x) = add_unit-below (mul_unit a b) (sum_units (product_units r x))

module _ (f : ℕ → ℕ → ℕ) (below : (a b : ℕ) → f a b < prime) where
  pub pairwise-units : (cs x : List ℕ) → are_units x ≡ true → are_units (pairwise f cs x) ≡ true
  unfolding pairwise
  pairwise-units cs [] e = e
  pairwise-units [] (a ∷ x) e = e
  pairwise-units (c ∷ cs) (a ∷ x) e =
      cons-below prime (f a c) (pairwise f cs x) (below a c) (pairwise-units cs x (below-cons prime a x e).1)

module _ (f : ℕ → ℕ) (below : (a : ℕ) → f a < prime) where
  pub map-units : (x : List ℕ) → are_units (map f x) ≡ true
  unfolding all_below
  map-units [] = refl
  map-units (a ∷ x) = cons-below prime (f a) (map f x) (below a) (map-units x)

  pub on_kind-units : (kind : ℕ) (x : List ℕ) → are_units x ≡ true → are_units (on_kind f kind x) ≡ true
  unfolding on_kind
  on_kind-units kind [] e = e
  on_kind-units zero (a ∷ x) e = map-units (a ∷ x)
  on_kind-units (suc kind) (a ∷ x) e = cons-below prime (f a) x (below a) (below-cons prime a x e).1

pub times_matrix-units : (m : List (List ℕ)) (x : List ℕ) → are_units (times_matrix m x) ≡ true
unfolding times_matrix all_below
times_matrix-units [] x = refl
times_matrix-units (row ∷ m) x = cons-below prime (dot_units row x) (times_matrix m x) (dot_units-below row x) (times_matrix-units m x)

-- ---- a round, and all rounds over a matrix of as many rows as the state has elements
module _ (m : List (List ℕ)) where
  pub run_round-length : (r : Round) (x : List ℕ) → length (run_round m r x) ≡ length m
  unfolding run_round
  run_round-length r x = times_matrix-length m (raise r.kind (add_constants r.constants x))

  pub run_round-units : (r : Round) (x : List ℕ) → are_units (run_round m r x) ≡ true
  unfolding run_round
  run_round-units r x = times_matrix-units m (raise r.kind (add_constants r.constants x))

  pub run_rounds-length : (rs : List Round) (x : List ℕ) → length x ≡ length m → length (run_rounds m rs x) ≡ length m
  unfolding run_rounds
  run_rounds-length [] x e = e
  run_rounds-length (r ∷ rs) x e = run_rounds-length rs (run_round m r x) (run_round-length r x)

  pub run_rounds-units : (rs : List Round) (x : List ℕ) → are_units x ≡ true → are_units (run_rounds m rs x) ≡ true
  unfolding run_rounds
  run_rounds-units [] x e = e
  run_rounds-units (r ∷ rs) x e = run_rounds-units rs (run_round m r x) (run_round-units r x)
