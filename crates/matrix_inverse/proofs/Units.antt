-- Each row operation of the elimination gives units from units. Assumes nothing.
use Prim.Native.Nat.{ℕ}
use mathlib.Core.Path.{◌≡◌}
use mathlib.Core.Bool.{true}
use mathlib.Core.List.{List, [], map}
use lib.Dec.{lit<}
use lib.ListN.{get_or, set}
use Rattle.limits.specs.Numbers.{prime}
use Rattle.limits.proofs.Below.{below-get_or, below_set}
use Rattle.words.specs.Store.{All}
use Rattle.baby_bear.specs.Field.{are_units, add_unit, mul_unit}
use Rattle.baby_bear.proofs.Ring.{add_unit-below, mul_unit-below}
use Rattle.permute.proofs.Keeps.{pairwise-units, map-units}
use Rattle.powers.specs.Powers.{invert_unit}
use Rattle.powers.proofs.Roots.{invert_unit-below}
use Rattle.matrix_inverse.specs.Rows.{neg_unit, solve_row, substitute}
use Rattle.matrix_inverse.specs.Inverse.{swap, exchange}
use Rattle.matrix_inverse.proofs.Lists.{all_set, all-mapped}

-- a row solved is units, whatever it was
solve_row-units : (c : ℕ) (q : List ℕ) → are_units (solve_row c q) ≡ true
unfolding solve_row
solve_row-units c q =
    let i : ℕ = invert_unit (get_or q c 0) in
    below_set prime (map (mul_unit (neg_unit i)) q) c i (invert_unit-below (get_or q c 0))
    (map-units (mul_unit (neg_unit i)) (mul_unit-below (neg_unit i)) q)

-- a row of units with a solution put into it is units
substitute-units : (c : ℕ) (s r : List ℕ) → are_units r ≡ true → are_units (substitute c s r) ≡ true
unfolding substitute
substitute-units c s r e =
    pairwise-units (λ (a b : ℕ). add_unit a (mul_unit (get_or r c 0) b)) (λ a b. add_unit-below a (mul_unit (get_or r c 0) b))
    s (set r c 0) (below_set prime r c 0 (lit< tt) e)

-- so is a row with two places exchanged
swap-units : (c i : ℕ) (r : List ℕ) → are_units r ≡ true → are_units (swap 0 c i r) ≡ true
swap-units c i r e =
    below_set prime (set r c (get_or r i 0)) i (get_or r c 0) (below-get_or prime r c (lit< tt) e)
    (below_set prime r c (get_or r i 0) (below-get_or prime r i (lit< tt) e) e)

-- rows of units after an exchange
pub exchange-units : (c : ℕ) (m : List (List ℕ)) → All (λ (r : List ℕ). are_units r ≡ true) m
    → All (λ (r : List ℕ). are_units r ≡ true) (exchange c m)
unfolding exchange
exchange-units c m a =
    let s : List ℕ = solve_row c (get_or m c []) in
    all_set (λ (r : List ℕ). are_units r ≡ true) (map (substitute c s) m) c s (solve_row-units c (get_or m c []))
    (all-mapped (λ (r : List ℕ). are_units r ≡ true) (λ (r : List ℕ). are_units r ≡ true) (substitute c s) m (substitute-units c s) a)

-- and with columns exchanged
pub columns-units : (c i : ℕ) (n : List (List ℕ)) → All (λ (r : List ℕ). are_units r ≡ true) n
    → All (λ (r : List ℕ). are_units r ≡ true) (map (swap 0 c i) n)
columns-units c i n a =
    all-mapped (λ (r : List ℕ). are_units r ≡ true) (λ (r : List ℕ). are_units r ≡ true) (swap 0 c i) n (swap-units c i) a
