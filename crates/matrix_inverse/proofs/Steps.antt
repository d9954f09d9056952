-- One step of the elimination, with the search for a row to solve: the row is exchanged with row c, u[c] and v[c] are
-- exchanged, and what is given and what it gives are then the same lists but for two places. Assumes nothing.
use Prim.Native.Nat.{ℕ, zero, suc, ◌+◌, ◌-◌, ◌%◌, ◌≤◌, ◌<◌}
use mathlib.Core.Path.{◌≡◌, refl, sym, ap, ◌∙◌, subst}
use mathlib.Core.Bool.{Bool, true, false}
use mathlib.Core.List.{List, [], ◌∷◌, map}
use native.Mathlib.Omega.{arith}
use native.Mathlib.Decide.{ℕ_discrete}
use borrow.Author.Tests.{eqb-true, eqb-false, lt-ltb, le-ltb}
use lib.Dec.{eqb}
use lib.ListN.{length, get_or, set, drop, length-set, length-map, length-drop}
use lib.Seq.{get_or-drop}
use Rattle.limits.specs.Numbers.{prime}
use Rattle.limits.specs.Questions.{pick}
use Rattle.words.specs.Store.{All}
use Rattle.baby_bear.specs.Field.{are_units, dot}
use Rattle.baby_bear.proofs.Mod.{Same, same, ◌⟫◌}
use Rattle.matrix_inverse.specs.Inverse.{Square, swap, exchange, zeros_at, pivot, none, swap_columns, eliminate}
use Rattle.matrix_inverse.proofs.Lists.{get_or-mapped, all_get_d, all-mapped, length-swap, swap-first, swap-second, swap-other, swap-swap, all-swap, joined, joined-swap, joined-swapped, joined-exchanged}
use Rattle.matrix_inverse.proofs.Dots.{dot-swap}
use Rattle.matrix_inverse.proofs.Exchange.{Says, exchange-square, exchange-to, exchange-from}
use Rattle.matrix_inverse.proofs.Units.{exchange-units}

-- ---- the row that is solved
-- before the first row that can be solved, word c is 0
zeros_at-before : (c : ℕ) (m : List (List ℕ)) (j : ℕ) → j < zeros_at c m → get_or (get_or m j []) c 0 % prime ≡ 0
unfolding zeros_at
zeros_at-before c [] j h = absurd (omega arith)
zeros_at-before c (r ∷ m) j h = go (eqb (get_or r c 0 % prime) 0) refl j h (zeros_at-before c m)
  where
    go : (b : Bool) → eqb (get_or r c 0 % prime) 0 ≡ b → (j : ℕ) → j < pick b (suc (zeros_at c m)) 0
        → ((j : ℕ) → j < zeros_at c m → get_or (get_or m j []) c 0 % prime ≡ 0) → get_or (get_or (r ∷ m) j []) c 0 % prime ≡ 0
    go true t zero h ih = eqb-true (get_or r c 0 % prime) 0 t
    go true t (suc j) h ih = ih j (omega arith)
    go false t j h ih = absurd (omega arith)

-- in that row it is not
zeros_at-at : (c : ℕ) (m : List (List ℕ)) → zeros_at c m < length m → get_or (get_or m (zeros_at c m) []) c 0 % prime ≡ 0 → ⊥
unfolding zeros_at
zeros_at-at c [] h = absurd (omega arith)
zeros_at-at c (r ∷ m) h = go (eqb (get_or r c 0 % prime) 0) refl h (zeros_at-at c m)
  where
    go : (b : Bool) → eqb (get_or r c 0 % prime) 0 ≡ b → pick b (suc (zeros_at c m)) 0 < suc (length m)
        → (zeros_at c m < length m → get_or (get_or m (zeros_at c m) []) c 0 % prime ≡ 0 → ⊥)
        → get_or (get_or (r ∷ m) (pick b (suc (zeros_at c m)) 0) []) c 0 % prime ≡ 0 → ⊥
    go true t h ih = ih (omega arith)
    go false t h ih = eqb-false (get_or r c 0 % prime) 0 t

module _ (c : ℕ) (m : List (List ℕ)) where
  -- it stands at c or later
  pivot-from : c ≤ pivot c m
  unfolding pivot
  pivot-from = omega arith

  -- and can be solved
  pivot-solvable : pivot c m < length m → get_or (get_or m (pivot c m) []) c 0 % prime ≡ 0 → ⊥
  unfolding pivot
  pivot-solvable h e =
      let j : ℕ = zeros_at c (drop c m) in
      zeros_at-at c (drop c m) (omega (arith, length-drop c m))
      (ap (λ (r : List ℕ). get_or r c 0 % prime) (get_or-drop c m j []) ∙ e)

  -- where there is none, word c is 0 in every row from c on
  pub pivot-none : length m ≤ pivot c m → (j : ℕ) → c ≤ j → j < length m → get_or (get_or m j []) c 0 % prime ≡ 0
  unfolding pivot
  pivot-none h j l b =
      let e : c + (j - c) ≡ j = omega arith in
      ap (λ (k : ℕ). get_or (get_or m k []) c 0 % prime) (sym e)
      ∙ ap (λ (r : List ℕ). get_or r c 0 % prime) (sym (get_or-drop c m (j - c) []))
      ∙ zeros_at-before c (drop c m) (j - c) (omega arith)

-- ---- rows and columns exchanged
-- the rows of a matrix, and the words that they give
says-swapped : (c i : ℕ) (m : List (List ℕ)) (u v : List ℕ) → c < length m → i < length m → length v ≡ length m
    → Says m u v → Says (swap [] c i m) u (swap 0 c i v)
says-swapped c i m u v hc hi l says = record { row = λ k h. at k (omega (arith, length-swap [] c i m)) (ℕ_discrete k c) (ℕ_discrete k i) }
  where
    at : (k : ℕ) → k < length m → Dec (k ≡ c) → Dec (k ≡ i) → Same prime (dot (get_or (swap [] c i m) k []) u) (get_or (swap 0 c i v) k 0)
    at k h (yes e) b =
        same (ap (λ (j : ℕ). dot (get_or (swap [] c i m) j []) u) e ∙ ap (λ (r : List ℕ). dot r u) (swap-first [] c i m hc hi))
        ⟫ says.row i hi ⟫ same (sym (ap (λ (j : ℕ). get_or (swap 0 c i v) j 0) e ∙ swap-first 0 c i v (omega arith) (omega arith)))
    at k h (no n) (yes e) =
        same (ap (λ (j : ℕ). dot (get_or (swap [] c i m) j []) u) e ∙ ap (λ (r : List ℕ). dot r u) (swap-second [] c i m hc hi))
        ⟫ says.row c hc ⟫ same (sym (ap (λ (j : ℕ). get_or (swap 0 c i v) j 0) e ∙ swap-second 0 c i v (omega arith) (omega arith)))
    at k h (no n) (no o) =
        same (ap (λ (r : List ℕ). dot r u) (swap-other [] c i m k n o)) ⟫ says.row k h ⟫ same (sym (swap-other 0 c i v k n o))

-- and back
says_back : (c i : ℕ) (m : List (List ℕ)) (u v : List ℕ) → c < length m → i < length m → length v ≡ length m
    → Says (swap [] c i m) u (swap 0 c i v) → Says m u v
says_back c i m u v hc hi l says =
    let k = length-swap [] c i m in
    let t = says-swapped c i (swap [] c i m) u (swap 0 c i v) (omega (arith, k)) (omega (arith, k)) (length-swap 0 c i v ∙ l ∙ sym k) says in
    subst (λ (n : List (List ℕ)). Says n u v) (swap-swap [] c i m hc hi)
    (subst (λ (z : List ℕ). Says (swap [] c i (swap [] c i m)) u z) (swap-swap 0 c i v (omega arith) (omega arith)) t)

-- a matrix with columns exchanged is square where it was
pub columns-square : (w c i : ℕ) (n : List (List ℕ)) → Square w n → Square w (map (swap 0 c i) n)
columns-square w c i n sq = record {
  count = length-map n (swap 0 c i) ∙ sq.count;
  rows =
      all-mapped (λ (r : List ℕ). length r ≡ w) (λ (r : List ℕ). length r ≡ w) (swap 0 c i) n
      (λ r l. length-swap 0 c i r ∙ l) sq.rows;
}

-- the columns of a matrix, and the words that it is given
module _ (w c i : ℕ) (n : List (List ℕ)) (z y : List ℕ) (hc : c < w) (hi : i < w) (sq : Square w n) (l : length z ≡ w) where
  -- one row
  column : (k : ℕ) → k < length n → dot (get_or (map (swap 0 c i) n) k []) z ≡ dot (get_or n k []) (swap 0 c i z)
  column k h =
      let e = all_get_d (λ (r : List ℕ). length r ≡ w) n k [] h sq.rows in
      ap (λ (r : List ℕ). dot r z) (get_or-mapped (swap 0 c i) n k [] [] h)
      ∙ dot-swap (get_or n k []) z c i (omega (arith, e)) (omega (arith, e)) (e ∙ sym l)

  -- a matrix with columns exchanged says what it said of a list with those words exchanged
  pub columns-to : Says n (swap 0 c i z) y → Says (map (swap 0 c i) n) z y
  columns-to says = record {
    row = λ k h. let b : k < length n = omega (arith, length-map n (swap 0 c i)) in same (column k b) ⟫ says.row k b;
  }

  -- and back
  pub columns-from : Says (map (swap 0 c i) n) z y → Says n (swap 0 c i z) y
  columns-from says = record {
    row = λ k h. same (sym (column k h)) ⟫ says.row k (omega (arith, length-map n (swap 0 c i)));
  }

-- ---- one step
-- the matrix after it
unfoldable pub stepped : ℕ → List (List ℕ) → List (List ℕ)
stepped c m = exchange c (swap [] c (pivot c m) m)

-- where there is a row to solve, the rest is done with that matrix
pub eliminate-step : (k c : ℕ) (m : List (List ℕ)) → pivot c m < length m
    → eliminate (suc k) c m ≡ swap_columns c (pivot c m) (eliminate k (suc c) (stepped c m))
unfolding eliminate stepped
eliminate-step k c m h = simp (lt-ltb (pivot c m) (length m) h)

-- where there is none, there is no inverse
pub eliminate-stuck : (k c : ℕ) (m : List (List ℕ)) → length m ≤ pivot c m → eliminate (suc k) c m ≡ none
unfolding eliminate
eliminate-stuck k c m h = simp (le-ltb (pivot c m) (length m) h)

-- u after it, where row c is exchanged with row i: v[i] stands at c
abbrev pub given : ℕ → ℕ → List ℕ → List ℕ → List ℕ
given c i u v = set u c (get_or (swap 0 c i v) c 0)

-- v after it: v with c and i exchanged, and u[c] at c
abbrev pub gives : ℕ → ℕ → List ℕ → List ℕ → List ℕ
gives c i u v = set (swap 0 c i v) c (get_or u c 0)

-- as many words as before
pub given-length : (c i : ℕ) (u v : List ℕ) → length (given c i u v) ≡ length u
given-length c i u v = length-set u c (get_or (swap 0 c i v) c 0)

-- so has v
pub gives-length : (c i : ℕ) (u v : List ℕ) → length (gives c i u v) ≡ length v
gives-length c i u v = length-set (swap 0 c i v) c (get_or u c 0) ∙ length-swap 0 c i v

module _ (w c : ℕ) (m : List (List ℕ)) (hc : c < w) (sq : Square w m) (found : pivot c m < length m) where
  -- the row that is solved
  abbrev i : ℕ
  i = pivot c m

  -- row c is there
  hm : c < length m
  hm = omega (arith, sq.count)

  -- with the two rows exchanged the matrix is square
  swapped-square : Square w (swap [] c i m)
  swapped-square = record {
    count = length-swap [] c i m ∙ sq.count;
    rows = all-swap (λ (r : List ℕ). length r ≡ w) [] c i m hm found sq.rows;
  }

  -- the matrix after it is square
  pub stepped-square : Square w (stepped c m)
  unfolding stepped
  stepped-square = exchange-square w c (swap [] c i m) hc swapped-square

  -- and of units where it was
  pub stepped-units : All (λ (r : List ℕ). are_units r ≡ true) m → All (λ (r : List ℕ). are_units r ≡ true) (stepped c m)
  unfolding stepped
  stepped-units a =
      exchange-units c (swap [] c i m) (all-swap (λ (r : List ℕ). are_units r ≡ true) [] c i m hm found a)

  -- row c can be solved once it is the pivot
  solvable : get_or (get_or (swap [] c i m) c []) c 0 % prime ≡ 0 → ⊥
  solvable e = pivot-solvable c m found (ap (λ (r : List ℕ). get_or r c 0 % prime) (sym (swap-first [] c i m hm found)) ∙ e)

  module _ (u v : List ℕ) (lu : length u ≡ w) (lv : length v ≡ w) where
    -- v with the two words exchanged is as long
    l1 : length (swap 0 c i v) ≡ w
    l1 = length-swap 0 c i v ∙ lv

    -- what the matrix says of u and v, it says after the step of those after it
    pub step-to : Says m u v → Says (stepped c m) (given c i u v) (gives c i u v)
    unfolding stepped
    step-to says =
        exchange-to w c (swap [] c i m) u (swap 0 c i v) hc swapped-square lu l1 solvable
        (says-swapped c i m u v hm found (lv ∙ sym sq.count) says)

    -- and back
    pub step_from : Says (stepped c m) (given c i u v) (gives c i u v) → Says m u v
    unfolding stepped
    step_from says =
        says_back c i m u v hm found (lv ∙ sym sq.count)
        (exchange-from w c (swap [] c i m) u (swap 0 c i v) hc swapped-square lu l1 solvable says)

    -- what the inverse is given is the same but for the exchange of c and i
    pub step_given : joined (suc c) (given c i u v) (gives c i u v) ≡ swap 0 c i (joined c u v)
    step_given =
        joined-exchanged 0 c u (swap 0 c i v) (get_or u c 0) (lu ∙ sym l1)
        ∙ sym (joined-swap 0 c c i u v (lu ∙ sym lv) (omega arith) (pivot-from c m))

    -- and what it gives is the same
    pub step_gives : joined (suc c) (gives c i u v) (given c i u v) ≡ joined c v u
    step_gives =
        joined-exchanged 0 c (swap 0 c i v) u (get_or (swap 0 c i v) c 0) (l1 ∙ sym lu)
        ∙ joined-swapped 0 c c i v u (omega arith) (pivot-from c m)
