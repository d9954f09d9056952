-- Turns of the loops: a row added to another in place, rows turned one after the other, a row looked for; and one
-- unknown of the elimination. Assumes nothing.
use Prim.Native.Nat.{ℕ, zero, suc, ◌+◌, ◌-◌, ◌*◌, ◌%◌, ◌≤◌, ◌<◌}
use mathlib.Core.Path.{◌≡◌, refl, sym, ap, ◌∙◌}
use mathlib.Core.Bool.{Bool, true, false}
use mathlib.Core.List.{List, [], ◌∷◌, ◌++◌, map, append-nil}
use native.Mathlib.Omega.{arith}
use native.Mathlib.Numerals.{add-one}
use borrow.Author.Tests.{lt-ltb, le-ltb, eq-eqb, ne_eqb}
use lib.Dec.{eqb, ltb}
use lib.ListN.{length, get_or, take, drop, set, length-drop, drop_of_length-le}
use lib.Seq.{drop-cons, take_all, get_or-take, get_or-drop}
use Rattle.limits.specs.Numbers.{prime}
use Rattle.limits.specs.Questions.{pick}
use Rattle.baby_bear.specs.Field.{add_unit, mul_unit}
use Rattle.baby_bear.proofs.Ring.{add_unit-right}
use Rattle.permute.specs.Parameters.{rows_of}
use Rattle.permute.proofs.Keeps.{rows_of-length}
use Rattle.permute.proofs.Parameters.{never}
use Rattle.permute.proofs.Trace.{lent_length}
use Rattle.matrix_inverse.specs.Inverse.{Inverse, inverse, none, swap, exchange, zeros_at, pivot, swap_columns, eliminate}
use Rattle.matrix_inverse.specs.Words.{Eliminated}
use Rattle.matrix_inverse.proofs.Places.{rows_of-at, rows_of-put, row_room, row-lent}

-- a sum with a product, reduced once
pub sum-product : (a f b : ℕ) → (a + f * b) % prime ≡ add_unit a (mul_unit f b)
unfolding add_unit mul_unit
sum-product a f b = sym (add_unit-right a (f * b))

-- ---- rows turned one after the other
-- one row more is turned: what is done and what is left are the same together
turn-set : (f : List ℕ → List ℕ) (m : List (List ℕ)) (i : ℕ) (r : List ℕ) → i < length m → r ≡ f (get_or m i [])
    → take (suc i) (set m i r) ++ map f (drop (suc i) (set m i r)) ≡ take i m ++ map f (drop i m)
turn-set f [] i r h e = absurd (omega arith)
turn-set f (a ∷ m) zero r h e = rw e
turn-set f (a ∷ m) (suc i) r h e = ap (λ (l : List (List ℕ)). a ∷ l) (turn-set f m i r (omega arith) e)

-- the first i of n rows are turned by f
abbrev pub Turning : (List ℕ → List ℕ) → (w n : ℕ) → (first words : List ℕ) → ℕ → Type 0
Turning f w n first words i =
    take i (rows_of w n words) ++ map f (drop i (rows_of w n words)) ≡ map f (rows_of w n first)

module _ (f : List ℕ → List ℕ) (w n : ℕ) (first words : List ℕ) (i : ℕ) (t : Turning f w n first words i) where
  -- all of them are
  pub turning-done : n ≤ i → rows_of w n words ≡ map f (rows_of w n first)
  turning-done h =
      let k : length (rows_of w n words) ≤ i = omega (arith, rows_of-length w n words) in
      let e : take i (rows_of w n words) ++ map f (drop i (rows_of w n words)) ≡ rows_of w n words
      = rw (take_all i (rows_of w n words) k, drop_of_length-le (rows_of w n words) k) (append-nil (rows_of w n words)) in
      sym e ∙ t

  -- the next one is turned as it is lent
  pub turning-turn : i < n → length words ≡ n * w → (r : List ℕ)
      → r ≡ f (take (i * w + w - i * w) (drop (i * w) words)) → length r ≡ length (take (i * w + w - i * w) (drop (i * w) words))
      → Turning f w n first (take (i * w) words ++ (r ++ drop (i * w + w - i * w) (drop (i * w) words))) (i + 1)
  turning-turn h l r e k =
      let s : i * w + w - i * w ≡ w = omega arith in
      let lr : length r ≡ w = k ∙ lent_length words (i * w) w (row_room w n i words h l) in
      let p : rows_of w n (take (i * w) words ++ (r ++ drop (i * w + w - i * w) (drop (i * w) words))) ≡ set (rows_of w n words) i r
      = rw s (rows_of-put w n i words r h l lr) in
      let q : r ≡ f (get_or (rows_of w n words) i []) = e ∙ ap f (row-lent w n i words h l) in
      rw (p, add-one) (turn-set f (rows_of w n words) i r (omega (arith, rows_of-length w n words)) q ∙ t)

-- ---- the first row that can be solved
-- it is looked for from row i on
abbrev pub Seeking : (w c : ℕ) → List ℕ → ℕ → Type 0
Seeking w c words i = i + zeros_at c (drop i (rows_of w w words)) ≡ pivot c (rows_of w w words)

module _ (w c : ℕ) (words : List ℕ) where
  -- at first from row c on
  pub seeking-start : Seeking w c words c
  unfolding pivot
  seeking-start = refl

  module _ (i : ℕ) (s : Seeking w c words i) where
    -- no row is left: there's none
    pub seeking-none : i ≡ w → w ≡ pivot c (rows_of w w words)
    unfolding zeros_at
    seeking-none h =
        let k : length (rows_of w w words) ≤ i = omega (arith, rows_of-length w w words) in
        let e : i + zeros_at c (drop i (rows_of w w words)) ≡ w = rw (drop_of_length-le (rows_of w w words) k) (omega arith) in
        sym e ∙ s

    module _ (h : i < w) where
      -- row i is the first of the rows left
      seeking-rest : drop i (rows_of w w words) ≡ get_or (rows_of w w words) i [] ∷ drop (suc i) (rows_of w w words)
      seeking-rest = drop-cons (rows_of w w words) i [] (omega (arith, rows_of-length w w words))

      -- its word c is what is looked at
      seeking-word : c < w → get_or (get_or (rows_of w w words) i []) c 0 ≡ get_or words (i * w + c) 0
      seeking-word k = rw (rows_of-at w w i words h, get_or-take w (drop (i * w) words) c 0 k, get_or-drop (i * w) words c 0)

      -- it isn't 0: row i is the one
      pub seeking-here : c < w → (get_or words (i * w + c) 0 % prime ≡ 0 → ⊥) → i ≡ pivot c (rows_of w w words)
      unfolding zeros_at
      seeking-here k z =
          let e : i + zeros_at c (drop i (rows_of w w words)) ≡ i
          = rw (seeking-rest, seeking-word k, ne_eqb (get_or words (i * w + c) 0 % prime) 0 z) (omega arith) in
          sym e ∙ s

      -- it's 0: on to the next
      pub seeking-next : c < w → get_or words (i * w + c) 0 % prime ≡ 0 → Seeking w c words (i + 1)
      unfolding zeros_at
      seeking-next k z =
          let e : i + zeros_at c (drop i (rows_of w w words)) ≡ i + 1 + zeros_at c (drop (i + 1) (rows_of w w words))
          = rw (add-one i, seeking-rest, seeking-word k, eq-eqb (get_or words (i * w + c) 0 % prime) 0 z) (omega arith) in
          sym e ∙ s

-- ---- the elimination
-- at the front are at most as many rows with 0 as there are rows
zeros-few : (c : ℕ) (m : List (List ℕ)) → zeros_at c m ≤ length m
unfolding zeros_at
zeros-few c [] = omega arith
zeros-few c (r ∷ m) = go (eqb (get_or r c 0 % prime) 0) (zeros-few c m)
  where
    go : (t : Bool) → zeros_at c m ≤ length m → pick t (suc (zeros_at c m)) 0 ≤ suc (length m)
    go true h = omega arith
    go false h = omega arith

-- the row that is found is one of the w rows, or w
pivot-within : (w c i : ℕ) (words : List ℕ) → c ≤ w → i ≡ pivot c (rows_of w w words) → i ≤ w
unfolding pivot
pivot-within w c i words h e =
    omega (arith, e, zeros-few c (drop c (rows_of w w words)), length-drop c (rows_of w w words), rows_of-length w w words)

-- where an unknown is left and a row found for it, both are below w
pub pivot-below : (w c i : ℕ) (words : List ℕ) → c ≤ w → (c ≡ w → ⊥) → i ≡ pivot c (rows_of w w words) → (i ≡ w → ⊥) → (c < w) × (i < w)
pivot-below w c i words h n e z = (omega (arith, n), omega (arith, z, pivot-within w c i words h e))

-- one unknown, and then the others
eliminate-suc : (w c : ℕ) (m : List (List ℕ)) → c < w
    → eliminate (w - c) c m
    ≡ pick (ltb (pivot c m) (length m)) (swap_columns c (pivot c m) (eliminate (w - (c + 1)) (c + 1) (exchange c (swap [] c (pivot c m) m)))) none
unfolding eliminate
eliminate-suc w c m h =
    let e : w - c ≡ suc (w - (c + 1)) = omega arith in ap (λ (k : ℕ). eliminate k c m) e ∙ rw add-one

-- where there is no inverse, there's none with its columns exchanged
swapped-no : (w c i : ℕ) (n : Inverse) (says : Bool) (words words' : List ℕ) → Eliminated w n says words → says ≡ false
    → Eliminated w (swap_columns c i n) false words'
swapped-no w c i (inverse n) says words words' e f = absurd (never says f e.0)
swapped-no w c i none says words words' e f = refl

-- and where there is one, the words whose columns are exchanged have its rows
swapped-yes : (w c i : ℕ) (n : Inverse) (says : Bool) (words words' : List ℕ) → Eliminated w n says words → says ≡ true
    → rows_of w w words' ≡ map (swap 0 c i) (rows_of w w words) → Eliminated w (swap_columns c i n) true words'
swapped-yes w c i (inverse n) says words words' e t s = (refl, s ∙ ap (map (swap 0 c i)) e.1)
swapped-yes w c i none says words words' e t s = absurd (never says e t)

module _ (w c : ℕ) (words : List ℕ) where
  -- no unknown is left: the rows are the inverse's
  pub eliminated-all : c ≡ w → Eliminated w (eliminate (w - c) c (rows_of w w words)) true words
  unfolding eliminate
  eliminated-all h = let z : w - c ≡ 0 = omega arith in rw z (refl, refl)

  module _ (h : c ≤ w) (n : c ≡ w → ⊥) (i : ℕ) (e : i ≡ pivot c (rows_of w w words)) where
    -- an unknown is left
    below : c < w
    below = omega (arith, n)

    -- no row can be solved: there's no inverse
    pub eliminated-none : i ≡ w → (words' : List ℕ) → Eliminated w (eliminate (w - c) c (rows_of w w words)) false words'
    eliminated-none z words' =
        let k : length (rows_of w w words) ≤ pivot c (rows_of w w words) = omega (arith, rows_of-length w w words, e) in
        rw (eliminate-suc w c (rows_of w w words) below, le-ltb _ _ k) refl

    -- a row is found, put in its place and solved, and the other unknowns are done
    module _ (z : i ≡ w → ⊥) (one two three : List ℕ) (says : Bool)
        (e₁ : rows_of w w one ≡ swap [] c i (rows_of w w words))
        (e₂ : rows_of w w two ≡ exchange c (rows_of w w one))
        (e₃ : Eliminated w (eliminate (w - (c + 1)) (c + 1) (rows_of w w two)) says three) where
      -- then its inverse is theirs, with the columns exchanged
      turned : eliminate (w - c) c (rows_of w w words) ≡ swap_columns c i (eliminate (w - (c + 1)) (c + 1) (rows_of w w two))
      turned =
          let k : pivot c (rows_of w w words) < length (rows_of w w words)
          = omega (arith, rows_of-length w w words, e, (pivot-below w c i words h n e z).1) in
          rw (eliminate-suc w c (rows_of w w words) below, lt-ltb _ _ k, ← e, e₂, e₁)

      -- they have none
      pub eliminated-no : says ≡ false → Eliminated w (eliminate (w - c) c (rows_of w w words)) false three
      eliminated-no f = rw turned (swapped-no w c i (eliminate (w - (c + 1)) (c + 1) (rows_of w w two)) says three three e₃ f)

      -- they have one, and its columns are exchanged
      pub eliminated-yes : says ≡ true → (four : List ℕ) → rows_of w w four ≡ map (swap 0 c i) (rows_of w w three)
          → Eliminated w (eliminate (w - c) c (rows_of w w words)) true four
      eliminated-yes t four s = rw turned (swapped-yes w c i (eliminate (w - (c + 1)) (c + 1) (rows_of w w two)) says three four e₃ t s)
