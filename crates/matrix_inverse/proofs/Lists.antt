-- Laws of lists that the library lacks: an element of a mapped list, a property of every element, two places exchanged,
-- and the front of one list with the rest of another. Assumes nothing.
use Prim.Native.Nat.{ℕ, zero, suc, ◌≤◌, ◌<◌}
use mathlib.Core.Path.{◌≡◌, refl, sym, ap, ap₂, ◌∙◌}
use mathlib.Core.Bool.{true}
use mathlib.Core.List.{List, [], ◌∷◌, ◌++◌, map, append-nil}
use native.Mathlib.Omega.{arith}
use native.Mathlib.Decide.{ℕ_discrete}
use lib.ListN.{length, get_or, take, drop, set, length-set, length-map, get_or-map, drop_of_length-le}
use lib.Seq.{lt-length-set, get_or-set_same, get_or-set_other, set-get_or, take-set-le, take_all, ext_get_or}
use Rattle.limits.specs.Below.{all_below}
use Rattle.limits.proofs.Below.{true-both, below-take, below-drop}
use Rattle.words.specs.Store.{All}
use Rattle.words.proofs.Lists.{get_d_any}
use Rattle.words.proofs.Below.{all_below-append}
use Rattle.matrix_inverse.specs.Inverse.{swap}

-- ---- mapped lists
-- an element of a mapped list; within a list the defaults do not matter
pub get_or-mapped : {A B : Type 0} (f : A → B) (l : List A) (n : ℕ) (d : A) (e : B) → n < length l
    → get_or (map f l) n e ≡ f (get_or l n d)
get_or-mapped f l n d e h = get_d_any (map f l) n e (f d) (omega (arith, length-map l f)) ∙ get_or-map f l n d

-- to set an element and then to map is to set what it is mapped to
pub map-set : {A B : Type 0} (f : A → B) (l : List A) (i : ℕ) (a : A) → map f (set l i a) ≡ set (map f l) i (f a)
map-set f [] i a = refl
map-set f (x ∷ l) zero a = refl
map-set {B = B} f (x ∷ l) (suc i) a = ap (λ (k : List B). f x ∷ k) (map-set f l i a)

-- ---- a property of every element
-- so each one has it
pub all_get_d : {A : Type 0} (P : A → Type 0) (l : List A) (i : ℕ) (d : A) → i < length l → All P l → P (get_or l i d)
all_get_d P [] i d h a = absurd (omega arith)
all_get_d P (x ∷ l) zero d h a = a.0
all_get_d P (x ∷ l) (suc i) d h a = all_get_d P l i d (omega arith) a.1

-- an element with the property is set
pub all_set : {A : Type 0} (P : A → Type 0) (l : List A) (i : ℕ) (b : A) → P b → All P l → All P (set l i b)
all_set P [] i b p a = tt
all_set P (x ∷ l) zero b p a = (p, a.1)
all_set P (x ∷ l) (suc i) b p a = (a.0, all_set P l i b p a.1)

-- a map that turns the one property into the other
pub all-mapped : {A B : Type 0} (P : A → Type 0) (Q : B → Type 0) (f : A → B) (l : List A) → ((x : A) → P x → Q (f x))
    → All P l → All Q (map f l)
all-mapped P Q f [] t a = tt
all-mapped P Q f (x ∷ l) t a = (t x a.0, all-mapped P Q f l t a.1)

-- ---- two places exchanged
-- as many elements as before
pub length-swap : {A : Type 0} (d : A) (i j : ℕ) (l : List A) → length (swap d i j l) ≡ length l
length-swap d i j l = length-set (set l i (get_or l j d)) j (get_or l i d) ∙ length-set l i (get_or l j d)

-- a list with the same at both places stays
pub swap-same : {A : Type 0} (d : A) (i j : ℕ) (l : List A) → get_or l i d ≡ get_or l j d → swap d i j l ≡ l
swap-same {A} d i j l e =
    ap (λ (x : A). set (set l i x) j (get_or l i d)) (sym e) ∙ ap (λ (k : List A). set k j (get_or l i d)) (set-get_or l i d)
    ∙ ap (λ (x : A). set l j x) e ∙ set-get_or l j d

module _ {A : Type 0} (d : A) (i j : ℕ) (l : List A) (hi : i < length l) (hj : j < length l) where
  -- the second place holds what the first held
  pub swap-second : get_or (swap d i j l) j d ≡ get_or l i d
  swap-second = get_or-set_same (set l i (get_or l j d)) j (get_or l i d) d (lt-length-set l i (get_or l j d) hj)

  -- the first place holds what the second held
  pub swap-first : get_or (swap d i j l) i d ≡ get_or l j d
  swap-first = go (ℕ_discrete i j)
    where
      go : Dec (i ≡ j) → get_or (swap d i j l) i d ≡ get_or l j d
      go (yes e) =
          ap (λ (k : ℕ). get_or (swap d i j l) k d) e ∙ swap-second ∙ ap (λ (k : ℕ). get_or l k d) e
      go (no h) =
          get_or-set_other (set l i (get_or l j d)) j i (get_or l i d) d h ∙ get_or-set_same l i (get_or l j d) d hi

-- any other place holds what it held
pub swap-other : {A : Type 0} (d : A) (i j : ℕ) (l : List A) (k : ℕ) → (k ≡ i → ⊥) → (k ≡ j → ⊥)
    → get_or (swap d i j l) k d ≡ get_or l k d
swap-other d i j l k hi hj =
    get_or-set_other (set l i (get_or l j d)) j k (get_or l i d) d hj ∙ get_or-set_other l i k (get_or l j d) d hi

-- exchanged twice, they are where they were
pub swap-swap : {A : Type 0} (d : A) (i j : ℕ) (l : List A) → i < length l → j < length l → swap d i j (swap d i j l) ≡ l
swap-swap {A} d i j l hi hj = ext_get_or d (swap d i j s) l (length-swap d i j s ∙ length-swap d i j l) (λ k h. at k (ℕ_discrete k i) (ℕ_discrete k j))
  where
    s : List A
    s = swap d i j l

    si : i < length s
    si = omega (arith, length-swap d i j l)

    sj : j < length s
    sj = omega (arith, length-swap d i j l)

    at : (k : ℕ) → Dec (k ≡ i) → Dec (k ≡ j) → get_or (swap d i j s) k d ≡ get_or l k d
    at k (yes e) b = rw e (swap-first d i j s si sj ∙ swap-second d i j l hi hj)
    at k (no h) (yes e) = rw e (swap-second d i j s si sj ∙ swap-first d i j l hi hj)
    at k (no h) (no g) = swap-other d i j s k h g ∙ swap-other d i j l k h g

-- a property of every element stays
pub all-swap : {A : Type 0} (P : A → Type 0) (d : A) (i j : ℕ) (l : List A) → i < length l → j < length l → All P l → All P (swap d i j l)
all-swap P d i j l hi hj a =
    all_set P (set l i (get_or l j d)) j (get_or l i d) (all_get_d P l i d hi a)
    (all_set P l i (get_or l j d) (all_get_d P l j d hj a) a)

-- ---- the front of one list and the rest of another
-- the first c elements of u, and v from c on
unfoldable pub joined : {A : Type 0} → ℕ → List A → List A → List A
joined c u v = take c u ++ drop c v

module _ {A : Type 0} where
  -- nothing of u
  pub joined-zero : (u v : List A) → joined 0 u v ≡ v
  unfolding joined
  joined-zero u v = refl

  -- all of u
  pub joined-all : (c : ℕ) (u v : List A) → length u ≤ c → length v ≤ c → joined c u v ≡ u
  unfolding joined
  joined-all c u v h g =
      ap₂ {B = List A} (λ (a b : List A). a ++ b) (take_all c u h) (drop_of_length-le v g) ∙ append-nil u

  -- of two lists of the same length: as many
  pub joined_length : (c : ℕ) (u v : List A) → length u ≡ length v → length (joined c u v) ≡ length v
  unfolding joined
  joined_length zero u v e = refl
  joined_length (suc c) [] [] e = refl
  joined_length (suc c) [] (y ∷ v) e = absurd (omega arith)
  joined_length (suc c) (x ∷ u) [] e = absurd (omega arith)
  joined_length (suc c) (x ∷ u) (y ∷ v) e = ap suc (joined_length c u v (omega arith))

  -- before c an element of u
  pub joined-front : (c : ℕ) (u v : List A) (j : ℕ) (d : A) → length u ≡ length v → j < c → get_or (joined c u v) j d ≡ get_or u j d
  unfolding joined
  joined-front zero u v j d e h = absurd (omega arith)
  joined-front (suc c) [] [] j d e h = refl
  joined-front (suc c) [] (y ∷ v) j d e h = absurd (omega arith)
  joined-front (suc c) (x ∷ u) [] j d e h = absurd (omega arith)
  joined-front (suc c) (x ∷ u) (y ∷ v) zero d e h = refl
  joined-front (suc c) (x ∷ u) (y ∷ v) (suc j) d e h = joined-front c u v j d (omega arith) (omega arith)

  -- from c on an element of v
  pub joined-rest : (c : ℕ) (u v : List A) (j : ℕ) (d : A) → length u ≡ length v → c ≤ j → get_or (joined c u v) j d ≡ get_or v j d
  unfolding joined
  joined-rest zero u v j d e h = refl
  joined-rest (suc c) [] [] j d e h = refl
  joined-rest (suc c) [] (y ∷ v) j d e h = absurd (omega arith)
  joined-rest (suc c) (x ∷ u) [] j d e h = absurd (omega arith)
  joined-rest (suc c) (x ∷ u) (y ∷ v) zero d e h = absurd (omega arith)
  joined-rest (suc c) (x ∷ u) (y ∷ v) (suc j) d e h = joined-rest c u v j d (omega arith) (omega arith)

  -- an element set from c on is one of v
  joined-set : (c : ℕ) (u v : List A) (j : ℕ) (a : A) → length u ≡ length v → c ≤ j → set (joined c u v) j a ≡ joined c u (set v j a)
  unfolding joined
  joined-set zero u v j a e h = refl
  joined-set (suc c) [] [] j a e h = refl
  joined-set (suc c) [] (y ∷ v) j a e h = absurd (omega arith)
  joined-set (suc c) (x ∷ u) [] j a e h = absurd (omega arith)
  joined-set (suc c) (x ∷ u) (y ∷ v) zero a e h = absurd (omega arith)
  joined-set (suc c) (x ∷ u) (y ∷ v) (suc j) a e h = ap (λ (l : List A). x ∷ l) (joined-set c u v j a (omega arith) (omega arith))

  -- so are two that are exchanged
  pub joined-swap : (d : A) (c i j : ℕ) (u v : List A) → length u ≡ length v → c ≤ i → c ≤ j
      → swap d i j (joined c u v) ≡ joined c u (swap d i j v)
  joined-swap d c i j u v e hi hj =
      ap₂ {B = A} (λ (a b : A). set (set (joined c u v) i a) j b) (joined-rest c u v j d e hj) (joined-rest c u v i d e hi)
      ∙ ap (λ (l : List A). set l j (get_or v i d)) (joined-set c u v i (get_or v j d) e hi)
      ∙ joined-set c u (set v i (get_or v j d)) j (get_or v i d) (e ∙ sym (length-set v i (get_or v j d))) hj

  -- two of u that are exchanged from c on do not matter
  pub joined-swapped : (d : A) (c i j : ℕ) (u v : List A) → c ≤ i → c ≤ j → joined c (swap d i j u) v ≡ joined c u v
  unfolding joined
  joined-swapped d c i j u v hi hj =
      ap (λ (l : List A). l ++ drop c v)
      (take-set-le c (set u i (get_or u j d)) j (get_or u i d) hj ∙ take-set-le c u i (get_or u j d) hi)

  -- with u[c] and v[c] exchanged, and one element more of u, it is the same
  pub joined-exchanged : (d : A) (c : ℕ) (u v : List A) (a : A) → length u ≡ length v
      → joined (suc c) (set u c (get_or v c d)) (set v c a) ≡ joined c u v
  unfolding joined
  joined-exchanged d zero [] [] a e = refl
  joined-exchanged d (suc c) [] [] a e = refl
  joined-exchanged d c [] (y ∷ v) a e = absurd (omega arith)
  joined-exchanged d c (x ∷ u) [] a e = absurd (omega arith)
  joined-exchanged d zero (x ∷ u) (y ∷ v) a e = refl
  joined-exchanged d (suc c) (x ∷ u) (y ∷ v) a e = ap (λ (l : List A). x ∷ l) (joined-exchanged d c u v a (omega arith))

-- words below a bound
pub joined-below : (bound c : ℕ) (u v : List ℕ) → all_below bound u ≡ true → all_below bound v ≡ true → all_below bound (joined c u v) ≡ true
unfolding joined
joined-below bound c u v a b =
    all_below-append bound (take c u) (drop c v) ∙ true-both _ _ (below-take bound c u a) (below-drop bound c v b)
