-- Two tests in one, and words below a bound: one word, every place, parts, and a word that is set.
-- Assumes nothing.
use Prim.Native.Nat.{ℕ, zero, suc, ◌<◌}
use mathlib.Core.Path.{◌≡◌, refl}
use mathlib.Core.Bool.{Bool, true, false, ◌&&◌}
use mathlib.Core.List.{List, [], ◌∷◌}
use borrow.Author.Tests.{lt-ltb, ltb-true}
use lib.Dec.{ltb}
use lib.ListN.{get_or, take, drop, set, replicate}
use Rattle.limits.specs.Below.{all_below}

-- ---- two tests
pub both_true : (a b : Bool) → (a && b) ≡ true → (a ≡ true) × (b ≡ true)
both_true true b e = (refl, e)
both_true false b e = (e, cc)

pub true-both : (a b : Bool) → a ≡ true → b ≡ true → (a && b) ≡ true
true-both a b e f = simp e f

module _ (bound : ℕ) where
  -- ---- the first word and the others
  pub below-cons : (x : ℕ) (s : List ℕ) → all_below bound (x ∷ s) ≡ true → (x < bound) × (all_below bound s ≡ true)
  unfolding all_below
  below-cons x s e = let h = both_true (ltb x bound) (all_below bound s) e in (ltb-true x bound h.0, h.1)

  pub cons-below : (x : ℕ) (s : List ℕ) → x < bound → all_below bound s ≡ true → all_below bound (x ∷ s) ≡ true
  unfolding all_below
  cons-below x s h e = true-both _ _ (lt-ltb x bound h) e

  -- ---- every place; beyond the end, 0
  pub below-get_or : (s : List ℕ) (i : ℕ) → 0 < bound → all_below bound s ≡ true → get_or s i 0 < bound
  below-get_or [] i z e = z
  below-get_or (x ∷ s) zero z e = (below-cons x s e).0
  below-get_or (x ∷ s) (suc i) z e = below-get_or s i z (below-cons x s e).1

  pub below-replicate : (n v : ℕ) → v < bound → all_below bound (replicate n v) ≡ true
  unfolding all_below
  below-replicate zero v h = refl
  below-replicate (suc n) v h = cons-below v (replicate n v) h (below-replicate n v h)

  -- ---- the words up to a place, those from it on, and both
  pub below-take : (n : ℕ) (s : List ℕ) → all_below bound s ≡ true → all_below bound (take n s) ≡ true
  unfolding all_below
  below-take zero s e = refl
  below-take (suc n) [] e = e
  below-take (suc n) (x ∷ s) e =
      cons-below x (take n s) (below-cons x s e).0 (below-take n s (below-cons x s e).1)

  pub below-drop : (n : ℕ) (s : List ℕ) → all_below bound s ≡ true → all_below bound (drop n s) ≡ true
  below-drop zero s e = e
  below-drop (suc n) [] e = e
  below-drop (suc n) (x ∷ s) e = below-drop n s (below-cons x s e).1

  pub below_both : (n : ℕ) (s : List ℕ) → all_below bound (take n s) ≡ true → all_below bound (drop n s) ≡ true → all_below bound s ≡ true
  below_both zero s e f = f
  below_both (suc n) [] e f = f
  below_both (suc n) (x ∷ s) e f =
      let h = below-cons x (take n s) e in
      cons-below x s h.0 (below_both n s h.1 f)

  -- ---- a word set
  pub below_set : (s : List ℕ) (i v : ℕ) → v < bound → all_below bound s ≡ true → all_below bound (set s i v) ≡ true
  below_set [] i v h e = e
  below_set (x ∷ s) zero v h e = cons-below v s h (below-cons x s e).1
  below_set (x ∷ s) (suc i) v h e =
      cons-below x (set s i v) (below-cons x s e).0 (below_set s i v h (below-cons x s e).1)
