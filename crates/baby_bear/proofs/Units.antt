-- Lists of units: each place has one, and the largest number decides. Assumes nothing.
use Prim.Native.Nat.{ℕ, ◌<◌, max}
use mathlib.Core.Path.{◌≡◌, refl, sym, ap, ◌∙◌}
use mathlib.Core.Bool.{Bool, true, false, ◌&&◌, and-true, and_assoc}
use mathlib.Core.List.{List, [], ◌∷◌}
use native.Mathlib.Omega.{arith}
use borrow.Author.Tests.{ltb-true, ltb-false, lt-ltb, le-ltb}
use lib.Dec.{ltb, lit<}
use lib.ListN.{get_or}
use Rattle.std.specs.List.{fold}
use Rattle.limits.specs.Numbers.{prime}
use Rattle.limits.specs.Below.{all_below}
use Rattle.limits.proofs.Below.{below-get_or}
use Rattle.baby_bear.specs.Field.{are_units}

-- at every place; beyond the end, 0
pub units-at : (l : List ℕ) → are_units l ≡ true → (i : ℕ) → get_or l i 0 < prime
units-at l e i = below-get_or prime l i (lit< tt) e

-- ---- by the largest
max-ltb : (a b n : ℕ) → ltb (max a b) n ≡ (ltb a n && ltb b n)
max-ltb a b n = go (ltb a n) (ltb b n) refl refl
  where
    go : (s t : Bool) → ltb a n ≡ s → ltb b n ≡ t → ltb (max a b) n ≡ (s && t)
    go true true e f = lt-ltb (max a b) n (omega (arith, ltb-true a n e, ltb-true b n f))
    go true false e f = le-ltb (max a b) n (omega (arith, ltb-false b n f))
    go false t e f = le-ltb (max a b) n (omega (arith, ltb-false a n e))

-- the largest of t and the list is a unit exactly where both are
pub largest-units : (t : ℕ) (l : List ℕ) → ltb (fold (λ a b. max a b) t l) prime ≡ (ltb t prime && are_units l)
unfolding all_below
largest-units t [] = sym (and-true (ltb t prime))
largest-units t (x ∷ l) =
    largest-units (max t x) l
    ∙ ap (λ (b : Bool). b && are_units l) (max-ltb t x prime)
    ∙ and_assoc (ltb t prime) (ltb x prime) (are_units l)
