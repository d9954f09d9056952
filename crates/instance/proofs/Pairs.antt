-- Pairs and terms in words, two words each: the first of them at a place, and those that words lack.
-- Assumes nothing.
use Prim.Native.Nat.{ℕ, zero, suc, ◌+◌, ◌-◌, ◌<◌}
use mathlib.Core.Path.{◌≡◌, refl, ap, ◌∙◌}
use mathlib.Core.List.{List, ◌∷◌}
use native.Mathlib.Omega.{arith}
use lib.ListN.{drop, get_or}
use lib.Seq.{get_or-drop, drop-drop}
use Rattle.allocator.specs.Slots.{pair}
use Rattle.expr.specs.Equation.{term_vars, term_weights, terms_at}
use Rattle.instance.specs.Parts.{pair_vars, pair_values, pairs_at}

-- the first word from place i on
pub at_first : (s : List ℕ) (i : ℕ) → get_or (drop i s) 0 0 ≡ get_or s i 0
at_first s i = let e : i + 0 ≡ i = omega arith in get_or-drop i s 0 0 ∙ ap (λ (k : ℕ). get_or s k 0) e

-- ---- the pair at place i
pub pairs-at : (s : List ℕ) (i n : ℕ) → 0 < n
    → pairs_at n (drop i s) ≡ pair (get_or s i 0) (get_or s (i + 1) 0) ∷ pairs_at (n - 1) (drop (i + 2) s)
pairs-at s i zero h = absurd (omega arith)
pairs-at s i (suc n) h =
    let e : suc n - 1 ≡ n = omega arith in
    rw (e, at_first s i, get_or-drop i s 1 0, drop-drop 2 i s)

-- a term has the layout of a pair
pub vars-same : (n : ℕ) (s : List ℕ) → pair_vars (pairs_at n s) ≡ term_vars (terms_at n s)
vars-same zero s = refl
vars-same (suc n) s = ap (λ (l : List ℕ). get_or s 0 0 ∷ l) (vars-same n (drop 2 s))

pub values_same : (n : ℕ) (s : List ℕ) → pair_values (pairs_at n s) ≡ term_weights (terms_at n s)
values_same zero s = refl
values_same (suc n) s = ap (λ (l : List ℕ). get_or s 1 0 ∷ l) (values_same n (drop 2 s))

pub terms-at : (s : List ℕ) (i n : ℕ) → 0 < n
    → terms_at n (drop i s) ≡ record { var = get_or s i 0; weight = get_or s (i + 1) 0 } ∷ terms_at (n - 1) (drop (i + 2) s)
terms-at s i zero h = absurd (omega arith)
terms-at s i (suc n) h =
    let e : suc n - 1 ≡ n = omega arith in
    rw (e, at_first s i, get_or-drop i s 1 0, drop-drop 2 i s)
