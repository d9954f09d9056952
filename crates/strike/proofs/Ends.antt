-- The walk over equations: where what is left of them ends, from place `at` on. Assumes nothing.
use Prim.Native.Nat.{ℕ, zero, suc, ◌+◌, ◌-◌, ◌≤◌, ◌<◌}
use mathlib.Core.Path.{◌≡◌, refl, sym, ap}
use mathlib.Core.Bool.{Bool, true, false}
use mathlib.Core.List.{List}
use native.Mathlib.Omega.{arith}
use borrow.Author.Tests.{le-leb, lt-leb, leb-true, leb-false, ne_eqb, eqb-true}
use Rattle.std.specs.Prelude.{Option, Some, None}
use Rattle.std.specs.Option.{option_eq}
use Rattle.limits.specs.Questions.{pick}
use lib.Dec.{eqb, leb}
use lib.ListN.{length, drop}
use lib.Seq.{drop-drop}
use Rattle.expr.specs.Equation.{size_at, equations_end, ends_right}
use Rattle.strike.specs.Strike.{end_within}

-- where n equations from place `at` on end
unfoldable pub rest_end : ℕ → ℕ → List ℕ → Option ℕ
rest_end n at s = pick (leb (at + equations_end n (drop at s)) (length s)) (Some (at + equations_end n (drop at s))) None

pub rest-whole : (n : ℕ) (s : List ℕ) → rest_end n 0 s ≡ end_within n s
unfolding rest_end end_within
rest-whole n s = let e : 0 + equations_end n s ≡ equations_end n s = omega arith in rw e

rest_at : (s : List ℕ) (at n : ℕ) → 0 < n
    → at + equations_end n (drop at s) ≡ at + size_at (drop at s) + equations_end (n - 1) (drop (at + size_at (drop at s)) s)
rest_at s at zero h = absurd (omega arith)
rest_at s at (suc n) h =
    let z : suc n - 1 ≡ n = omega arith in
    rw (z, drop-drop (size_at (drop at s)) at s) (omega arith)

module _ (s : List ℕ) (at n : ℕ) (whole : Option ℕ) (f : at ≤ length s) (e : rest_end n at s ≡ whole) where
  pub rest-ended : n ≤ 0 → Some at ≡ whole
  unfolding rest_end
  rest-ended h =
      let z : n ≡ 0 = omega arith in
      let a : at + 0 ≡ at = omega arith in
      rw (z, a, le-leb at (length s) f) at e

  pub rest-long : 0 < n → length s - at < size_at (drop at s) → None ≡ whole
  unfolding rest_end
  rest-long h k =
      let r = rest_at s at n h in
      rw (lt-leb (at + equations_end n (drop at s)) (length s) (omega arith)) at e

  pub rest_more : 0 < n → rest_end (n - 1) (at + size_at (drop at s)) s ≡ whole
  unfolding rest_end
  rest_more h = rw (rest_at s at n h) at e

-- ---- what the walk says
-- n equations end at a place within the words, or past them
pub ended : (n : ℕ) (s : List ℕ) {at : ℕ} → end_within n s ≡ Some at → (at ≡ equations_end n s) × (equations_end n s ≤ length s)
unfolding end_within
ended n s e = go (leb (equations_end n s) (length s)) refl e
  where
    go : (b : Bool) → leb (equations_end n s) (length s) ≡ b → {at : ℕ} → pick b (Some (equations_end n s)) None ≡ Some at
        → (at ≡ equations_end n s) × (equations_end n s ≤ length s)
    go true l e = (cc, leb-true _ _ l)
    go false l e = cc

pub unended : (n : ℕ) (s : List ℕ) → end_within n s ≡ None → length s < equations_end n s
unfolding end_within
unended n s e = go (leb (equations_end n s) (length s)) refl e
  where
    go : (b : Bool) → leb (equations_end n s) (length s) ≡ b → pick b (Some (equations_end n s)) None ≡ None → length s < equations_end n s
    go true l e = cc
    go false l e = leb-false _ _ l

pub ends_by : (n : ℕ) (s : List ℕ) → option_eq eqb (end_within n s) (Some (length s)) ≡ ends_right n s
unfolding end_within
ends_by n s = go (leb (equations_end n s) (length s)) refl
  where
    go : (b : Bool) → leb (equations_end n s) (length s) ≡ b
        → option_eq eqb (pick b (Some (equations_end n s)) None) (Some (length s)) ≡ ends_right n s
    go true l = refl
    go false l = let h = leb-false _ _ l in sym (ne_eqb _ (length s) (λ z. absurd (omega (arith, z))))

-- equations before the i-th end no later than all, and the i-th takes what is there
pub end-split : (i m : ℕ) (s : List ℕ) → equations_end (i + m) s ≡ equations_end i s + equations_end m (drop (equations_end i s) s)
end-split zero m s = let z : 0 + m ≡ m = omega arith in rw z (omega arith)
end-split (suc i) m s =
    let z : suc i + m ≡ suc (i + m) = omega arith in
    let t = drop (size_at s) s in
    let r = end-split i m t in
    rw (z, r, drop-drop (equations_end i t) (size_at s) s) (omega arith)

pub place-fits : (n i : ℕ) (s : List ℕ) → i < n → ends_right n s ≡ true
    → equations_end i s + size_at (drop (equations_end i s) s) ≤ length s
place-fits n i s h e =
    let z = eqb-true (equations_end n s) (length s) e in
    let k : n ≡ i + suc (n - i - 1) = omega arith in
    let p = end-split i (suc (n - i - 1)) s in
    let w : equations_end n s ≡ equations_end (i + suc (n - i - 1)) s = ap (λ (j : ℕ). equations_end j s) k in
    omega arith

pub place_is : (n i : ℕ) (s : List ℕ) → i < n → ends_right n s ≡ true → end_within i s ≡ Some (equations_end i s)
unfolding end_within
place_is n i s h e = let p = place-fits n i s h e in rw (le-leb (equations_end i s) (length s) (omega arith))
