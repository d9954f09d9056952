-- Modulo a prime n, every number below n but 0 has one with which its product is 1; so no product of two of them is
-- 0. By division with remainder: that of the remainder gives that of the number. Assumes nothing.
use Prim.Native.Nat.{ℕ, zero, suc, ◌+◌, ◌*◌, ◌/◌, ◌%◌, ◌<◌}
use mathlib.Core.Path.{◌≡◌, refl, sym, ap, ◌∙◌}
use native.Mathlib.Omega.{arith}
use native.Mathlib.Nat.{div-add-mod', mod-lt}
use Rattle.baby_bear.proofs.Mod.{Same, same, keep, back, ◌⟫◌, ◌⊗◌, ◌⊕◌}
use Rattle.powers.specs.Powers.{Prime}
use Rattle.powers.proofs.Residues.{multiple, cancel}

-- a number with which the product of x is 1
abbrev pub Inverse : ℕ → ℕ → Type 0
Inverse n x = (i : ℕ) × Same n (x * i) 1

-- where n is q x + r and r s is 1, minus q s is that of x
turn : (m q x r s : ℕ) → suc m ≡ q * x + r → Same (suc m) (r * s) 1 → Same (suc m) (x * (m * q * s)) 1
turn m q x r s e f =
    cancel (x * (m * q * s)) 1 m (keep {a = x * (m * q * s)} ⊕ (same mid ⟫ keep {a = m} ⊗ back f)
    ⟫ same (factor ∙ ap (λ (t : ℕ). m * s * t) (sym e)) ⟫ multiple (m * s) ⟫ back (multiple 1) ⟫ same last)
  where
    mid : m ≡ m * 1
    mid = omega arith

    factor : x * (m * q * s) + m * (r * s) ≡ m * s * (q * x + r)
    factor = omega arith

    last : 1 * suc m ≡ 1 + m
    last = omega arith

-- by recursion on a bound of x
inverse-to : (m : ℕ) → Prime (suc m) → (f x : ℕ) → x < f → 0 < x → x < suc m → Inverse (suc m) x
inverse-to m pr zero x h l b = absurd (omega arith)
inverse-to m pr (suc f) zero h l b = absurd (omega arith)
inverse-to m pr (suc f) (suc zero) h l b = (1, same refl)
inverse-to m pr (suc f) (suc (suc y)) h l b = step (inverse-to m pr f r (omega (arith, small)) pos (omega (arith, small)))
  where
    x : ℕ
    x = suc (suc y)

    r : ℕ
    r = suc m % x

    small : r < x
    small = mod-lt (suc m) (omega arith)

    pos : 0 < r
    pos = nonzero r refl
      where
        nonzero : (k : ℕ) → r ≡ k → 0 < r
        nonzero zero z = absurd (pr.only x (omega arith) b z)
        nonzero (suc k) z = omega arith

    step : Inverse (suc m) r → Inverse (suc m) x
    step (s, e) = (m * (suc m / x) * s, turn m (suc m / x) x r s (sym (div-add-mod' (suc m) x)) e)

-- every number below the prime but 0 has one
pub inverse-of : (n : ℕ) → Prime n → (x : ℕ) → 0 < x → x < n → Inverse n x
inverse-of zero pr x l h = absurd (omega arith)
inverse-of (suc m) pr x l h = inverse-to m pr (suc x) x (omega arith) l h

-- a factor other than 0 can go
pub no-divisors : (n : ℕ) → Prime n → (x y : ℕ) → 0 < x → x < n → Same n (x * y) 0 → Same n y 0
no-divisors n pr x y l h s = go (inverse-of n pr x l h)
  where
    go : Inverse n x → Same n y 0
    go (i, e) =
        let a : y ≡ 1 * y = omega arith in
        let b : x * i * y ≡ i * (x * y) = omega arith in
        let c : i * 0 ≡ 0 = omega arith in
        same a ⟫ back e ⊗ keep ⟫ same b ⟫ keep {a = i} ⊗ s ⟫ same c
