-- The 7th power and the power 1725656503 undo each other, and the power p - 2 of a unit other than 0 has the product 1
-- with it. Assumes nothing.
use Prim.Native.Nat.{ℕ, zero, suc, ◌+◌, ◌*◌, ◌%◌, ◌^◌, ◌<◌}
use mathlib.Core.Path.{◌≡◌, refl, sym, ap, ◌∙◌}
use native.Mathlib.Omega.{arith}
use native.Mathlib.Nat.{pow-suc, pow-zero, mul-zero, mul-suc, mod-lt}
use lib.Dec.{lit<}
use lib.Pow.{pow-add}
use Rattle.limits.specs.Numbers.{prime}
use Rattle.baby_bear.specs.Field.{power_unit, seventh}
use Rattle.baby_bear.proofs.Mod.{Same, same, keep, back, ◌⟫◌, ◌⊗◌, rest, below}
use Rattle.baby_bear.proofs.Ring.{power_unit-is, power_unit-below}
use Rattle.powers.specs.Powers.{Prime, seventh_root, invert_unit}
use Rattle.powers.proofs.Residues.{same_power}
use Rattle.powers.proofs.Primes.{p-prime}
use Rattle.powers.proofs.Inverses.{Inverse, inverse-of}
use Rattle.powers.proofs.Fermat.{fermat}

-- ---- powers
-- of a power the exponents are multiplied
pow-mul : (x a b : ℕ) → (x ^ a) ^ b ≡ x ^ (a * b)
pow-mul x a zero = pow-zero (x ^ a) ∙ sym (ap (λ (t : ℕ). x ^ t) (mul-zero a) ∙ pow-zero x)
pow-mul x a (suc b) =
    pow-suc (x ^ a) b ∙ ap (λ (t : ℕ). t * x ^ a) (pow-mul x a b) ∙ sym (pow-add x (a * b) a)
    ∙ ap (λ (t : ℕ). x ^ t) (sym (mul-suc a b))

-- the power 1 is the number itself
pow-one : (x : ℕ) → x ^ 1 ≡ x
pow-one x = let e : 1 * x ≡ x = omega arith in pow-suc x 0 ∙ ap (λ (t : ℕ). t * x) (pow-zero x) ∙ e

-- ---- modulo a prime
-- n - 1 more in the exponent changes nothing
again : (m : ℕ) → Prime (suc m) → (x k : ℕ) → Same (suc m) (x ^ (k * m + 1)) x
again m pr x zero = let e : 0 * m + 1 ≡ 1 = omega arith in same (ap (λ (t : ℕ). x ^ t) e ∙ pow-one x)
again m pr x (suc k) =
    let e : suc k * m + 1 ≡ (k * m + 1) + m = omega arith in
    let f : 1 + m ≡ suc m = omega arith in
    let g : x * x ^ m ≡ x ^ (1 + m) = sym (pow-add x 1 m ∙ ap (λ (t : ℕ). t * x ^ m) (pow-one x)) in
    same (ap (λ (t : ℕ). x ^ t) e ∙ pow-add x (k * m + 1) m) ⟫ again m pr x k ⊗ keep
    ⟫ same (g ∙ ap (λ (t : ℕ). x ^ t) f) ⟫ fermat (suc m) pr x

-- the power n - 1 of a number other than 0 is 1
one_power : (m : ℕ) → Prime (suc m) → (x : ℕ) → 0 < x → x < suc m → Same (suc m) (x ^ m) 1
one_power m pr x l h = go (inverse-of (suc m) pr x l h)
  where
    go : Inverse (suc m) x → Same (suc m) (x ^ m) 1
    go (i, e) =
        let a : x ^ m ≡ x ^ m * 1 = omega arith in
        let b : x ^ m * (x * i) ≡ x ^ m * x * i = omega arith in
        same a ⟫ keep {a = x ^ m} ⊗ back e ⟫ same (b ∙ ap (λ (t : ℕ). t * i) (sym (pow-suc x m))) ⟫ fermat (suc m) pr x ⊗ keep ⟫ e

-- ---- modulo p
-- a number that isn't 0 modulo p has the power p - 1 equal to 1
pub power-one : (x : ℕ) → (x % prime ≡ 0 → ⊥) → power_unit x 2013265920 ≡ 1
power-one x h =
    below (power_unit-below x 2013265920) (lit< tt)
    (power_unit-is x 2013265920 ⟫ same_power 2013265920 (back rest)
    ⟫ one_power 2013265920 p-prime (x % prime) (omega (arith, h)) (mod-lt x (lit< tt)))

-- 7 times 1725656503 is one more than 6 times p - 1
pub exponents : 7 * 1725656503 ≡ 6 * 2013265920 + 1
exponents = refl

module _ (x : ℕ) (h : x < prime) where
  -- the 7th root of its 7th power is the unit
  pub root-seventh : seventh_root (seventh x) ≡ x
  unfolding seventh_root seventh
  root-seventh =
      below (power_unit-below (power_unit x 7) 1725656503) h
      (power_unit-is (power_unit x 7) 1725656503 ⟫ same_power 1725656503 (power_unit-is x 7)
      ⟫ same (pow-mul x 7 1725656503 ∙ ap (λ (t : ℕ). x ^ t) exponents) ⟫ again 2013265920 p-prime x 6)

  -- and the 7th power of its 7th root is
  pub seventh-root : seventh (seventh_root x) ≡ x
  unfolding seventh_root seventh
  seventh-root =
      below (power_unit-below (power_unit x 1725656503) 7) h
      (power_unit-is (power_unit x 1725656503) 7 ⟫ same_power 7 (power_unit-is x 1725656503)
      ⟫ same (pow-mul x 1725656503 7 ∙ ap (λ (t : ℕ). x ^ t) exponents) ⟫ again 2013265920 p-prime x 6)

-- both are units
pub seventh_root-below : (a : ℕ) → seventh_root a < prime
unfolding seventh_root
seventh_root-below a = power_unit-below a 1725656503

pub invert_unit-below : (a : ℕ) → invert_unit a < prime
unfolding invert_unit
invert_unit-below a = power_unit-below a 2013265919

-- a number that isn't 0 modulo p times its inverse is 1
pub invert_unit-is : (x : ℕ) → (x % prime ≡ 0 → ⊥) → Same prime (x * invert_unit x) 1
unfolding invert_unit
invert_unit-is x h =
    let e : x * x ^ 2013265919 ≡ x ^ 2013265919 * x = omega arith in
    keep {a = x} ⊗ power_unit-is x 2013265919 ⟫ same (e ∙ sym (pow-suc x 2013265919)) ⟫ back (power_unit-is x 2013265920)
    ⟫ same (power-one x h)
