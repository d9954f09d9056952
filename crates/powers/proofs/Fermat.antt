-- Fermat: modulo a prime n, x to the power n is x. By the binomial theorem: n divides all terms of (x + 1) to the
-- power n but the first and the last, so the power of x + 1 is that of x, and 1. Assumes nothing.
use Prim.Native.Nat.{ℕ, zero, suc, ◌+◌, ◌*◌, ◌^◌, ◌≤◌, ◌<◌}
use mathlib.Core.Path.{◌≡◌, refl, sym, ap, ◌∙◌}
use native.Mathlib.Omega.{arith}
use native.Mathlib.Nat.{pow-suc, pow-zero, mul_comm}
use Rattle.baby_bear.proofs.Mod.{Same, same, keep, ◌⟫◌, ◌⊗◌, ◌⊕◌}
use Rattle.powers.specs.Powers.{Prime}
use Rattle.powers.proofs.Residues.{multiple}
use Rattle.powers.proofs.Inverses.{no-divisors}

-- how often x to the power k stands in (x + 1) to the power n
choose : ℕ → ℕ → ℕ
choose n zero = 1
choose zero (suc k) = 0
choose (suc n) (suc k) = choose n k + choose n (suc k)

-- k + 1 times one of them is n + 1 times one of the power before
choose-factor : (n k : ℕ) → suc k * choose (suc n) (suc k) ≡ suc n * choose n k
unfolding choose
choose-factor zero zero = refl
choose-factor zero (suc k) = omega arith
choose-factor (suc n) zero = omega (arith, choose-factor n zero)
choose-factor (suc n) (suc k) = omega (arith, choose-factor n k, choose-factor n (suc k))

-- there are none beyond n
choose-beyond : (n k : ℕ) → n < k → choose n k ≡ 0
unfolding choose
choose-beyond n zero h = absurd (omega arith)
choose-beyond zero (suc k) h = refl
choose-beyond (suc n) (suc k) h = omega (arith, choose-beyond n k (omega arith), choose-beyond n (suc k) (omega arith))

-- and one at n
choose-all : (n : ℕ) → choose n n ≡ 1
unfolding choose
choose-all zero = refl
choose-all (suc n) = omega (arith, choose-all n, choose-beyond n (suc n) (omega arith))

-- the first m terms of (x + 1) to the power n
upto : ℕ → ℕ → ℕ → ℕ
upto n zero x = 0
upto n (suc m) x = upto n m x + choose n m * x ^ m

-- from the terms of one power to those of the next
upto_next : (n m x : ℕ) → upto (suc n) (suc m) x ≡ upto n (suc m) x + x * upto n m x
unfolding upto choose
upto_next n zero x = omega arith
upto_next n (suc m) x = omega (arith, upto_next n m x, ap (λ (t : ℕ). choose n m * t) (pow-suc x m), ap (λ (t : ℕ). choose n (suc m) * t) (pow-suc x m))

-- the power 0 has one term
upto_zero : (m x : ℕ) → upto zero (suc m) x ≡ 1
unfolding upto choose
upto_zero zero x = omega (arith, pow-zero x)
upto_zero (suc m) x = omega (arith, upto_zero m x)

-- the binomial theorem
binomial : (n m x : ℕ) → n < m → upto n m x ≡ (x + 1) ^ n
binomial n zero x h = absurd (omega arith)
binomial zero (suc m) x h = upto_zero m x ∙ sym (pow-zero (x + 1))
binomial (suc n) (suc m) x h =
    upto_next n m x ∙ omega (arith, binomial n (suc m) x (omega arith), ap (λ (t : ℕ). x * t) (binomial n m x (omega arith)), pow-suc (x + 1) n)

-- ---- modulo a prime
module _ (m : ℕ) (pr : Prime (suc m)) where
  -- so the prime divides all but the first and the last
  choose-divided : (k : ℕ) → k < m → Same (suc m) (choose (suc m) (suc k)) 0
  choose-divided k h = no-divisors (suc m) pr (suc k) (choose (suc m) (suc k)) (omega arith) (omega arith)
      (same (choose-factor m k ∙ mul_comm (suc m) (choose m k)) ⟫ multiple (choose m k))

  -- and of the terms before the last only the first counts
  upto-one : (x k : ℕ) → k ≤ m → Same (suc m) (upto (suc m) (suc k) x) 1
  unfolding upto choose
  upto-one x zero h = same (omega (arith, pow-zero x))
  upto-one x (suc k) h = upto-one x k (omega arith) ⊕ choose-divided k h ⊗ keep {a = x ^ suc k} ⟫ same (omega arith)

  -- the power of x + 1 is that of x, and 1
  power-next : (x : ℕ) → Same (suc m) ((x + 1) ^ suc m) (1 + x ^ suc m)
  unfolding upto
  power-next x = same (sym (binomial (suc m) (suc (suc m)) x (omega arith)))
      ⟫ upto-one x m (omega arith) ⊕ same (choose-all (suc m)) ⊗ keep ⟫ same (omega arith)

  -- so from 0 on the power of x is x
  power-same : (x : ℕ) → Same (suc m) (x ^ suc m) x
  power-same zero = same (pow-suc 0 m ∙ omega arith)
  power-same (suc x) =
      let e : suc x ≡ x + 1 = omega arith in
      let f : 1 + x ≡ suc x = omega arith in
      same (ap (λ (t : ℕ). t ^ suc m) e) ⟫ power-next x ⟫ keep {a = 1} ⊕ power-same x ⟫ same f

-- x to the power n is x
pub fermat : (n : ℕ) → Prime n → (x : ℕ) → Same n (x ^ n) x
fermat zero pr x = absurd (omega arith)
fermat (suc m) pr x = power-same m pr x
