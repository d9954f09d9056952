-- p is prime: a test by trial division, computed, and what it says. Assumes nothing.
use Prim.Native.Nat.{ℕ, zero, suc, ◌+◌, ◌*◌, ◌/◌, ◌%◌, ◌≤◌, ◌<◌}
use mathlib.Core.Path.{◌≡◌, refl, sym, ap, ◌∙◌}
use mathlib.Core.Bool.{Bool, true, false}
use native.Mathlib.Omega.{arith}
use native.Mathlib.Nat.{div-add-mod', mul-le-mul, mul-mod_right}
use lib.Dec.{eqb, ltb, lit<}
use borrow.Author.Tests.{eqb-false, ltb-true, ltb-false}
use Rattle.limits.specs.Numbers.{prime}
use Rattle.powers.specs.Powers.{Prime}

-- does none of the k numbers from d on divide n?
unfoldable no_divisor : ℕ → ℕ → ℕ → Bool
no_divisor zero d n = true
no_divisor (suc k) d n = elim (eqb (n % d) 0) [ true ↦ false | false ↦ no_divisor k (suc d) n ]

-- then none does
none-divides : (k d n : ℕ) → no_divisor k d n ≡ true → (x : ℕ) → d ≤ x → x < d + k → n % x ≡ 0 → ⊥
unfolding no_divisor
none-divides zero d n e x l h z = omega arith
none-divides (suc k) d n e x l h z = go (eqb (n % d) 0) refl e (λ f. none-divides k (suc d) n f x)
  where
    go : (b : Bool) → eqb (n % d) 0 ≡ b → elim b [ true ↦ false | false ↦ no_divisor k (suc d) n ] ≡ true
        → (no_divisor k (suc d) n ≡ true → suc d ≤ x → x < suc d + k → n % x ≡ 0 → ⊥) → ⊥
    go true t f rest = let w : ◌≡◌ {A = ℕ} 0 1 = cc in omega arith
    go false t f rest = at (ltb d x) refl
      where
        at : (b : Bool) → ltb d x ≡ b → ⊥
        at true u = rest f (ltb-true d x u) (omega arith) z
        at false u =
            let s : x ≡ d = omega (arith, ltb-false d x u) in
            eqb-false (n % d) 0 t (ap (λ (y : ℕ). n % y) (sym s) ∙ z)

-- divisors come in pairs, so those up to the square root are enough
prime-by : (n k : ℕ) → no_divisor k 2 n ≡ true → n < (2 + k) * (2 + k) → 1 < n → Prime n
prime-by n k e s b = record { more = b; only = λ d l h z. by d l h z (ltb d (2 + k)) refl }
  where
    by : (d : ℕ) → 1 < d → d < n → n % d ≡ 0 → (t : Bool) → ltb d (2 + k) ≡ t → ⊥
    by d l h z true t = none-divides k 2 n e d l (ltb-true d (2 + k) t) z
    by d l h z false t = other (ltb (n / d) (2 + k)) refl
      where
        is : n / d * d ≡ n
        is = let w : n / d * d + n % d ≡ n = div-add-mod' n d in omega arith

        two : (q : ℕ) → q * d ≡ n → 1 < q
        two zero w = omega arith
        two (suc zero) w = omega arith
        two (suc (suc q)) w = omega arith

        other : (u : Bool) → ltb (n / d) (2 + k) ≡ u → ⊥
        other true u =
            none-divides k 2 n e (n / d) (two (n / d) is) (ltb-true _ _ u)
            (ap (λ (y : ℕ). y % (n / d)) (sym is) ∙ mul-mod_right (n / d) d)
        other false u =
            omega (arith, mul-le-mul {n₁ = 2 + k} {m₁ = 2 + k} {n₂ = n / d} {m₂ = d} (ltb-false _ _ u) (ltb-false _ _ t), is)

-- 2 to 44869, whose square is beyond p
tested : no_divisor 44868 2 prime ≡ true
unfolding no_divisor
tested = refl

-- p is prime
pub p-prime : Prime prime
p-prime = prime-by prime 44868 tested (lit< tt) (lit< tt)

-- 1 is no prime, and neither is 6
pub no-primes : (Prime 1 → ⊥) × (Prime 6 → ⊥)
no-primes = (λ q. absurd (omega (arith, q.more)), λ q. q.only 2 (lit< tt) (lit< tt) refl)
