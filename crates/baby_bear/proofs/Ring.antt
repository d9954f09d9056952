-- Units form a commutative ring, and reducing an operand first changes nothing.
--
-- Each law is an equation modulo p of sums and products of numbers (`Mod`). The sum of a list, reduced after
-- each addition, is the plain sum reduced once; so is the sum of products. Assumes nothing.
use Prim.Native.Nat.{ℕ, zero, suc, ◌+◌, ◌*◌, ◌%◌, ◌^◌, ◌<◌}
use mathlib.Core.Path.{◌≡◌, refl, sym, ap, ◌∙◌}
use mathlib.Core.List.{List, [], ◌∷◌, foldl}
use native.Mathlib.Omega.{arith}
use native.Mathlib.Nat.{mod-lt, mod-mod, pow-suc, pow-zero}
use lib.Dec.{lit<}
use Rattle.limits.specs.Numbers.{prime}
use Rattle.baby_bear.specs.Field.{add_unit, mul_unit, power_unit, seventh, sum_units, dot_units, sum, dot}
use Rattle.baby_bear.proofs.Mod.{Same, same, keep, back, ◌⟫◌, rest, ◌⊗◌, ◌⊕◌}

reduced : (a b : ℕ) → a ≡ b → a % prime ≡ b % prime
reduced a b e = ap (λ (t : ℕ). t % prime) e

-- ---- results are units
pub add_unit-below : (a b : ℕ) → add_unit a b < prime
unfolding add_unit
add_unit-below a b = mod-lt (a + b) (lit< tt)

pub mul_unit-below : (a b : ℕ) → mul_unit a b < prime
unfolding mul_unit
mul_unit-below a b = mod-lt (a * b) (lit< tt)

-- ---- the same modulo p as the plain sum and product
pub add_unit-is : (a b : ℕ) → Same prime (add_unit a b) (a + b)
unfolding add_unit
add_unit-is a b = rest

pub mul_unit-is : (a b : ℕ) → Same prime (mul_unit a b) (a * b)
unfolding mul_unit
mul_unit-is a b = rest

-- operands that are the same modulo p give equal results
pub add_unit-same : {a b c d : ℕ} → Same prime a b → Same prime c d → add_unit a c ≡ add_unit b d
unfolding add_unit
add_unit-same s t = (s ⊕ t).is

pub mul_unit-same : {a b c d : ℕ} → Same prime a b → Same prime c d → mul_unit a c ≡ mul_unit b d
unfolding mul_unit
mul_unit-same s t = (s ⊗ t).is

-- ---- reducing an operand first changes nothing
pub add_unit-left : (a b : ℕ) → add_unit (a % prime) b ≡ add_unit a b
add_unit-left a b = add_unit-same rest keep

pub add_unit-right : (a b : ℕ) → add_unit a (b % prime) ≡ add_unit a b
add_unit-right a b = add_unit-same keep rest

pub mul_unit-left : (a b : ℕ) → mul_unit (a % prime) b ≡ mul_unit a b
mul_unit-left a b = mul_unit-same rest keep

pub mul_unit-right : (a b : ℕ) → mul_unit a (b % prime) ≡ mul_unit a b
mul_unit-right a b = mul_unit-same keep rest

-- ---- sums
pub add_unit-comm : (a b : ℕ) → add_unit a b ≡ add_unit b a
unfolding add_unit
add_unit-comm a b = reduced (a + b) (b + a) (omega arith)

pub add_unit-assoc : (a b c : ℕ) → add_unit (add_unit a b) c ≡ add_unit a (add_unit b c)
unfolding add_unit
add_unit-assoc a b c =
    let s : Same prime (add_unit a b + c) (a + add_unit b c) =
    add_unit-is a b ⊕ keep ⟫ same (omega arith) ⟫ keep ⊕ back (add_unit-is b c) in
    s.is

pub add_unit_zero : (a : ℕ) → add_unit a 0 ≡ a % prime
unfolding add_unit
add_unit_zero a = reduced (a + 0) a (omega arith)

-- ---- products
pub mul_unit-comm : (a b : ℕ) → mul_unit a b ≡ mul_unit b a
unfolding mul_unit
mul_unit-comm a b = reduced (a * b) (b * a) (omega arith)

pub mul_unit-assoc : (a b c : ℕ) → mul_unit (mul_unit a b) c ≡ mul_unit a (mul_unit b c)
unfolding mul_unit
mul_unit-assoc a b c =
    let s : Same prime (mul_unit a b * c) (a * mul_unit b c) =
    mul_unit-is a b ⊗ keep ⟫ same (omega arith) ⟫ keep ⊗ back (mul_unit-is b c) in
    s.is

pub mul_unit-zero : (a : ℕ) → mul_unit a 0 ≡ 0
unfolding mul_unit
mul_unit-zero a = reduced (a * 0) 0 (omega arith)

pub mul_unit-one : (a : ℕ) → mul_unit a 1 ≡ a % prime
unfolding mul_unit
mul_unit-one a = reduced (a * 1) a (omega arith)

pub mul_unit-add_unit : (a b c : ℕ) → mul_unit a (add_unit b c) ≡ add_unit (mul_unit a b) (mul_unit a c)
unfolding add_unit mul_unit
mul_unit-add_unit a b c =
    let s : Same prime (a * add_unit b c) (mul_unit a b + mul_unit a c) =
    keep ⊗ add_unit-is b c ⟫ same (omega arith) ⟫ back (mul_unit-is a b) ⊕ back (mul_unit-is a c) in
    s.is

-- ---- powers
pub power_unit-is : (a n : ℕ) → Same prime (power_unit a n) (a ^ n)
unfolding power_unit
power_unit-is a zero = same (sym (pow-zero a))
power_unit-is a (suc n) =
    mul_unit-is (power_unit a n) a ⟫ power_unit-is a n ⊗ keep {a = a} ⟫ same (sym (pow-suc a n))

sixth : (a : ℕ) → a ^ 6 ≡ a * a * (a * a) * (a * a)
sixth a =
    rw (pow-suc a 5, pow-suc a 4, pow-suc a 3, pow-suc a 2, pow-suc a 1, pow-suc a 0, pow-zero a) (omega arith)

-- by squares
pub seventh-squares : (a x2 x4 x6 x7 : ℕ) → x2 ≡ mul_unit a a → x4 ≡ mul_unit x2 x2 → x6 ≡ mul_unit x4 x2
    → x7 ≡ mul_unit x6 a → x7 ≡ seventh a
unfolding seventh power_unit
seventh-squares a x2 x4 x6 x7 e2 e4 e6 e7 =
    let s2 : Same prime x2 (a * a) = same e2 ⟫ mul_unit-is a a in
    let s4 : Same prime x4 (a * a * (a * a)) = same e4 ⟫ mul_unit-is x2 x2 ⟫ s2 ⊗ s2 in
    let s6 : Same prime x6 (a * a * (a * a) * (a * a)) = same e6 ⟫ mul_unit-is x4 x2 ⟫ s4 ⊗ s2 in
    e7 ∙ mul_unit-same (s6 ⟫ same (sym (sixth a)) ⟫ back (power_unit-is a 6)) keep

pub power_unit-below : (a n : ℕ) → power_unit a n < prime
unfolding power_unit
power_unit-below a zero = lit< tt
power_unit-below a (suc n) = mul_unit-below (power_unit a n) a

pub seventh-below : (a : ℕ) → seventh a < prime
unfolding seventh
seventh-below a = power_unit-below a 7

-- ---- lists: one reduction at the end is enough
pub sum_units-is : (l : List ℕ) → sum_units l ≡ sum l % prime
unfolding add_unit sum
sum_units-is [] = refl
sum_units-is (a ∷ l) = ap (add_unit a) (sum_units-is l) ∙ add_unit-right a (sum l)

-- a sum that is reduced as it runs, from s on
pub sum_units-running : (s : ℕ) (l : List ℕ) → foldl add_unit (s % prime) l ≡ add_unit s (sum_units l)
unfolding add_unit
sum_units-running s [] = sym (add_unit_zero s)
sum_units-running s (a ∷ l) =
    ap (λ (t : ℕ). foldl add_unit t l) (add_unit-left s a) ∙ ap (λ (t : ℕ). foldl add_unit t l) (sym (mod-mod (s + a) prime))
    ∙ sum_units-running (add_unit s a) l ∙ add_unit-assoc s a (sum_units l)

pub dot_units-is : (r x : List ℕ) → dot_units r x ≡ dot r x % prime
unfolding dot_units add_unit mul_unit dot
dot_units-is [] x = refl
dot_units-is (a ∷ r) [] = refl
dot_units-is (a ∷ r) (b ∷ x) = ap (add_unit (mul_unit a b)) (dot_units-is r x) ∙ add_unit-same rest rest
