-- A power by its half: what a call of the recursion gives, from the call that it makes.
-- Assumes nothing.
use Prim.Native.Nat.{ℕ, zero, suc, ◌+◌, ◌*◌, ◌/◌, ◌%◌, ◌^◌, ◌<◌}
use mathlib.Core.Path.{◌≡◌, sym, ap, ◌∙◌}
use native.Mathlib.Omega.{arith}
use native.Mathlib.Nat.{pow-suc, pow-zero, mod-eq_of_lt}
use Rattle.limits.specs.Numbers.{prime}
use Rattle.baby_bear.specs.Field.{mul_unit, power_unit}
use Rattle.baby_bear.proofs.Mod.{Same, same, keep, back, ◌⟫◌, ◌⊗◌}
use Rattle.baby_bear.proofs.Ring.{mul_unit-is, mul_unit-same, mul_unit-assoc, mul_unit-comm, mul_unit-one, power_unit-is, power_unit-below}
use Rattle.powers.proofs.Residues.{same_power}

-- a power of the square has the exponent twice
square-power : (a k : ℕ) → (a * a) ^ k ≡ a ^ (k + k)
square-power a zero = pow-zero (a * a) ∙ sym (pow-zero a)
square-power a (suc k) =
    let e : suc k + suc k ≡ suc (suc (k + k)) = omega arith in
    let m : a ^ (k + k) * (a * a) ≡ a ^ (k + k) * a * a = omega arith in
    pow-suc (a * a) k ∙ ap (λ (t : ℕ). t * (a * a)) (square-power a k) ∙ m ∙ ap (λ (t : ℕ). t * a) (sym (pow-suc a (k + k)))
    ∙ sym (pow-suc a (suc (k + k))) ∙ ap (λ (t : ℕ). a ^ t) (sym e)

-- a power of a unit's square, as a number
squared : (a s k : ℕ) → s ≡ mul_unit a a → Same prime (power_unit s k) (a ^ (k + k))
squared a s k e =
    power_unit-is s k ⟫ same_power k (same e ⟫ mul_unit-is a a) ⟫ same (square-power a k)

-- no exponent left: what was multiplied so far
pub times_none : (by a e r : ℕ) → e ≡ 0 → r ≡ mul_unit by 1 → r ≡ mul_unit by (power_unit a e)
unfolding power_unit
times_none by a e r z f = f ∙ ap (λ (t : ℕ). mul_unit by (power_unit a t)) (sym z)

-- an even exponent: the square to its half
pub times-even : (by a e s r : ℕ) → e % 2 ≡ 0 → s ≡ mul_unit a a → r ≡ mul_unit by (power_unit s (e / 2))
    → r ≡ mul_unit by (power_unit a e)
times-even by a e s r z es er =
    let d : e / 2 + e / 2 ≡ e = omega arith in
    er ∙ mul_unit-same keep (squared a s (e / 2) es ⟫ same (ap (λ (t : ℕ). a ^ t) d) ⟫ back (power_unit-is a e))

-- an odd one: the same, and once more
pub times-odd : (by a e s b r : ℕ) → (e % 2 ≡ 0 → ⊥) → s ≡ mul_unit a a → b ≡ mul_unit by a
    → r ≡ mul_unit b (power_unit s (e / 2)) → r ≡ mul_unit by (power_unit a e)
times-odd by a e s b r z es eb er =
    let d : suc (e / 2 + e / 2) ≡ e = omega (arith, z) in
    let m : a * a ^ (e / 2 + e / 2) ≡ a ^ (e / 2 + e / 2) * a = omega arith in
    er ∙ ap (λ (t : ℕ). mul_unit t (power_unit s (e / 2))) eb ∙ mul_unit-assoc by a (power_unit s (e / 2))
    ∙ mul_unit-same keep (mul_unit-is a (power_unit s (e / 2)) ⟫ keep ⊗ squared a s (e / 2) es
    ⟫ same (m ∙ sym (pow-suc a (e / 2 + e / 2)) ∙ ap (λ (t : ℕ). a ^ t) d) ⟫ back (power_unit-is a e))

-- from 1 on: the power itself
pub one-times : (a e r : ℕ) → r ≡ mul_unit 1 (power_unit a e) → r ≡ power_unit a e
one-times a e r f = f ∙ one (power_unit a e) (power_unit-below a e)
  where
    one : (t : ℕ) → t < prime → mul_unit 1 t ≡ t
    one t h = mul_unit-comm 1 t ∙ mul_unit-one t ∙ mod-eq_of_lt h
