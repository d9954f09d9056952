-- More of numbers that leave the same modulo n: powers, multiples of n, and what is cancelled.
-- Assumes nothing.
use Prim.Native.Nat.{ℕ, zero, suc, ◌+◌, ◌*◌, ◌^◌}
use mathlib.Core.Path.{◌≡◌, sym, ◌∙◌}
use native.Mathlib.Omega.{arith}
use native.Mathlib.Nat.{mul-mod_left, zero-mod, pow-suc, pow-zero}
use Rattle.baby_bear.proofs.Mod.{Same, same, keep, back, ◌⟫◌, ◌⊗◌, ◌⊕◌}

-- the same numbers have the same powers
pub same_power : {n a b : ℕ} (k : ℕ) → Same n a b → Same n (a ^ k) (b ^ k)
same_power {a = a} {b = b} zero s = same (pow-zero a ∙ sym (pow-zero b))
same_power {a = a} {b = b} (suc k) s = same (pow-suc a k) ⟫ same_power k s ⊗ s ⟫ same (sym (pow-suc b k))

-- a multiple of n is the same as 0
pub multiple : {n : ℕ} (k : ℕ) → Same n (k * n) 0
multiple {n} k = record { is = mul-mod_left k n ∙ sym (zero-mod n) }

-- what is added on both sides can go; where n is suc m, m stands for minus 1
pub cancel : {m : ℕ} (a b c : ℕ) → Same (suc m) (a + c) (b + c) → Same (suc m) a b
cancel {m} a b c s = clear a ⟫ s ⊕ keep {a = m * c} ⟫ back (clear b)
  where
    clear : (a : ℕ) → Same (suc m) a (a + c + m * c)
    clear a =
        let e : a + c + m * c ≡ a + c * suc m = omega arith in
        let z : a + 0 ≡ a = omega arith in
        same (sym z) ⟫ keep {a = a} ⊕ back (multiple c) ⟫ same (sym e)
