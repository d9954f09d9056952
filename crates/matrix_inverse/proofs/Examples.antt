-- Inverses computed from the definitions. What a pivot has the product 1 with is not computed, since it's a power with a
-- large exponent: it's the only unit that has. Assumes nothing.
use Prim.Native.Nat.{ℕ, ◌*◌, ◌%◌, ◌<◌}
use mathlib.Core.Path.{◌≡◌, refl, sym, ◌∙◌}
use mathlib.Core.List.{[], ◌∷◌}
use native.Mathlib.Omega.{arith}
use lib.Dec.{lit<}
use Rattle.limits.specs.Numbers.{prime}
use Rattle.baby_bear.specs.Field.{add_unit, mul_unit}
use Rattle.baby_bear.proofs.Mod.{Same, same, keep, back, ◌⟫◌, ◌⊗◌, rest, below}
use Rattle.permute.specs.Permute.{pairwise}
use Rattle.powers.specs.Powers.{invert_unit}
use Rattle.powers.proofs.Roots.{invert_unit-is, invert_unit-below}
use Rattle.matrix_inverse.specs.Rows.{solve_row, substitute}
use Rattle.matrix_inverse.specs.Inverse.{exchange, zeros_at, pivot, inverse, none, eliminate, invert_matrix}

-- a unit with which the product of x is 1 is what x is inverted to
pub inverted-by : (x k : ℕ) → k < prime → x * k % prime ≡ 1 → invert_unit x ≡ k
inverted-by x k h e =
    let s : Same prime (x * k) 1 = back rest ⟫ same e in
    let a : invert_unit x ≡ invert_unit x * 1 = omega arith in
    let b : invert_unit x * (x * k) ≡ x * invert_unit x * k = omega arith in
    let c : 1 * k ≡ k = omega arith in
    below (invert_unit-below x) h
    (same a ⟫ keep {a = invert_unit x} ⊗ back s ⟫ same b ⟫ invert_unit-is x nonzero ⊗ keep {a = k} ⟫ same c)
  where
    nonzero : x % prime ≡ 0 → ⊥
    nonzero z =
        let o : Same prime x 0 = back rest ⟫ same z in
        let n : Same prime (x * k) 0 = o ⊗ keep {a = k} ⟫ same (omega arith) in
        let f : ◌≡◌ {A = ℕ} 1 0 = sym e ∙ n.is in
        omega arith

-- ---- the pivots of the examples
-- 1 is its own
one : invert_unit 1 ≡ 1
one = inverted-by 1 1 (lit< tt) refl

-- 5 times 1610612737 is 4 p + 1
five : invert_unit 5 ≡ 1610612737
five = inverted-by 5 1610612737 (lit< tt) refl

-- minus 2 times minus a half is 1
minus-two : invert_unit 2013265919 ≡ 1006632960
minus-two = inverted-by 2013265919 1006632960 (lit< tt) refl

-- ---- matrices
-- no unknowns
pub empty : invert_matrix [] ≡ inverse []
unfolding eliminate
empty = refl

-- one unknown
pub one-unknown : invert_matrix ((5 ∷ []) ∷ []) ≡ inverse ((1610612737 ∷ []) ∷ [])
unfolding add_unit mul_unit pairwise solve_row substitute exchange zeros_at pivot eliminate
one-unknown = simp five

-- the one unknown has the factor 0
pub zero-none : invert_matrix ((0 ∷ []) ∷ []) ≡ none
unfolding zeros_at pivot eliminate
zero-none = refl

-- rows 0 1 and 1 0: row 0 can't be solved for u[0], so row 1 is; the inverse is the matrix itself
pub rows-exchanged : invert_matrix ((0 ∷ 1 ∷ []) ∷ (1 ∷ 0 ∷ []) ∷ []) ≡ inverse ((0 ∷ 1 ∷ []) ∷ (1 ∷ 0 ∷ []) ∷ [])
unfolding add_unit mul_unit pairwise solve_row substitute exchange zeros_at pivot eliminate
rows-exchanged = simp one

-- rows 1 2 and 3 4: rows -2 1 and 3/2 -1/2. The second pivot is 4 - 3 · 2.
pub computed : invert_matrix ((1 ∷ 2 ∷ []) ∷ (3 ∷ 4 ∷ []) ∷ []) ≡ inverse ((2013265919 ∷ 1 ∷ []) ∷ (1006632962 ∷ 1006632960 ∷ []) ∷ [])
unfolding add_unit mul_unit pairwise solve_row substitute exchange zeros_at pivot eliminate
computed = simp (one, minus-two)

-- rows 1 2 and 2 4: the second is twice the first
pub twice-none : invert_matrix ((1 ∷ 2 ∷ []) ∷ (2 ∷ 4 ∷ []) ∷ []) ≡ none
unfolding add_unit mul_unit pairwise solve_row substitute exchange zeros_at pivot eliminate
twice-none = simp one

-- rows 1 1 0, 1 1 1 and 0 1 1: with u[0] put into row 1, u[1] is gone from it, so rows 1 and 2 are exchanged, and at the end
-- the columns 1 and 2 of what is left, which aren't the same
pub later-exchanged : invert_matrix ((1 ∷ 1 ∷ 0 ∷ []) ∷ (1 ∷ 1 ∷ 1 ∷ []) ∷ (0 ∷ 1 ∷ 1 ∷ []) ∷ [])
    ≡ inverse ((0 ∷ 1 ∷ 2013265920 ∷ []) ∷ (1 ∷ 2013265920 ∷ 1 ∷ []) ∷ (2013265920 ∷ 1 ∷ 0 ∷ []) ∷ [])
unfolding add_unit mul_unit pairwise solve_row substitute exchange zeros_at pivot eliminate
later-exchanged = simp one
