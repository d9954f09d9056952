-- Inputs behind outputs, from the definitions: document 01's permutation, one of width 2, the same with singular
-- matrices, and no rounds; and which question says no where several would.
--
-- No 7th root and no inverse of a unit is computed here: the output is computed from the input, and that is the only
-- one. Assumes nothing.
use Prim.Native.Nat.{ℕ, ◌+◌, ◌*◌, ◌<◌}
use mathlib.Core.Path.{◌≡◌, refl, sym, ap, ap₂, ◌∙◌}
use mathlib.Core.Bool.{Bool, true, false}
use mathlib.Core.List.{List, [], ◌∷◌}
use native.Mathlib.Omega.{arith}
use borrow.Author.Tests.{lt-leb}
use lib.Dec.{lit<, lit≤}
use lib.ListN.{length, get_or}
use Rattle.limits.specs.Numbers.{prime, max_count}
use Rattle.limits.specs.Below.{all_below}
use Rattle.limits.specs.Questions.{ask, first_of_two}
use Rattle.limits.specs.Outcome.{outcome_of}
use Rattle.limits.proofs.Below.{below-cons, cons-below}
use Rattle.baby_bear.specs.Field.{add_unit, mul_unit, dot_units, dot}
use Rattle.baby_bear.proofs.Mod.{Same, same, keep, back, ◌⟫◌, ◌⊗◌, ◌⊕◌, below}
use Rattle.baby_bear.proofs.Ring.{dot_units-is}
use Rattle.permute.specs.Permute.{times_matrix, permute}
use Rattle.permute.specs.Parameters.{rounds_of, rows_of, parameters_of, sound_kinds, unit_constants, unit_rows, sound_parameters}
use Rattle.permute.proofs.Examples.{worked, two-wide}
use Rattle.powers.proofs.Residues.{multiple}
use Rattle.matrix_inverse.specs.Inverse.{Units, Singular, zeros_at, pivot, eliminate}
use Rattle.inverse.specs.Inverse.{SharedOutput, permute_inverse}
use Rattle.inverse.specs.Answers.{is_invertible, permute_inverse_no, permute_inverted}
use Rattle.inverse.proofs.Behind.{there_and_back, none-returned, uninvertible-is, singular-shared}
use Rattle.inverse.proofs.Laws.{accepted-is, permute_inverted-yes, is-fortyfour, behind}

-- what w units give has them as its input
output-back : (w rounds : ℕ) (words x y : List ℕ) → sound_parameters w rounds words ≡ true → is_invertible w rounds words ≡ true
    → Units w x → permute (parameters_of w rounds words) x ≡ y → permute_inverse (parameters_of w rounds words) y ≡ x
output-back w rounds words x y s i u g =
    ap (permute_inverse (parameters_of w rounds words)) (sym g) ∙ there_and_back w rounds words s i x u

-- ---- document 01's: w = 1, one round, kind 0, constant 2013265920, and a matrix of one word
abbrev words : ℕ → List ℕ
words m = 0 ∷ 2013265920 ∷ m ∷ []

-- with matrix 5, outputs 5 and 640 are accepted; the word that the lent list held needn't be a unit
pub worked-number : (permute_inverse_no 1 1 (words 5) (5 ∷ []) (4294967295 ∷ []) ≡ 0)
    × (permute_inverse_no 1 1 (words 5) (640 ∷ []) (0 ∷ []) ≡ 0)
unfolding ask first_of_two all_below rounds_of rows_of sound_kinds unit_constants unit_rows sound_parameters zeros_at pivot eliminate is_invertible permute_inverse_no
worked-number = (refl, refl)

-- 2 gives 5 and 3 gives 640: the input behind 5 is 2, and behind 640 it is 3
pub worked-back : (permute_inverse (parameters_of 1 1 (words 5)) (5 ∷ []) ≡ 2 ∷ [])
    × (permute_inverse (parameters_of 1 1 (words 5)) (640 ∷ []) ≡ 3 ∷ [])
unfolding all_below
worked-back =
    let a = accepted-is 1 1 (words 5) (640 ∷ []) (0 ∷ []) worked-number.1 in (
      output-back 1 1 (words 5) (2 ∷ []) (5 ∷ []) a.asked.sound a.invertible (record { size = refl; below = refl }) worked.1,
      output-back 1 1 (words 5) (3 ∷ []) (640 ∷ []) a.asked.sound a.invertible (record { size = refl; below = refl }) worked.2,
    )

-- and that is what the lent list holds afterwards
pub worked-left : (permute_inverted 1 1 (words 5) (5 ∷ []) (4294967295 ∷ []) ≡ 2 ∷ [])
    × (permute_inverted 1 1 (words 5) (640 ∷ []) (0 ∷ []) ≡ 3 ∷ [])
worked-left = (
  permute_inverted-yes 1 1 (words 5) (5 ∷ []) (4294967295 ∷ []) worked-number.0 ∙ worked-back.0,
  permute_inverted-yes 1 1 (words 5) (640 ∷ []) (0 ∷ []) worked-number.1 ∙ worked-back.1,
)

-- the same with matrix 0 is 44, whatever the output is, and the list holds what it held
pub singular-number : (permute_inverse_no 1 1 (words 0) (5 ∷ []) (7 ∷ []) ≡ 44)
    × (permute_inverse_no 1 1 (words 0) (0 ∷ []) (7 ∷ []) ≡ 44)
    × (permute_inverted 1 1 (words 0) (5 ∷ []) (7 ∷ []) ≡ 7 ∷ [])
unfolding ask first_of_two all_below rounds_of rows_of sound_kinds unit_constants unit_rows sound_parameters zeros_at pivot eliminate is_invertible permute_inverse_no permute_inverted
singular-number = (refl, refl, refl)

-- so two inputs share an output
pub singular-shares : SharedOutput 1 (parameters_of 1 1 (words 0))
singular-shares = (behind 1 1 (words 0) (5 ∷ []) (7 ∷ [])).shared (ap outcome_of singular-number.0)

-- ---- w = 2, one round, constants 1 and 2, and a second row
abbrev wide : ℕ → ℕ → ℕ → List ℕ
wide kind c d = kind ∷ 1 ∷ 2 ∷ 1 ∷ 2 ∷ c ∷ d ∷ []

-- a unit is 0 where, but for a multiple of p, it is a sum of multiples of numbers that are 0 modulo p
sum-zero : (a k c d e f : ℕ) → a < prime → c * e + d * f ≡ a + k * prime → Same prime e 0 → Same prime f 0 → a ≡ 0
sum-zero a k c d e f h m se sf =
    let z : a + 0 ≡ a = omega arith in
    let o : c * 0 + d * 0 ≡ 0 = omega arith in
    below h (lit< tt)
    (same (sym z) ⟫ keep {a = a} ⊕ back (multiple k) ⟫ same (sym m) ⟫ (keep {a = c} ⊗ se) ⊕ (keep {a = d} ⊗ sf) ⟫ same o)

-- the rows 1 2 and 3 4 make 0 of 0 alone
regular : (v : List ℕ) → Units 2 v → times_matrix ((1 ∷ 2 ∷ []) ∷ (3 ∷ 4 ∷ []) ∷ []) v ≡ 0 ∷ 0 ∷ [] → v ≡ 0 ∷ 0 ∷ []
unfolding times_matrix dot
regular [] u e = absurd (let z : ◌≡◌ {A = ℕ} 0 2 = u.size in omega arith)
regular (a ∷ []) u e = absurd (let z : ◌≡◌ {A = ℕ} 1 2 = u.size in omega arith)
regular (a ∷ b ∷ c ∷ v) u e = absurd (omega (arith, u.size))
regular (a ∷ b ∷ []) u e =
    let h = below-cons prime a (b ∷ []) u.below in
    let l = below-cons prime b [] h.1 in
    let se : Same prime (1 * a + (2 * b + 0)) 0 =
    record { is = sym (dot_units-is (1 ∷ 2 ∷ []) (a ∷ b ∷ [])) ∙ ap (λ (t : List ℕ). get_or t 0 0) e } in
    let sf : Same prime (3 * a + (4 * b + 0)) 0 =
    record { is = sym (dot_units-is (3 ∷ 4 ∷ []) (a ∷ b ∷ [])) ∙ ap (λ (t : List ℕ). get_or t 1 0) e } in
    ap₂ (λ (i j : ℕ). i ∷ j ∷ [])
    (sum-zero a (a + 2 * b) 2013265919 1 _ _ h.0 (omega arith) se sf)
    (sum-zero b (3 * a + 5 * b) 3019898883 1006632960 _ _ l.0 (omega arith) se sf)

-- so 44 says yes to them
wide-invertible : (kind : ℕ) → sound_parameters 2 1 (wide kind 3 4) ≡ true → is_invertible 2 1 (wide kind 3 4) ≡ true
unfolding rows_of
wide-invertible kind s = go (is_invertible 2 1 (wide kind 3 4)) refl
  where
    go : (t : Bool) → is_invertible 2 1 (wide kind 3 4) ≡ t → t ≡ true
    go true e = refl
    go false e =
        let k = (uninvertible-is 2 1 (wide kind 3 4) s e).1 in
        absurd (k.some (regular k.vector k.units k.sent))

-- the input behind 134 396, by kind 1, and behind 4502 9132, by kind 0, is 1 1
pub wide_back : (permute_inverse (parameters_of 2 1 (wide 1 3 4)) (134 ∷ 396 ∷ []) ≡ 1 ∷ 1 ∷ [])
    × (permute_inverse (parameters_of 2 1 (wide 0 3 4)) (4502 ∷ 9132 ∷ []) ≡ 1 ∷ 1 ∷ [])
unfolding all_below
wide_back =
    let u : Units 2 (1 ∷ 1 ∷ []) = record { size = refl; below = refl } in (
      output-back 2 1 (wide 1 3 4) (1 ∷ 1 ∷ []) _ two-wide.1 (wide-invertible 1 two-wide.1) u two-wide.2,
      output-back 2 1 (wide 0 3 4) (1 ∷ 1 ∷ []) _ two-wide.0 (wide-invertible 0 two-wide.0) u two-wide.3,
    )

-- the second row twice the first, 2 4: they make 0 of p - 2 and 1
twice : Singular 2 (rows_of 2 2 (1 ∷ 2 ∷ 2 ∷ 4 ∷ []))
unfolding rows_of times_matrix dot_units add_unit mul_unit all_below
twice = record {
  vector = 2013265919 ∷ 1 ∷ [];
  units = record { size = refl; below = refl };
  some = λ e. absurd (let z : ◌≡◌ {A = ℕ} 1 0 = ap (λ (t : List ℕ). get_or t 1 0) e in omega arith);
  sent = refl;
}

-- so that is 44
pub wide-singular : permute_inverse_no 2 1 (wide 1 2 4) (134 ∷ 396 ∷ []) (0 ∷ 0 ∷ []) ≡ 44
unfolding ask first_of_two all_below rounds_of rows_of sound_kinds unit_constants unit_rows sound_parameters
wide-singular =
    is-fortyfour 2 1 (wide 1 2 4) (134 ∷ 396 ∷ []) (0 ∷ 0 ∷ []) refl (singular-shared 2 1 (wide 1 2 4) (lit≤ tt) twice)

-- ---- no rounds
-- R = 0 and the matrix 0: accepted,
pub unturned-number : permute_inverse_no 1 0 (0 ∷ []) (5 ∷ []) (7 ∷ []) ≡ 0
unfolding ask first_of_two all_below rounds_of rows_of sound_kinds unit_constants unit_rows sound_parameters is_invertible permute_inverse_no
unturned-number = refl

-- and the output comes back
pub unturned-left : permute_inverted 1 0 (0 ∷ []) (5 ∷ []) (7 ∷ []) ≡ 5 ∷ []
unturned-left =
    permute_inverted-yes 1 0 (0 ∷ []) (5 ∷ []) (7 ∷ []) unturned-number ∙ none-returned 1 0 (0 ∷ []) (5 ∷ []) refl

-- ---- which question says no
-- 9: the output or the lent list is longer or shorter than w; before 4, 17 and 44
pub size-numbers : (permute_inverse_no 1 1 (words 5) (5 ∷ []) [] ≡ 9)
    × (permute_inverse_no 1 1 (words 5) (5 ∷ []) (0 ∷ 0 ∷ []) ≡ 9)
    × (permute_inverse_no 1 1 (words 5) (5 ∷ 5 ∷ []) (0 ∷ []) ≡ 9)
    × (permute_inverse_no 1 1 (words 5) (2013265921 ∷ []) [] ≡ 9)
    × (permute_inverse_no 1 1 (2 ∷ []) (5 ∷ []) [] ≡ 9)
    × (permute_inverse_no 1 1 (words 0) (5 ∷ []) [] ≡ 9)
unfolding ask first_of_two all_below rounds_of rows_of sound_kinds unit_constants unit_rows sound_parameters zeros_at pivot eliminate is_invertible permute_inverse_no
size-numbers = (refl, refl, refl, refl, refl, refl)

-- 4: an output that is no unit; 17: a kind of 2, and a word too many; before 44
pub other-numbers : (permute_inverse_no 1 1 (words 0) (2013265921 ∷ []) (0 ∷ []) ≡ 4)
    × (permute_inverse_no 1 1 (2 ∷ 2013265920 ∷ 0 ∷ []) (5 ∷ []) (0 ∷ []) ≡ 17)
    × (permute_inverse_no 1 1 (0 ∷ 2013265920 ∷ 0 ∷ 0 ∷ []) (5 ∷ []) (0 ∷ []) ≡ 17)
unfolding ask first_of_two all_below rounds_of rows_of sound_kinds unit_constants unit_rows sound_parameters zeros_at pivot eliminate is_invertible permute_inverse_no
other-numbers = (refl, refl, refl)

-- 1: no width, or one too large; before 9
pub width-numbers : (permute_inverse_no 0 0 [] [] (0 ∷ []) ≡ 1) × (permute_inverse_no 25 0 [] [] [] ≡ 1)
unfolding ask first_of_two all_below rounds_of rows_of sound_kinds unit_constants unit_rows sound_parameters zeros_at pivot eliminate is_invertible permute_inverse_no
width-numbers = (refl, refl)

-- 2: a lent list of more than 2^30 words; before 9
pub long-number : (x : List ℕ) → max_count < length x → permute_inverse_no 1 1 (words 5) (5 ∷ []) x ≡ 2
unfolding ask first_of_two permute_inverse_no
long-number x h = rw (lt-leb (length x) max_count h)

-- 4 before 17
pub unit-number : permute_inverse_no 1 1 (2 ∷ []) (2013265921 ∷ []) (0 ∷ []) ≡ 4
unfolding ask first_of_two all_below rounds_of rows_of sound_kinds unit_constants unit_rows sound_parameters zeros_at pivot eliminate is_invertible permute_inverse_no
unit-number = refl

-- 3 gives 640, and no other unit does
pub worked-only : (permute (parameters_of 1 1 (words 5)) (3 ∷ []) ≡ 640 ∷ [])
    × ((z : ℕ) → z < prime → permute (parameters_of 1 1 (words 5)) (z ∷ []) ≡ 640 ∷ [] → z ∷ [] ≡ 3 ∷ [])
unfolding all_below
worked-only =
    let b = (behind 1 1 (words 5) (640 ∷ []) (0 ∷ [])).input (ap outcome_of worked-number.1) in (
      ap (permute (parameters_of 1 1 (words 5))) (sym worked-left.1) ∙ b.gives,
      λ z h g. b.only (z ∷ []) (record { size = refl; below = cons-below prime z [] h refl }) g ∙ worked-left.1,
    )
