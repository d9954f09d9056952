-- The check's test of a step is what document 01 calls an evaluation, wherever 1 and 17 say yes and the step
-- is 2w units. Assumes nothing.
use Prim.Native.Nat.{ℕ, zero, suc, ◌+◌, ◌*◌, ◌≤◌, ◌<◌}
use mathlib.Core.Path.{◌≡◌, refl, sym, ap, ap₂, ◌∙◌}
use mathlib.Core.Bool.{true, and-eq-true_iff}
use mathlib.Core.Logic.{◌↔◌}
use mathlib.Core.List.{List, [], ◌∷◌}
use native.Mathlib.Nat.{mul-le-mul}
use native.Mathlib.Omega.{arith}
use borrow.Author.Tests.{leb-true, lt-ltb, eqb-true, eq-eqb}
use lib.Dec.{eqb, ltb}
use lib.ListN.{length, take}
use lib.Seq.{length-take-le}
use Rattle.limits.specs.Numbers.{prime, max_count, max_width}
use Rattle.limits.specs.Below.{all_below}
use Rattle.words.specs.Store.{All}
use Rattle.baby_bear.specs.Field.{are_units}
use Rattle.permute.specs.Permute.{permute}
use Rattle.permute.specs.Parameters.{parameters_of, sound_parameters, permute_no, same_words, is_evaluation}
use Rattle.history.specs.Sat.{Evaluates}
use Rattle.history.proofs.Outcomes.{past-yes, past_fits, past-width}
use Rattle.history.proofs.Shapes.{IsTrace}

-- ---- two lists with the same words are equal
same-yes : (x y : List ℕ) → same_words x y ≡ true → x ≡ y
unfolding same_words
same-yes [] [] e = refl
same-yes [] (b ∷ y) e = cc
same-yes (a ∷ x) [] e = cc
same-yes (a ∷ x) (b ∷ y) e =
    let t = (and-eq-true_iff (eqb a b) (same_words x y)).0 e in
    ap₂ (λ (n : ℕ) (l : List ℕ). n ∷ l) (eqb-true a b t.0) (same-yes x y t.1)

same_refl : (x : List ℕ) → same_words x x ≡ true
unfolding same_words
same_refl [] = refl
same_refl (a ∷ x) = (and-eq-true_iff (eqb a a) (same_words x x)).1 (eq-eqb a a refl, same_refl x)

-- ---- the first words of units are units
take-units : (n : ℕ) (l : List ℕ) → All (λ v. v < prime) l → are_units (take n l) ≡ true
unfolding all_below
take-units zero l u = refl
take-units (suc n) [] u = refl
take-units (suc n) (v ∷ l) u =
    (and-eq-true_iff (ltb v prime) (are_units (take n l))).1 (lt-ltb v prime u.0, take-units n l u.1)

module _ (w rounds : ℕ) (params : List ℕ) (narrow : 1 ≤ w) (wide : w ≤ max_width) (sound : sound_parameters w rounds params ≡ true) where
  -- 17 leaves few words
  pub few_words : length params ≤ max_count
  unfolding sound_parameters
  few_words =
      let a = (and-eq-true_iff _ _).0 sound in
      let r : rounds ≤ 128 = leb-true rounds 128 a.0 in
      let l : length params ≡ rounds * (w + 1) + w * w = eqb-true _ _ ((and-eq-true_iff _ _).0 a.1).0 in
      let m : w + 1 ≤ 25 = omega arith in
      let h : rounds * (w + 1) ≤ 128 * 25 = mul-le-mul r m in
      let k : w * w ≤ 24 * 24 = mul-le-mul wide wide in
      omega arith

  -- nothing refuses the first w units of a step
  permuted-yes : (s : List ℕ) → length s ≡ w + w → All (λ v. v < prime) s → permute_no w rounds params (take w s) ≡ 0
  unfolding permute_no
  permuted-yes s l u =
      let n : length (take w s) ≡ w = length-take-le w s (omega arith) in
      past-width w _ narrow wide
      ∙ past_fits 2 _ _ _ few_words
      ∙ past_fits 2 (length (take w s)) max_count _ (omega arith)
      ∙ past-yes 9 _ _ (eq-eqb (length (take w s)) w n)
      ∙ past-yes 4 _ _ (take-units w s u)
      ∙ past-yes 17 _ _ sound

  step_is : (s : List ℕ) → length s ≡ w + w → All (λ v. v < prime) s
      → (is_evaluation w rounds params s ≡ true) ↔ Evaluates w (parameters_of w rounds params) s
  unfolding is_evaluation
  step_is s l u = (
    λ e. same-yes _ _ ((and-eq-true_iff (eqb (permute_no w rounds params (take w s)) 0) _).0 e).1,
    λ e. (and-eq-true_iff _ _).1
        (eq-eqb _ 0 (permuted-yes s l u), ap (λ (y : List ℕ). same_words (permute (parameters_of w rounds params) (take w s)) y) (sym e) ∙ same_refl _),
  )

  steps-are : (trace : List (List ℕ)) → All (λ s. length s ≡ w + w) trace → All (λ s. All (λ v. v < prime) s) trace
      → All (λ s. is_evaluation w rounds params s ≡ true) trace ↔ All (Evaluates w (parameters_of w rounds params)) trace
  steps-are [] l u = (λ a. a, λ a. a)
  steps-are (s ∷ trace) l u =
      let h = step_is s l.0 u.0 in
      let r = steps-are trace l.1 u.1 in
      (λ a. (h.0 a.0, r.0 a.1), λ a. (h.1 a.0, r.1 a.1))

  pub evaluations-are : (trace : List (List ℕ)) → IsTrace w trace
      → All (λ s. is_evaluation w rounds params s ≡ true) trace ↔ All (Evaluates w (parameters_of w rounds params)) trace
  evaluations-are trace tr = steps-are trace tr.lengths tr.units
