-- Laws of a permutation for its callers: when it is accepted, what it then leaves, that this is w units, and
-- what an evaluation is. Assumes nothing.
use Prim.Native.Nat.{ℕ, ◌+◌, ◌*◌, ◌≤◌}
use mathlib.Core.Path.{◌≡◌, refl, sym, ap, ◌∙◌}
use mathlib.Core.Bool.{true, false}
use mathlib.Core.List.{List}
use native.Mathlib.Omega.{arith}
use native.Mathlib.Nat.{mul-le-mul}
use borrow.Author.Tests.{leb-true, le-leb, eqb-true, eq-eqb, ne_eqb}
use lib.Dec.{eqb}
use lib.ListN.{length, take, drop}
use Rattle.limits.specs.Numbers.{max_count, max_width}
use Rattle.limits.proofs.Questions.{accepted-says, ask-yes, join, on_yes-yes, on_yes-no}
use Rattle.limits.proofs.Below.{both_true, true-both}
use Rattle.baby_bear.specs.Field.{are_units}
use Rattle.permute.specs.Permute.{permute, run_rounds}
use Rattle.permute.specs.Parameters.{rounds_of, parameters_of, sound_parameters, permute_asks, permute_no, permuted, same_words, is_evaluation}
use Rattle.permute.proofs.Keeps.{rows_of-length, run_rounds-length, run_rounds-units}
use Rattle.permute.proofs.Parameters.{Sound, sound-is}
use Rattle.permute.proofs.Words.{same_words-refl, same_words-is}

-- 128 rounds of width 24 are few words
parameters-fit : (w rounds : ℕ) (words : List ℕ) → Sound w rounds words → w ≤ max_width → length words ≤ 3776
parameters-fit w rounds words s h =
    let a = mul-le-mul {n₁ = rounds} {m₁ = w + 1} {n₂ = 128} {m₂ = 25} s.few (omega arith) in
    let b = mul-le-mul {n₁ = w} {m₁ = w} {n₂ = max_width} {m₂ = max_width} h h in
    omega (arith, a, b, s.size)

-- ---- accepted, and what that says
pub record Accepted (w rounds : ℕ) (words x : List ℕ) : Type 0 where
  pub some : 1 ≤ w
  pub most : w ≤ max_width
  pub size : length x ≡ w
  pub units : are_units x ≡ true
  pub sound : sound_parameters w rounds words ≡ true

module _ (w rounds : ℕ) (words x : List ℕ) where
  pub accepted-is : permute_no w rounds words x ≡ 0 → Accepted w rounds words x
  unfolding permute_no
  accepted-is e =
      let says = accepted-says (permute_asks w rounds words x) tt e in
      record {
        some = leb-true 1 w (says 0);
        most = leb-true w max_width (says 1);
        size = eqb-true (length x) w (says 4);
        units = says 5;
        sound = says 6;
      }

  pub is-accepted : Accepted w rounds words x → permute_no w rounds words x ≡ 0
  unfolding permute_no
  is-accepted a =
      let s = sound-is w rounds words a.sound in
      let n = parameters-fit w rounds words s a.most in
      join _ _ (ask-yes 1 _ (le-leb 1 w a.some))
      (join _ _ (ask-yes 1 _ (le-leb w max_width a.most))
      (join _ _ (ask-yes 2 _ (le-leb (length words) max_count (omega (arith, n))))
      (join _ _ (ask-yes 2 _ (le-leb (length x) max_count (omega (arith, a.size, a.most))))
      (join _ _ (ask-yes 9 _ (eq-eqb (length x) w a.size))
      (join _ _ (ask-yes 4 _ a.units)
      (join _ _ (ask-yes 17 _ a.sound) refl))))))

  pub permuted-yes : permute_no w rounds words x ≡ 0 → permuted w rounds words x ≡ permute (parameters_of w rounds words) x
  unfolding permuted
  permuted-yes e = on_yes-yes _ _ _ e

  pub permuted-no : (permute_no w rounds words x ≡ 0 → ⊥) → permuted w rounds words x ≡ x
  unfolding permuted
  permuted-no h = on_yes-no _ _ _ h

  -- ---- w units give w units
  pub permute-length : length x ≡ w → length (permute (parameters_of w rounds words) x) ≡ w
  permute-length l =
      let k = rows_of-length w w (drop (rounds * (w + 1)) words) in
      run_rounds-length _ (rounds_of w rounds words) x (l ∙ sym k) ∙ k

  pub permute-units : are_units x ≡ true → are_units (permute (parameters_of w rounds words) x) ≡ true
  permute-units u = run_rounds-units _ (rounds_of w rounds words) x u

-- "R = 0 returns its input"
pub permute-none : (w : ℕ) (words x : List ℕ) → permute (parameters_of w 0 words) x ≡ x
unfolding run_rounds rounds_of
permute-none w words x = refl

pub no-rounds : (w rounds : ℕ) (words x : List ℕ) → rounds ≡ 0 → x ≡ permute (parameters_of w rounds words) x
no-rounds w rounds words x e = rw e (sym (permute-none w words x))

-- ---- evaluations
module _ (w rounds : ℕ) (words step : List ℕ) where
  pub evaluation-is : is_evaluation w rounds words step ≡ true
      → (permute_no w rounds words (take w step) ≡ 0) × (permute (parameters_of w rounds words) (take w step) ≡ drop w step)
  unfolding is_evaluation
  evaluation-is e =
      let p = both_true (eqb (permute_no w rounds words (take w step)) 0) _ e in
      (eqb-true _ _ p.0, same_words-is _ _ p.1)

  pub is-evaluation : permute_no w rounds words (take w step) ≡ 0
      → permute (parameters_of w rounds words) (take w step) ≡ drop w step → is_evaluation w rounds words step ≡ true
  unfolding is_evaluation
  is-evaluation z e =
      true-both _ _ (eq-eqb _ 0 z) (ap (same_words (permute (parameters_of w rounds words) (take w step))) (sym e) ∙ same_words-refl _)

  pub not-evaluation : (permute_no w rounds words (take w step) ≡ 0 → ⊥) → is_evaluation w rounds words step ≡ false
  unfolding is_evaluation
  not-evaluation h = simp (ne_eqb (permute_no w rounds words (take w step)) 0 h)

  pub evaluation-by : permute_no w rounds words (take w step) ≡ 0
      → same_words (permute (parameters_of w rounds words) (take w step)) (drop w step) ≡ is_evaluation w rounds words step
  unfolding is_evaluation
  evaluation-by z = simp (eq-eqb (permute_no w rounds words (take w step)) 0 z)
