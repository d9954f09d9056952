-- An equation's words stored in parts: the count, the image, and the terms between them. Whether they fit is
-- asked without a sum that could wrap. Assumes nothing.
use Prim.Native.Nat.{ℕ, suc, ◌+◌, ◌*◌, ◌-◌, ◌/◌, ◌≤◌, ◌<◌}
use mathlib.Core.Path.{◌≡◌, refl, sym, ap, ◌∙◌}
use mathlib.Core.Bool.{Bool, true, false, ◌&&◌}
use mathlib.Core.List.{List, [], ◌∷◌, ◌++◌}
use native.Mathlib.Numerals.{add-one}
use native.Mathlib.Nat.{add-zero}
use native.Mathlib.Omega.{arith}
use borrow.Author.Tests.{le-leb, lt-leb, lt-ltb, le-ltb, leb-true, leb-false, ltb-true, ltb-false}
use lib.Dec.{leb, ltb}
use lib.ListN.{length, set}
use lib.Seq.{sets, set_comm}
use Rattle.limits.specs.Numbers.{word_end}
use Rattle.words.specs.Store.{put_words}
use Rattle.words.proofs.Written.{fit-put, sets-put}
use Rattle.expr.specs.Equation.{Term, Equation, equation, term_words, equation_words, equation_size, fit_equation, equation_fits, put_ends}
use Rattle.expr.proofs.Held.{length-terms, length-equation}

-- ---- does it fit?
pub fits-half : (at n len : ℕ) → at ≤ len → 2 ≤ len - at → leb n ((len - at - 2) / 2) ≡ leb (at + equation_size n) len
fits-half at n len h k = go (leb n ((len - at - 2) / 2)) refl
  where
    go : (b : Bool) → leb n ((len - at - 2) / 2) ≡ b → leb n ((len - at - 2) / 2) ≡ leb (at + equation_size n) len
    go true e =
        let f : n ≤ (len - at - 2) / 2 = leb-true n ((len - at - 2) / 2) e in
        e ∙ sym (le-leb (at + equation_size n) len (omega arith))
    go false e =
        let f : (len - at - 2) / 2 < n = leb-false n ((len - at - 2) / 2) e in
        e ∙ sym (lt-leb (at + equation_size n) len (omega arith))

-- ---- the words stored behind their count, with the image stored before them
image-stored : (ws out : List ℕ) (at image : ℕ) → sets (set out (at + length ws) image) at ws ≡ sets out at (ws ++ (image ∷ []))
image-stored [] out at image = ap (λ (k : ℕ). set out k image) (add-zero at)
image-stored (w ∷ ws) out at image =
    let d : (at + suc (length ws) ≡ at) → ⊥ = λ e. absurd (omega (arith, e)) in
    let k : at + suc (length ws) ≡ suc at + length ws = omega arith in
    ap (λ (l : List ℕ). sets l (suc at) ws) (set_comm out (at + suc (length ws)) at image w d)
    ∙ ap (λ (p : ℕ). sets (set (set out at w) p image) (suc at) ws) k
    ∙ image-stored ws (set out at w) (suc at) image

pub words-stored : (ts : List Term) (image : ℕ) (out : List ℕ) (at : ℕ)
    → sets (set (set out at (length ts)) (at + 1 + 2 * length ts) image) (at + 1) (term_words ts) ≡ sets out at (equation_words (equation ts image))
words-stored ts image out at =
    let n = length ts in
    let k : at + 1 + 2 * n ≡ at + 1 + length (term_words ts) = ap (λ (m : ℕ). at + 1 + m) (sym (length-terms ts)) in
    ap (λ (p : ℕ). sets (set (set out at n) p image) (at + 1) (term_words ts)) k
    ∙ image-stored (term_words ts) (set out at n) (at + 1) image
    ∙ ap (λ (p : ℕ). sets (set out at n) p (term_words ts ++ (image ∷ []))) (add-one at)

-- ---- the whole
module _ (at : ℕ) (e : Equation) (out : List ℕ) where
  pub fit-equation : length e.terms < word_end → at + equation_size (length e.terms) ≤ length out
      → fit_equation at e out ≡ put_words at (equation_words e) out
  fit-equation w h =
      let n = length-equation e in
      let k : at + length (equation_words e) ≤ length out = rw n h in
      simp (lt-ltb (length e.terms) word_end w) (fit-put at (equation_words e) out k)

  pub fit-stored : length e.terms < word_end → at + equation_size (length e.terms) ≤ length out
      → sets out at (equation_words e) ≡ fit_equation at e out
  fit-stored w h =
      let n = length-equation e in
      let k : at + length (equation_words e) ≤ length out = rw n h in
      sets-put at (equation_words e) out k ∙ sym (fit-equation w h)

  pub no_word : word_end ≤ length e.terms → out ≡ fit_equation at e out
  no_word w = simp (le-ltb (length e.terms) word_end w)

  pub no_room : length e.terms < word_end → length out < at + equation_size (length e.terms) → out ≡ fit_equation at e out
  no_room w h =
      let n = length-equation e in
      let k : length out < at + length (equation_words e) = rw n h in
      simp (lt-ltb (length e.terms) word_end w, lt-leb (at + length (equation_words e)) (length out) k)

-- ---- by the test
pub fits-within : (at n len : ℕ) → equation_fits at n len ≡ true → at + equation_size n ≤ len
fits-within at n len h = leb-true (at + equation_size n) len (go (ltb n word_end) h)
  where
    go : (a : Bool) → (a && leb (at + equation_size n) len) ≡ true → leb (at + equation_size n) len ≡ true
    go true h = h
    go false h = cc

module _ (at : ℕ) (ts : List Term) (image : ℕ) (out : List ℕ) where
  pub stored-where-fits : equation_fits at (length ts) (length out) ≡ true
      → sets (put_ends at (length ts) image out) (at + 1) (term_words ts) ≡ fit_equation at (equation ts image) out
  stored-where-fits h = go (ltb (length ts) word_end) (leb (at + equation_size (length ts)) (length out)) refl refl h
    where
      go : (a b : Bool) → ltb (length ts) word_end ≡ a → leb (at + equation_size (length ts)) (length out) ≡ b → (a && b) ≡ true
          → sets (put_ends at (length ts) image out) (at + 1) (term_words ts) ≡ fit_equation at (equation ts image) out
      go true true e f h =
          words-stored ts image out at
          ∙ fit-stored at (equation ts image) out (ltb-true (length ts) word_end e) (leb-true (at + equation_size (length ts)) (length out) f)
      go true false e f h = cc
      go false b e f h = cc

  pub same-where-not : equation_fits at (length ts) (length out) ≡ false → out ≡ fit_equation at (equation ts image) out
  same-where-not h = go (ltb (length ts) word_end) (leb (at + equation_size (length ts)) (length out)) refl refl h
    where
      go : (a b : Bool) → ltb (length ts) word_end ≡ a → leb (at + equation_size (length ts)) (length out) ≡ b → (a && b) ≡ false
          → out ≡ fit_equation at (equation ts image) out
      go true true e f h = cc
      go true false e f h =
          no_room at (equation ts image) out (ltb-true (length ts) word_end e) (leb-false (at + equation_size (length ts)) (length out) f)
      go false b e f h = no_word at (equation ts image) out (ltb-false (length ts) word_end e)
