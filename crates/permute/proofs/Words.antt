-- Words put over as many and compared: that lists with the same words are equal, and what `==` says of two lists.
-- Assumes nothing.
use Prim.Native.Nat.{ℕ, ◌+◌, ◌≤◌}
use mathlib.Core.Path.{◌≡◌, refl, ap, ◌∙◌}
use mathlib.Core.Bool.{Bool, true, ◌&&◌}
use mathlib.Core.List.{List, [], ◌∷◌, ◌++◌, append-nil}
use native.Mathlib.Omega.{arith}
use borrow.Author.Tests.{eq-eqb, eqb-true}
use lib.Dec.{eqb}
use lib.ListN.{length, drop, drop_of_length-le}
use Rattle.std.specs.Cmp.Lexicographic.{pointwise}
use Rattle.limits.proofs.Below.{both_true, true-both}
use Rattle.words.specs.Store.{fit_words}
use Rattle.words.proofs.Written.{fit-put}
use Rattle.permute.specs.Parameters.{same_words}

-- ---- put over as many
pub put-over : (words s : List ℕ) → length words ≡ length s → fit_words 0 words s ≡ words
put-over words s l =
    let all : length s ≤ 0 + length words = omega arith in
    let none : drop (0 + length words) s ≡ [] = drop_of_length-le s all in
    fit-put 0 words s (omega arith) ∙ ap (λ (rest : List ℕ). words ++ rest) none ∙ append-nil words

-- ---- compared
pub same_words-refl : (x : List ℕ) → same_words x x ≡ true
unfolding same_words
same_words-refl [] = refl
same_words-refl (a ∷ x) = true-both (eqb a a) (same_words x x) (eq-eqb a a refl) (same_words-refl x)

pub same_words-is : (x y : List ℕ) → same_words x y ≡ true → x ≡ y
unfolding same_words
same_words-is [] [] e = refl
same_words-is [] (b ∷ y) e = absurd (let z : ◌≡◌ {A = ℕ} 0 1 = cc in omega arith)
same_words-is (a ∷ x) [] e = absurd (let z : ◌≡◌ {A = ℕ} 0 1 = cc in omega arith)
same_words-is (a ∷ x) (b ∷ y) e =
    let p = both_true (eqb a b) (same_words x y) e in
    let h : a ≡ b = eqb-true a b p.0 in
    let t : x ≡ y = same_words-is x y p.1 in
    cc

-- what `==` says of two lists
pub pointwise-is : (x y : List ℕ) → pointwise eqb x y ≡ same_words x y
unfolding same_words
pointwise-is [] [] = refl
pointwise-is [] (b ∷ y) = refl
pointwise-is (a ∷ x) [] = refl
pointwise-is (a ∷ x) (b ∷ y) = ap (λ (t : Bool). eqb a b && t) (pointwise-is x y)
