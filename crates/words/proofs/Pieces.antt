-- Pieces of 2w words: whether a store holds them, by half of it; and the pieces that it begins with.
-- Assumes nothing.
use Prim.Native.Nat.{ℕ, zero, suc, ◌+◌, ◌*◌, ◌/◌, ◌≤◌, ◌<◌, ◌^◌}
use mathlib.Core.Path.{◌≡◌, refl, sym, ap, ◌∙◌}
use mathlib.Core.Bool.{Bool, true, false}
use mathlib.Core.List.{List, [], ◌∷◌}
use native.Mathlib.Omega.{arith}
use native.Mathlib.Nat.{not-suc-le-zero, mul-add, add-mul, mul-le-mul_right}
use borrow.Author.Tests.{le-leb, lt-leb, leb-true, leb-false}
use lib.Dec.{leb}
use lib.ListN.{length, take, drop}
use lib.Seq.{take-nil, take-take}
use Rattle.words.specs.Pieces.{words_of, pieces}

-- h + h words fit where h fit half of the store
half-fits : (h len : ℕ) → leb h (len / 2) ≡ leb (h + h) len
half-fits h len = go (leb h (len / 2)) refl
  where
    go : (b : Bool) → leb h (len / 2) ≡ b → leb h (len / 2) ≡ leb (h + h) len
    go true e =
        let f : h ≤ len / 2 = leb-true h (len / 2) e in
        e ∙ sym (le-leb (h + h) len (omega arith))
    go false e =
        let f : len / 2 < h = leb-false h (len / 2) e in
        e ∙ sym (lt-leb (h + h) len (omega arith))

pub pieces-fit : (width n len : ℕ) → leb (n * width) (len / 2) ≡ leb (words_of width n) len
pieces-fit width n len = half-fits (n * width) len ∙ ap (λ (k : ℕ). leb k len) (sym (mul-add n width width))

pub one-more-fits : (width n len : ℕ) → leb (n * width + width) (len / 2) ≡ leb (words_of width (n + 1)) len
one-more-fits width n len =
    let e : n * width + width ≡ (n + 1) * width = rw (add-mul n 1 width) (omega arith) in
    ap (λ (k : ℕ). leb k (len / 2)) e ∙ pieces-fit width (n + 1) len

-- n + 1 halves of pieces fit 64 bits
pub one-more-below : (width n : ℕ) → n < 2 ^ 32 → width < 2 ^ 32 → n * width + width < 2 ^ 64
one-more-below width n h k =
    let e : n * width + width ≡ (n + 1) * width = rw (add-mul n 1 width) (omega arith) in
    let a : (n + 1) * width ≤ 2 ^ 32 * width = mul-le-mul_right width (omega arith) in
    omega arith

-- one piece more takes 2w words more
pub words_of-suc : (width n : ℕ) → words_of width (n + 1) ≡ words_of width n + (width + width)
words_of-suc width n = add-mul n 1 (width + width) ∙ omega arith

-- there are no more pieces than words
pub pieces-few : (width n len : ℕ) → 1 ≤ width → words_of width n ≤ len → n ≤ len
pieces-few zero n len w h = absurd (not-suc-le-zero w)
pieces-few (suc width) n len w h = omega arith

-- ---- the first n pieces of k words
pub length-pieces : (k n : ℕ) (s : List ℕ) → length (pieces k n s) ≡ n
length-pieces k zero s = refl
length-pieces k (suc n) s = ap suc (length-pieces k n (drop k s))

drop-take : (k m : ℕ) (s : List ℕ) → drop k (take (k + m) s) ≡ take m (drop k s)
drop-take zero m s = let e : 0 + m ≡ m = omega arith in rw e
drop-take (suc k) m [] = rw (take-nil (suc k + m)) (sym (take-nil m))
drop-take (suc k) m (x ∷ s) = let e : suc k + m ≡ suc (k + m) = omega arith in rw e (drop-take k m s)

-- they lie in the first n · k words
pub pieces-taken : (k n : ℕ) (s : List ℕ) → pieces k n (take (n * k) s) ≡ pieces k n s
pieces-taken k zero s = refl
pieces-taken k (suc n) s =
    let e : suc n * k ≡ k + n * k = omega arith in
    rw (e, take-take k (k + n * k) s (omega arith), drop-take k (n * k) s) (ap (λ (l : List (List ℕ)). take k s ∷ l) (pieces-taken k n (drop k s)))
