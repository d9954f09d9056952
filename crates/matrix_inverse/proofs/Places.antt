-- Rows in words, row by row: the words of a row, a row put among the words, rows put together, and the words of rows.
-- Assumes nothing.
use Prim.Native.Nat.{ℕ, zero, suc, ◌+◌, ◌-◌, ◌*◌, ◌≤◌, ◌<◌}
use mathlib.Core.Path.{◌≡◌, refl, sym, ap, ◌∙◌}
use mathlib.Core.List.{List, [], ◌∷◌, ◌++◌, append_assoc}
use native.Mathlib.Omega.{arith}
use native.Mathlib.Nat.{zero-add, suc-add, mul-le-mul}
use lib.ListN.{length, get_or, take, drop, set, length-drop, take-append-drop}
use lib.Seq.{take-append-le, drop-append-le, take_at, drop_at, drop-drop, take-add, length-take-le}
use Rattle.limits.specs.Numbers.{max_width}
use Rattle.words.specs.Pieces.{flat}
use Rattle.words.specs.Store.{All, fit_words}
use Rattle.words.proofs.Written.{fit-put}
use Rattle.permute.specs.Parameters.{rows_of}
use Rattle.permute.proofs.Trace.{lent-piece, lent_length}
use Rattle.matrix_inverse.specs.Inverse.{swap}

-- the words of m rows, and others behind them, have the rows of both
pub rows_of-append : (w m n : ℕ) (a b : List ℕ) → length a ≡ m * w → rows_of w (m + n) (a ++ b) ≡ rows_of w m a ++ rows_of w n b
unfolding rows_of
rows_of-append w zero n [] b h = rw zero-add
rows_of-append w zero n (x ∷ a) b h = absurd (omega arith)
rows_of-append w (suc m) n a b h =
    let l : w ≤ length a = omega arith in
    let e : length (drop w a) ≡ m * w = simp length-drop (omega arith) in
    rw (suc-add m n, take-append-le w a b l, drop-append-le w a b l, rows_of-append w m n (drop w a) b e)

-- row i is w words from place i·w on
pub rows_of-at : (w n i : ℕ) (words : List ℕ) → i < n → get_or (rows_of w n words) i [] ≡ take w (drop (i * w) words)
unfolding rows_of
rows_of-at w zero i words h = absurd (omega arith)
rows_of-at w (suc n) zero words h = let z : 0 * w ≡ 0 = omega arith in rw z
rows_of-at w (suc n) (suc i) words h =
    let e : suc i * w ≡ w + i * w = omega arith in
    rows_of-at w n i (drop w words) (omega arith) ∙ rw (drop-drop (i * w) w words, e)

-- w words put there are the new row i
pub rows_of-put : (w n i : ℕ) (words r : List ℕ) → i < n → length words ≡ n * w → length r ≡ w
    → rows_of w n (take (i * w) words ++ (r ++ drop w (drop (i * w) words))) ≡ set (rows_of w n words) i r
unfolding rows_of
rows_of-put w zero i words r h l k = absurd (omega arith)
rows_of-put w (suc n) zero words r h l k =
    let z : 0 * w ≡ 0 = omega arith in rw (z, take_at r (drop w words) w k, drop_at r (drop w words) w k)
rows_of-put w (suc n) (suc i) words r h l k =
    let e : suc i * w ≡ w + i * w = omega arith in
    let t : length (take w words) ≡ w = length-take-le w words (omega arith) in
    let d : length (drop w words) ≡ n * w = simp length-drop (omega arith) in
    let s : take (suc i * w) words ++ (r ++ drop w (drop (suc i * w) words))
    ≡ take w words ++ (take (i * w) (drop w words) ++ (r ++ drop w (drop (i * w) (drop w words))))
    = rw (e, take-add w (i * w) words, ← drop-drop (i * w) w words, append_assoc) in
    rw (s, take_at _ _ w t, drop_at _ _ w t, rows_of-put w n i (drop w words) r (omega arith) d k)

-- ---- rows lent and copied
module _ (w n i : ℕ) (words : List ℕ) (h : i < n) (l : length words ≡ n * w) where
  -- row i lies within the words
  pub row_room : i * w + w ≤ length words
  row_room = omega (arith, mul-le-mul {n₁ = suc i} {m₁ = w} {n₂ = n} {m₂ = w} h (omega arith))

  -- which are at most 24 rows of 24
  pub row_small : n ≤ max_width → w ≤ max_width → i * w + w ≤ 576
  row_small a b = omega (arith, row_room, mul-le-mul {n₁ = n} {m₁ = w} {n₂ = 24} {m₂ = 24} a b)

  -- row i as it is lent
  pub row-lent : take (i * w + w - i * w) (drop (i * w) words) ≡ get_or (rows_of w n words) i []
  row-lent = lent-piece words (i * w) w ∙ sym (rows_of-at w n i words h)

  -- it has w words
  row-length : length (get_or (rows_of w n words) i []) ≡ w
  row-length = ap length (sym row-lent) ∙ lent_length words (i * w) w row_room

  -- another put over it
  row_put : (r : List ℕ) → length r ≡ w → rows_of w n (fit_words (i * w) r words) ≡ set (rows_of w n words) i r
  row_put r k =
      let f : i * w + length r ≤ length words = omega (arith, row_room) in
      rw (fit-put (i * w) r words f, k, ← drop-drop w (i * w) words) (rows_of-put w n i words r h l k)

-- a list put into room for it, and lent from there
pub held-lent : (r room : List ℕ) (w : ℕ) → length r ≡ w → w ≤ length room → take (w - 0) (fit_words 0 r room) ≡ r
held-lent r room w k h =
    let z : w - 0 ≡ w = omega arith in
    let f : 0 + length r ≤ length room = omega arith in
    rw (z, fit-put 0 r room f) (take_at r (drop (0 + length r) room) w k)

-- row i copied into room for it, row j copied over it, and the copy put over row j
pub rows-swapped : (w i j : ℕ) (words room first one back : List ℕ) → i < w → j < w → length words ≡ w * w
    → first ≡ take (i * w + w - i * w) (drop (i * w) words)
    → one ≡ take (i * w) words ++ take (j * w + w - j * w) (drop (j * w) words) ++ drop (i * w + (j * w + w - j * w)) words
    → length one ≡ length words
    → back ≡ take (w - 0) (first ++ drop (w - 0) room)
    → rows_of w w (take (j * w) one ++ (back ++ drop (j * w + w - j * w) (drop (j * w) one))) ≡ swap [] i j (rows_of w w words)
rows-swapped w i j words room first one back hi hj l ef eo lo eb =
    let r = get_or (rows_of w w words) i [] in
    let s = get_or (rows_of w w words) j [] in
    let lr : length r ≡ w = row-length w w i words hi l in
    let ls : length s ≡ w = row-length w w j words hj l in
    let z : w - 0 ≡ w = omega arith in
    let n : j * w + w - j * w ≡ w = omega arith in
    let b : back ≡ r = eb ∙ rw (ef, row-lent w w i words hi l, z) (take_at r (drop w room) w lr) in
    let o : one ≡ take (i * w) words ++ (s ++ drop w (drop (i * w) words))
    = eo ∙ rw (row-lent w w j words hj l, n, append_assoc, drop-drop w (i * w) words) refl in
    rw (b, n, rows_of-put w w j one r hj (lo ∙ l) lr, o, rows_of-put w w i words s hi l ls)

-- ---- the words of rows
-- all rows one after the other are the words
pub flat_rows : (w n : ℕ) (words : List ℕ) → length words ≡ n * w → flat (rows_of w n words) ≡ words
unfolding rows_of
flat_rows w zero [] h = refl
flat_rows w zero (a ∷ words) h = absurd (omega arith)
flat_rows w (suc n) words h =
    let e : length (drop w words) ≡ n * w = simp length-drop (omega arith) in
    rw (flat_rows w n (drop w words) e) (take-append-drop w words)

-- and they are the rows of these words
pub rows-flat : (w : ℕ) (m : List (List ℕ)) → All (λ r. length r ≡ w) m → rows_of w (length m) (flat m) ≡ m
unfolding rows_of
rows-flat w [] a = refl
rows-flat w (r ∷ m) a = rw (take_at r (flat m) w a.0, drop_at r (flat m) w a.0, rows-flat w m a.1)

-- each has w words
pub rows_long : (w n : ℕ) (words : List ℕ) → length words ≡ n * w → All (λ r. length r ≡ w) (rows_of w n words)
unfolding rows_of
rows_long w zero words h = tt
rows_long w (suc n) words h =
    (length-take-le w words (omega arith), rows_long w n (drop w words) (simp length-drop (omega arith)))
