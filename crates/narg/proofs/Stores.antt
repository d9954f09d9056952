-- Words or bytes written one after the other at a place, as one written part.
-- Assumes nothing.
use Prim.Native.Nat.{ℕ, ◌+◌, ◌*◌, ◌≤◌, ◌<◌}
use mathlib.Core.Path.{◌≡◌, sym, ap, ◌∙◌}
use mathlib.Core.List.{List, [], ◌++◌, append_assoc, append-nil}
use native.Mathlib.Omega.{arith}
use borrow.Rule.Slice.PartMut.{put_mid}
use native.Mathlib.Numerals.{add-one}
use lib.ListN.{length, take, drop, get_or, length-append, length-take, length-drop, take-append-drop}
use lib.Seq.{take_at, drop-append-add, drop-drop, length-take-le, take-suc}
use Rattle.words.specs.Store.{put_words}
use Rattle.narg.specs.Bytes.{u32_bytes}
use Rattle.narg.specs.Reader.{each}
use Rattle.narg.proofs.Lists.{each_append}
use Rattle.narg.proofs.Words.{length-words}

-- a part that was written over
pub put_words-mid : (at k : ℕ) (xs s : List ℕ) → k ≡ length xs → put_mid at k s xs ≡ put_words at xs s
put_words-mid at k xs s e =
    ap (λ (rest : List ℕ). take at s ++ (xs ++ rest)) (drop-drop k at s ∙ ap (λ (n : ℕ). drop (at + n) s) e)

-- nothing written
pub put_words-nil : (at : ℕ) (s : List ℕ) → put_words at [] s ≡ s
put_words-nil at s = let e : at + 0 ≡ at = omega arith in rw e (take-append-drop at s)

-- two parts, the second behind the first
pub put_words-append : (at : ℕ) (xs ys s : List ℕ) → at + length xs ≤ length s
    → put_words (at + length xs) ys (put_words at xs s) ≡ put_words at (xs ++ ys) s
put_words-append at xs ys s h =
    let head = take at s ++ xs in
    let rest = drop (at + length xs) s in
    let l : length head ≡ at + length xs = length-append (take at s) xs ∙ ap (λ (n : ℕ). n + length xs) (length-take-le at s (omega arith)) in
    let e : put_words at xs s ≡ head ++ rest = sym (append_assoc (take at s) xs rest) in
    let t : take (at + length xs) (head ++ rest) ≡ head = take_at head rest (at + length xs) l in
    let d : drop (at + length xs + length ys) (head ++ rest) ≡ drop (at + length xs + length ys) s =
    ap (λ (n : ℕ). drop (n + length ys) (head ++ rest)) (sym l) ∙ drop-append-add head rest (length ys) ∙ drop-drop (length ys) (at + length xs) s in
    let z : at + (length xs + length ys) ≡ at + length xs + length ys = omega arith in
    rw (e, t, d) (simp (length-append, append_assoc, z))

-- the same with the second's place by name
pub put_two : (at : ℕ) (xs ys out : List ℕ) (n : ℕ) → at + length xs ≡ n → n ≤ length out → put_words n ys (put_words at xs out) ≡ put_words at (xs ++ ys) out
put_two at xs ys out n e h =
    ap (λ (m : ℕ). put_words m ys (put_words at xs out)) (sym e) ∙ put_words-append at xs ys out (omega arith)

pub length-put_words : (at : ℕ) (xs s : List ℕ) → at + length xs ≤ length s → length (put_words at xs s) ≡ length s
length-put_words at xs s h = simp (length-append, length-take, length-drop) (omega arith)

-- the bytes of one word more
pub put-word-more : (at : ℕ) (ws : List ℕ) (i : ℕ) (s : List ℕ) → i < length ws → at + 4 * length ws ≤ length s
    → put_words (at + 4 * i) (u32_bytes (get_or ws i 0)) (put_words at (each u32_bytes (take i ws)) s) ≡ put_words at (each u32_bytes (take (i + 1) ws)) s
put-word-more at ws i s h k =
    let l : length (each u32_bytes (take i ws)) ≡ 4 * i = length-words (take i ws) ∙ ap (λ (n : ℕ). 4 * n) (length-take-le i ws (omega arith)) in
    rw (← l, put_words-append at (each u32_bytes (take i ws)) (u32_bytes (get_or ws i 0)) s (omega arith), add-one, take-suc ws i 0 h, each_append, append-nil)
