-- A word read and bytes written at a cursor: the cases by facts on numbers, for the code's returns, and what
-- follows from an answer, for those who call. Assumes nothing.
use Prim.Native.Nat.{ℕ, ◌+◌, ◌≤◌, ◌<◌}
use mathlib.Core.Path.{◌≡◌, refl, sym, ap, ◌∙◌}
use mathlib.Core.List.{List, ◌++◌}
use native.Mathlib.Omega.{arith}
use borrow.Author.Tests.{le-leb, lt-leb}
use lib.ListN.{length, take, drop, length-drop}
use lib.Seq.{drop-drop, drop_at, length-take-le}
use Rattle.std.specs.Prelude.{Option, Some, None}
use Rattle.words.specs.Store.{put_words, fit_words}
use Rattle.narg.specs.Bytes.{word_end, u32_bytes, word_in}
use Rattle.narg.specs.Reader.{Got, got, stop, word}
use Rattle.narg.specs.Cursor.{cursor, word_of, read_u32, put_at, put_u32_out}
use Rattle.narg.specs.declared.Cursor.{Cursor}
use Rattle.narg.proofs.Fields.{length-u32_bytes, word-law, word-short, word-long, word-stop}
use Rattle.narg.proofs.Words.{word-rest-at, word_in-drop}

-- two variants are never equal
never : (v : ℕ) (next : Cursor) → ◌≡◌ {A = Option (ℕ × Cursor)} None (Some (v, next)) → ⊥
never v next e = let z : ◌≡◌ {A = ℕ} 0 1 = cc in omega arith

-- a word that was got is one pair
same : (v x : ℕ) (c d : Cursor) → ◌≡◌ {A = Option (ℕ × Cursor)} (Some (v, c)) (Some (x, d)) → (v ≡ x) × (c ≡ d)
same v x c d e =
    let z : ◌≡◌ {A = ℕ × Cursor} (v, c) (x, d) = cc in
    (ap (λ (p : ℕ × Cursor). p.0) z, ap (λ (p : ℕ × Cursor). p.1) z)

-- ---- a word at a cursor
pub word_at : (s : List ℕ) (at : ℕ) → at + 4 ≤ length s → word (drop at s) ≡ got (word_in s at) (drop (at + 4) s)
word_at s at h =
    let z : at + 0 ≡ at = omega arith in
    word-long (drop at s) (rw length-drop (omega arith)) ∙ rw (word_in-drop at s 0, drop-drop, z)

pub read_u32-short : (s : List ℕ) (at : ℕ) → length s < at + 4 → None ≡ read_u32 s at
unfolding read_u32
read_u32-short s at h = rw (word-short (drop at s) (rw length-drop (omega arith)))

pub read_u32-long : (s : List ℕ) (at v : ℕ) → at + 4 ≤ length s → v ≡ word_in s at → Some (v, cursor (at + 4)) ≡ read_u32 s at
unfolding read_u32
read_u32-long s at v h e = rw (word_at s at h, e)

-- a word that was answered
pub record WordRead (s : List ℕ) (at v : ℕ) (next : Cursor) : Type 0 where
  pub reads : word (drop at s) ≡ got v (drop (at + 4) s)
  pub fits : at + 4 ≤ length s
  pub past : next.at ≡ at + 4

pub read_u32-read : (s : List ℕ) (at v : ℕ) (next : Cursor) → read_u32 s at ≡ Some (v, next) → WordRead s at v next
unfolding read_u32
read_u32-read s at v next e = go (word (drop at s)) refl e
  where
    go : (g : Got ℕ) → word (drop at s) ≡ g → word_of at g ≡ Some (v, next) → WordRead s at v next
    go (got x r) w f =
        let t = word-rest-at s at x r w in
        let z = same x v (cursor (at + 4)) next f in
        record { reads = w ∙ ap (λ (l : List ℕ). got x l) t.1 ∙ ap (λ (n : ℕ). got n (drop (at + 4) s)) z.0; fits = t.0; past = sym (ap (λ (c : Cursor). c.at) z.1) }
    go (stop k) w f = absurd (never v next f)

-- a word at a place, with what is left
pub word_next : (s : List ℕ) (at v : ℕ) (next : Cursor) → read_u32 s at ≡ Some (v, next) → word (drop at s) ≡ got v (drop next.at s)
word_next s at v next e =
    let w = read_u32-read s at v next e in w.reads ∙ ap (λ (m : ℕ). got v (drop m s)) (sym w.past)

pub read_u32-stop : (s : List ℕ) (at : ℕ) → read_u32 s at ≡ None → word (drop at s) ≡ stop 20
unfolding read_u32
read_u32-stop s at e = go (word (drop at s)) refl e
  where
    go : (g : Got ℕ) → word (drop at s) ≡ g → word_of at g ≡ None → word (drop at s) ≡ stop 20
    go (got x r) w f = absurd (never x (cursor (at + 4)) (sym f))
    go (stop k) w f = w ∙ ap (λ (n : ℕ). stop n) (word-stop (drop at s) k w)

-- ---- n bytes written at a cursor
module _ (out : List ℕ) (at : ℕ) (bytes : List ℕ) {n : ℕ} (l : length bytes ≡ n) where
  pub put_full : length out < at + n → (None ≡ put_at out at bytes) × (out ≡ fit_words at bytes out)
  unfolding put_at
  put_full h = let e = lt-leb (at + length bytes) (length out) (omega arith) in (simp e, simp e)

  pub put_written : (last : List ℕ) → at + n ≤ length out → last ≡ put_words at bytes out
      → (Some (cursor (at + n)) ≡ put_at out at bytes) × (last ≡ fit_words at bytes out)
  unfolding put_at
  put_written last h w =
      let e = le-leb (at + length bytes) (length out) (omega arith) in (rw (e, l), simp e w)

  -- for those who call: where it holds them
  pub put-fits : at + n ≤ length out → (put_at out at bytes ≡ Some (cursor (at + n))) × (fit_words at bytes out ≡ put_words at bytes out)
  put-fits h = let w = put_written (put_words at bytes out) h refl in (sym w.0, sym w.1)

-- what was put is read
pub put_u32-read_u32 : (out : List ℕ) (at v : ℕ) → v < word_end → at + 4 ≤ length out → read_u32 (put_u32_out out at v) at ≡ Some (v, cursor (at + 4))
unfolding read_u32
put_u32-read_u32 out at v small h =
    let d = drop_at (take at out) (u32_bytes v ++ drop (at + length (u32_bytes v)) out) at (length-take-le at out (omega arith)) in
    rw ((put-fits out at (u32_bytes v) (length-u32_bytes v) h).1, d, word-law v (drop (at + length (u32_bytes v)) out) small)
