-- The place of the first bad byte, over UTF-8's definition itself (document 02, R-3).
--
-- A byte is bad after which no continuation can be UTF-8: no bytes at all, put after those up to it. `FirstBad s i`
-- is the definition of the place. `first_bad s` is the same as a number that one could compute; the law `first_bad-iff`
-- (proofs/Place.antt) says that it is the one place that the definition has. Bytes that end inside a character have
-- no bad byte, so that the place is their length, and yet they are not UTF-8. Assumes nothing.
use Rattle.std.specs.Prelude.{ℕ, suc, ◌+◌, ◌<◌, ◌≡◌, ◌⊎◌, List, [], ◌∷◌, ◌++◌, length, take}
use Rattle.limits.specs.Questions.{pick}
use Rattle.utf8.specs.Utf8.{Utf8, is_utf8, Range, rows, holds, After, asks, no_row, first_row}
use Rattle.utf8.specs.declared.Utf8Scan.{Utf8Scan}

-- ---- the definition

-- the bytes s go on to UTF-8: with some bytes put after them they are
pub record GoesOn (s : List ℕ) : Type 0 where
  pub more : List ℕ
  pub whole : Utf8 (s ++ more)

-- the byte at i is bad: it is there, and no bytes put after the first i + 1 make UTF-8
pub record Bad (s : List ℕ) (i : ℕ) : Type 0 where
  pub there : i < length s
  pub never : (more : List ℕ) → ¬ Utf8 (take (i + 1) s ++ more)

-- i is the place of the first bad byte, or the length where no byte is bad: after each byte before it s goes on
pub record FirstBad (s : List ℕ) (i : ℕ) : Type 0 where
  pub here : Bad s i ⊎ (i ≡ length s)
  pub earlier : (j : ℕ) → j < i → GoesOn (take (j + 1) s)

-- ---- the same as a number, byte by byte

-- what is asked after the byte b where ps were asked; no_row where b is not what was asked
abbrev pub after_byte : List Range → ℕ → After
after_byte [] b = first_row rows b
after_byte (p ∷ ps) b = pick (holds p b) (asks ps) no_row

-- 1 more than k of what is then asked; 0 for no_row
abbrev pub one_more : After → (List Range → ℕ) → ℕ
one_more (asks ps) k = suc (k ps)
one_more no_row k = 0

-- how many bytes come, where the ranges ps are asked, before the first bad one
unfoldable pub good_bytes : List Range → List ℕ → ℕ
good_bytes ps [] = 0
good_bytes ps (b ∷ s) = one_more (after_byte ps b) (λ qs. good_bytes qs s)

-- the place of the first bad byte, or the length where no byte is bad
unfoldable pub first_bad : List ℕ → ℕ
first_bad s = good_bytes [] s

-- ---- what a scan tells: the place, and whether the bytes are UTF-8
abbrev pub scan_utf8 : List ℕ → Utf8Scan
scan_utf8 s = record { place = first_bad s; passes = is_utf8 s }
