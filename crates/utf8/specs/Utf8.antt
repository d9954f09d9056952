-- UTF-8, from the rows of RFC 3629 (section 4, "Syntax of UTF-8 Byte Sequences"), which document 01 repeats.
--
-- `Utf8 s` is the definition: the bytes s are characters one after the other, and a character has the bytes
-- of one of the nine rows. `is_utf8 s` is the same as a test that one could run; the law `is_utf8-iff`
-- (proofs/Laws.antt) says that it answers true exactly where `Utf8 s` holds. A byte is a number here, and
-- one above 255 is in no range. Assumes nothing.
use Rattle.std.specs.Prelude.{ℕ, ◌≤◌, ◌≡◌, Bool, true, false, ◌&&◌, leb}
use mathlib.Core.List.{List, [], ◌∷◌, flatten, Forall₂, Memᴰ}
use Rattle.limits.specs.Questions.{pick}

-- ---- the definition

-- the bytes from `low` to `high`, both among them
pub record Range : Type 0 where
  pub low : ℕ
  pub high : ℕ

-- the range from a to z
infix 70 ◌to◌
abbrev pub ◌to◌ : ℕ → ℕ → Range
a to z = record { low = a; high = z }

-- UTF8-tail: the bytes after a first one, but for the second bytes that a row narrows
abbrev pub tail_range : Range
tail_range = 0x80 to 0xBF

-- The rows: the ranges of a character's bytes, in order. UTF8-1 is the first, UTF8-2 the second, UTF8-3 the
-- next four and UTF8-4 the last three.
unfoldable pub rows : List (List Range)
rows =
    (0x00 to 0x7F ∷ [])
    ∷ (0xC2 to 0xDF ∷ tail_range ∷ [])
    ∷ (0xE0 to 0xE0 ∷ 0xA0 to 0xBF ∷ tail_range ∷ [])
    ∷ (0xE1 to 0xEC ∷ tail_range ∷ tail_range ∷ [])
    ∷ (0xED to 0xED ∷ 0x80 to 0x9F ∷ tail_range ∷ [])
    ∷ (0xEE to 0xEF ∷ tail_range ∷ tail_range ∷ [])
    ∷ (0xF0 to 0xF0 ∷ 0x90 to 0xBF ∷ tail_range ∷ tail_range ∷ [])
    ∷ (0xF1 to 0xF3 ∷ tail_range ∷ tail_range ∷ tail_range ∷ [])
    ∷ (0xF4 to 0xF4 ∷ 0x80 to 0x8F ∷ tail_range ∷ tail_range ∷ [])
    ∷ []

-- the byte b is in the range r
pub record Within (b : ℕ) (r : Range) : Type 0 where
  pub above : r.low ≤ b
  pub below : b ≤ r.high

-- a character: of some row it has the length, and each byte is in its range
pub record Character (c : List ℕ) : Type 0 where
  pub row : List Range
  pub among : Memᴰ row rows
  pub fits : Forall₂ Within c row

-- UTF-8: characters, one after the other
pub record Utf8 (s : List ℕ) : Type 0 where
  pub characters : List (List ℕ)
  pub each : (c : List ℕ) → Memᴰ c characters → Character c
  pub joined : s ≡ flatten characters

-- ---- the same as a test, byte by byte

-- is the byte b in the range r?
abbrev pub holds : Range → ℕ → Bool
holds r b = leb r.low b && leb b r.high

-- what a first byte asks: the ranges of the bytes after it, or nothing where no row has it
pub data After : Type 0 where
  asks : List Range → After
  no_row : After

-- the bytes after b, by the first of the rows that b can begin
abbrev pub first_row : List (List Range) → ℕ → After
first_row [] b = no_row
first_row ([] ∷ rs) b = first_row rs b
first_row ((r ∷ more) ∷ rs) b = pick (holds r b) (asks more) (first_row rs b)

-- k of the ranges asked; where no row has the byte, no
abbrev pub on_row : After → (List Range → Bool) → Bool
on_row (asks ps) k = k ps
on_row no_row k = false

-- are the first bytes in the ranges asked, one by one, and is the rest whole characters?
unfoldable pub follow : List Range → List ℕ → Bool
follow [] [] = true
follow (p ∷ ps) [] = false
follow [] (b ∷ s) = on_row (first_row rows b) (λ ps. follow ps s)
follow (p ∷ ps) (b ∷ s) = holds p b && follow ps s

-- are the bytes UTF-8?
unfoldable pub is_utf8 : List ℕ → Bool
is_utf8 s = follow [] s
