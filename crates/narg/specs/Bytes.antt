-- A word in bytes (document 01: "its bytes are 4, little-endian"). Assumes nothing.
use Rattle.std.specs.Prelude.{ℕ, ◌+◌, ◌*◌, ◌/◌, ◌%◌, ◌<◌, List, [], ◌∷◌, get_or}
-- 2^32: a word is below it
pub use Rattle.limits.specs.Numbers.{word_end}

-- every number of the list is a byte: below 2^8
abbrev pub IsBytes : List ℕ → Type 0
IsBytes bytes = (i : ℕ) → get_or bytes i 0 < 256

-- the four bytes of a word, the least first
unfoldable pub u32_bytes : ℕ → List ℕ
u32_bytes v = v % 256 ∷ v / 256 % 256 ∷ v / 256 / 256 % 256 ∷ v / 256 / 256 / 256 % 256 ∷ []

-- the word of four bytes, the least first
abbrev pub word4 : ℕ → ℕ → ℕ → ℕ → ℕ
word4 a b c d = a + 256 * b + 65536 * c + 16777216 * d

-- the word of the four bytes from a place on, where they are there
abbrev pub word_in : List ℕ → ℕ → ℕ
word_in bytes at = word4 (get_or bytes at 0) (get_or bytes (at + 1) 0) (get_or bytes (at + 2) 0) (get_or bytes (at + 3) 0)
