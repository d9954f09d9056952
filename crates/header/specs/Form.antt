-- The bytes that both byte forms begin with, from document 01's field lists: "SFRI" or "SFRW", version, then
-- u32 little-endian: w, 4. Assumes nothing.
use Rattle.std.specs.Prelude.{ℕ, Bool, ◌&&◌, List, [], ◌∷◌, ◌++◌, eqb}
use Rattle.narg.specs.Bytes.{u32_bytes}

-- "SFR" and a last byte that tells the two forms apart: "SFRI", "SFRW"
abbrev pub magic : ℕ → List ℕ
magic last = 83 ∷ 70 ∷ 82 ∷ last ∷ []

-- are four bytes the magic with that last byte?
abbrev pub is_magic : (a b c d last : ℕ) → Bool
is_magic a b c d last = eqb a 83 && (eqb b 70 && (eqb c 82 && eqb d last))

-- of an instance
abbrev pub letter_i : ℕ
letter_i = 73

-- of a witness
abbrev pub letter_w : ℕ
letter_w = 87

-- the version that is written and read
abbrev pub version : ℕ
version = 1

-- how many bytes a unit has
abbrev pub unit_length : ℕ
unit_length = 4

-- magic, version byte, width, unit length
unfoldable pub header_bytes : (last version width : ℕ) → List ℕ
header_bytes last version width = magic last ++ (version ∷ (u32_bytes width ++ u32_bytes unit_length))

-- where the version stands: behind the magic's four bytes
abbrev pub version_at : ℕ
version_at = 4

-- where the width stands
abbrev pub width_at : ℕ
width_at = 5

-- where the unit length stands
abbrev pub unit_length_at : ℕ
unit_length_at = 9

-- where the header ends
abbrev pub header_length : ℕ
header_length = 13
