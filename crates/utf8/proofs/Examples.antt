-- Worked examples of the definitions: one table of byte lists, with the place of the first bad byte of each and whether it
-- is UTF-8. Assumes nothing.
use Prim.Native.Nat.{ℕ}
use mathlib.Core.Path.{◌≡◌, refl}
use mathlib.Core.Bool.{true, false}
use mathlib.Core.List.{List, [], ◌∷◌, map}
use Rattle.utf8.specs.Utf8.{rows, follow, is_utf8}
use Rattle.utf8.specs.Place.{good_bytes, first_bad, scan_utf8}
use Rattle.utf8.specs.declared.Utf8Scan.{Utf8Scan}

-- an example: bytes that are UTF-8 or not, and the place, which is their length where no byte is bad
infix 5 ◌passes◌
abbrev ◌passes◌ : List ℕ → ℕ → List ℕ × Utf8Scan
s passes i = (s, record { place = i; passes = true })

infix 5 ◌fails◌
abbrev ◌fails◌ : List ℕ → ℕ → List ℕ × Utf8Scan
s fails i = (s, record { place = i; passes = false })

-- document 01's three labels, RFC 3629's "A<NOT IDENTICAL TO><ALPHA>." and no bytes; first bytes of no row; second bytes
-- that a row narrows, and one that is no tail; characters cut off, which have no bad byte; a third byte; a number that is no byte
abbrev pub examples : List (List ℕ × Utf8Scan)
examples =
    ((0xC0 ∷ 0x80 ∷ []) fails 0)
    ∷ ((0xED ∷ 0xA0 ∷ 0x80 ∷ []) fails 1)
    ∷ ((0xF4 ∷ 0x8F ∷ 0xBF ∷ 0xBF ∷ []) passes 4)
    ∷ ((0x41 ∷ 0xE2 ∷ 0x89 ∷ 0xA2 ∷ 0xCE ∷ 0x91 ∷ 0x2E ∷ []) passes 7)
    ∷ ([] passes 0)
    ∷ ((0x80 ∷ []) fails 0)
    ∷ ((0xF5 ∷ []) fails 0)
    ∷ ((0xE0 ∷ 0x80 ∷ []) fails 1)
    ∷ ((0xF0 ∷ 0x8F ∷ []) fails 1)
    ∷ ((0xF4 ∷ 0x90 ∷ []) fails 1)
    ∷ ((0xC3 ∷ 0x41 ∷ []) fails 1)
    ∷ ((0xC3 ∷ []) fails 1)
    ∷ ((0xF0 ∷ 0x90 ∷ 0x80 ∷ []) fails 3)
    ∷ ((0x41 ∷ 0xE2 ∷ 0x82 ∷ 0x41 ∷ []) fails 3)
    ∷ ((256 ∷ []) fails 0)
    ∷ []

pub scan_utf8-examples : map (λ e. scan_utf8 e.0) examples ≡ map (λ e. e.1) examples
unfolding rows follow is_utf8 good_bytes first_bad
scan_utf8-examples = refl
