-- What a reader answers at its place, by narg's readers on the bytes that are left there.
--
-- A place may lie anywhere, also past the end: no bytes are left there. Assumes nothing.
use Rattle.std.specs.Prelude.{ℕ, ◌+◌, List, [], leb, length, drop}
use Rattle.limits.specs.Questions.{pick}
use Rattle.narg.specs.Reader.{Got, got, stop, part}

-- the bytes that were got, or none
abbrev pub bytes_of : Got (List ℕ) → List ℕ
bytes_of (got part rest) = part
bytes_of (stop k) = []

-- n bytes at a place, none where fewer are left
unfoldable pub part_at : List ℕ → (at n : ℕ) → List ℕ
part_at bytes at n = bytes_of (part n (drop at bytes))

-- and where that part lies, from where the bytes lie: the block and the byte in it
unfoldable pub place_at : List ℕ → (at n : ℕ) → ℕ × ℕ → ℕ × ℕ
place_at bytes at n place = pick (leb (at + n) (length bytes)) (place.0, at + place.1) place
