-- The header read, field by field in document 01's order: 21 to 24, each after 20. Assumes nothing.
use Rattle.std.specs.Prelude.{ℕ, eqb}
use Rattle.narg.specs.Reader.{Reader, ◌>>=◌, ◌>>◌, need, byte, word}
use Rattle.header.specs.Form.{is_magic, unit_length}

-- 21 magic, whose last byte tells the two forms apart, and 22 version; each after 20
unfoldable pub read_magic : (last version : ℕ) → Reader (Unit {0})
read_magic last version =
    byte >>= λ a. byte >>= λ b. byte >>= λ c. byte >>= λ d.
    need 21 (is_magic a b c d last) >> byte >>= λ v. need 22 (eqb v version)

-- then 23 width, 24 unit length
unfoldable pub read_header : (last version width : ℕ) → Reader (Unit {0})
read_header last version width =
    read_magic last version >> word >>= λ w. need 23 (eqb w width) >> word >>= λ u. need 24 (eqb u unit_length)
