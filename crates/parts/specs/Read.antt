-- The parts of SFRI read, in document 01's order (the source's `from_bytes`): the label, then the wire count and the
-- three lists; and what is asked of the publics' order. Assumes nothing.
use Rattle.std.specs.Prelude.{ℕ, Bool, true, ◌&&◌, List, [], ◌∷◌, ltb}
use Rattle.utf8.specs.Utf8.{is_utf8}
use Rattle.narg.specs.Reader.{Reader, ◌>>=◌, ◌>>◌, give, need, word, part}
use Rattle.allocator.specs.Slots.{Pair}
use Rattle.instance.specs.Parts.{Parts}
use Rattle.items.specs.Read.{read_publics, read_queries, read_equations}

-- the label's length and bytes, then 25, whether it is UTF-8
unfoldable pub read_label : Reader (List ℕ)
read_label = word >>= λ n. part n >>= λ label. need 25 (is_utf8 label) >> give label

-- ---- the parts: wire count, publics, queries, equations; 10 once an item has been read
-- the length of each store that is read into, and of the scratch
pub record Rooms : Type 0 where
  pub publics : ℕ
  pub queries : ℕ
  pub equations : ℕ
  pub scratch : ℕ

-- these, put together
abbrev pub rooms : (publics queries equations scratch : ℕ) → Rooms
rooms publics queries equations scratch =
    record { publics = publics; queries = queries; equations = equations; scratch = scratch }

-- wire count, publics, queries, equations, one after the other
unfoldable pub read_parts : ℕ → Rooms → Reader Parts
read_parts width rooms =
    word >>= λ vars. read_publics rooms.publics >>= λ ps. read_queries width rooms.queries
    >>= λ qs. read_equations rooms.equations
    >>= λ es. give (record { vars = vars; publics = ps; queries = qs; equations = es })

-- are the public wires strictly increasing?
abbrev pub increasing : List Pair → Bool
increasing [] = true
increasing (p ∷ []) = true
increasing (p ∷ q ∷ ps) = ltb p.var q.var && increasing (q ∷ ps)
