-- The byte forms read, field by field in document 01's order (the source's `from_bytes`).
--
-- The pieces stand apart, so that a question can be put between two of them: the header (21 to 24, crate `header`), the
-- label (25) and the parts (20, 3, 4, 10; crates `parts` and `items`), their order (27), what the read's rule asks (46
-- of a strict read), the gate (16, 12 to 15), the end (28). Assumes nothing.
use Rattle.std.specs.Prelude.{ℕ, Bool, true, false, List, [], ◌∷◌}
use Rattle.limits.specs.Questions.{Question, first_no}
use Rattle.narg.specs.Reader.{Reader, ◌>>=◌, ◌>>◌, give, need, number}
use Rattle.instance.specs.Parts.{Parts}
use Rattle.validated.specs.Validated.{gate_no}
use Rattle.zero_wire.specs.Zero.{zero_wire_asks}
use Rattle.header.specs.Form.{letter_i, letter_w}
use Rattle.header.specs.Read.{read_header}
-- items and lists
pub use Rattle.items.specs.Read.{read_pair, read_term, read_equation, pair_size, piece_size, size_of}
unfoldable pub use Rattle.items.specs.Read.{read_publics, read_queries, read_equations, read_steps}
-- label and parts
pub use Rattle.parts.specs.Read.{Rooms, rooms, increasing}
unfoldable pub use Rattle.parts.specs.Read.{read_label, read_parts}

-- ---- after the parts
-- 27
abbrev pub ordered : Parts → Reader (Unit {0})
ordered parts = need 27 (increasing parts.publics)

-- what a read asks of the parts directly after 27
abbrev pub Rule : Type 0
Rule = Parts → List Question

-- the plain read, the source's: nothing
abbrev pub plain_rule : Rule
plain_rule parts = []

-- the strict read (document 02, R-7): 46
abbrev pub strict_rule : Rule
strict_rule parts = zero_wire_asks parts

-- the questions of a rule
abbrev pub ruled : Rule → Parts → Reader (Unit {0})
ruled rule parts = number (first_no (rule parts))

-- 16, then 12 to 15
abbrev pub gated : ℕ → Parts → Reader (Unit {0})
gated scratch parts = number (gate_no parts scratch)

-- has the list no element?
abbrev pub is_empty : List ℕ → Bool
is_empty [] = true
is_empty (a ∷ l) = false

-- 28: is nothing left over?
abbrev pub ended : Reader (Unit {0})
ended bytes = need 28 (is_empty bytes) bytes

-- ---- SFRI
-- what SFRI holds beside its header
pub record File : Type 0 where
  pub label : List ℕ
  pub parts : Parts

-- a label and parts, put together
abbrev pub file : List ℕ → Parts → File
file label parts = record { label = label; parts = parts }

-- header, label, parts and their order
unfoldable pub read_file : (version width : ℕ) → Rooms → Reader File
read_file version width rooms =
    read_header letter_i version width >> read_label >>= λ label. read_parts width rooms
    >>= λ parts. ordered parts >> give (file label parts)

-- then what the rule asks, the gate and the end
unfoldable pub read_instance : Rule → (version width : ℕ) → Rooms → Reader File
read_instance rule version width rooms =
    read_file version width rooms
    >>= λ f. ruled rule f.parts >> gated rooms.scratch f.parts >> ended >> give f

-- ---- SFRW
-- header, steps and the end
unfoldable pub read_witness : (version width : ℕ) → ℕ → Reader (List (List ℕ))
read_witness version width room =
    read_header letter_w version width >> read_steps width room >>= λ steps. ended >> give steps
