-- Document 01's worked examples on bytes, as one fact of the definitions: instance A's bytes, whole, cut, with one
-- more byte, with equal public wires; and three labels. Assumes nothing.
use Prim.Native.Nat.{ℕ}
use mathlib.Core.Path.{◌≡◌, refl}
use mathlib.Core.List.{List, [], ◌∷◌, ◌++◌}
use lib.ListN.{length, take}
use Rattle.limits.specs.Questions.{ask, first_of_two}
use Rattle.words.specs.Store.{all_below}
use Rattle.utf8.specs.Utf8.{rows, follow, is_utf8}
use Rattle.narg.specs.Bytes.{u32_bytes}
use Rattle.narg.specs.Reader.{Got, got, stop, word, part, below}
use Rattle.allocator.specs.Slots.{Pair, pair}
use Rattle.expr.specs.Equation.{equation}
use Rattle.instance.specs.Parts.{Parts}
use Rattle.validated.specs.Validated.{gate_no}
use Rattle.header.specs.Form.{version, header_bytes}
use Rattle.encoding.specs.Form.{instance_bytes}
use Rattle.header.specs.Read.{read_magic, read_header}
use Rattle.decoding.specs.Read.{rooms, plain_rule, File, file, read_label, read_publics, read_queries, read_equations, read_parts, read_file, read_instance}

-- instance A of document 01, with any publics: width 1, 3 wires, query 1 to 2, equation 3 · wire 1 = 6
abbrev with_publics : List Pair → Parts
with_publics ps = record {
  vars = 3;
  publics = ps;
  queries = (1 ∷ 2 ∷ []) ∷ [];
  equations = equation (record { var = 1; weight = 3 } ∷ []) 6 ∷ [];
}

abbrev pub instance_a : Parts
instance_a = with_publics (pair 0 0 ∷ pair 2 5 ∷ [])

abbrev bytes_of : List ℕ → Parts → List ℕ
bytes_of label parts = instance_bytes version 1 label parts

-- read with stores that hold just that
abbrev reading : List ℕ → Got File
reading bytes = read_instance plain_rule version 1 (rooms 4 2 4 3) bytes

-- what reading comes to: 0, or the refusal's number
abbrev outcome : Got File → ℕ
outcome (got f rest) = 0
outcome (stop k) = k

-- what is read of: 72 of A's bytes; one more byte; equal public wires and one more byte; A with the labels C0 80,
-- ED A0 80 and F4 8F BF BF
abbrev pub outcomes : List ℕ
outcomes =
    outcome (reading (take 72 (bytes_of [] instance_a)))
    ∷ outcome (reading (bytes_of [] instance_a ++ (0 ∷ [])))
    ∷ outcome (reading (bytes_of [] (with_publics (pair 2 5 ∷ pair 2 5 ∷ [])) ++ (0 ∷ [])))
    ∷ outcome (reading (bytes_of (0xC0 ∷ 0x80 ∷ []) instance_a))
    ∷ outcome (reading (bytes_of (0xED ∷ 0xA0 ∷ 0x80 ∷ []) instance_a))
    ∷ outcome (reading (bytes_of (0xF4 ∷ 0x8F ∷ 0xBF ∷ 0xBF ∷ []) instance_a))
    ∷ []

-- A is 73 bytes and reads back; and the outcomes
pub examples : (length (bytes_of [] instance_a) ≡ 73)
    × (reading (bytes_of [] instance_a) ≡ got (file [] instance_a) [])
    × (outcomes ≡ 20 ∷ 28 ∷ 27 ∷ 25 ∷ 25 ∷ 0 ∷ [])
unfolding instance_bytes header_bytes u32_bytes read_instance read_file read_header read_magic read_label read_parts read_publics read_queries read_equations word part below is_utf8 follow rows gate_no all_below ask first_of_two
examples = (refl, refl, refl)
