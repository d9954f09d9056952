-- The byte forms (the source's encoding.rs), from document 01's field lists:
--
--   SFRI  "SFRI", version, then u32 little-endian: w, 4, label length, label, wire count, public count and
--         pairs, query count and queries, equation count and equations as held
--   SFRW  "SFRW", version, w, 4, step count, steps
--
-- What stands before the label and the step count is the header (crate `header`).
-- Assumes nothing.
use Rattle.std.specs.Prelude.{ℕ, List, ◌++◌, length}
use Rattle.narg.specs.Bytes.{u32_bytes}
use Rattle.narg.specs.Reader.{each}
use Rattle.allocator.specs.Slots.{Pair}
use Rattle.expr.specs.Equation.{Term, Equation}
use Rattle.instance.specs.Parts.{Parts}
use Rattle.header.specs.Form.{letter_i, letter_w, header_bytes}

-- how many SFRI has beside label and lists: header, label length, wire count and three counts
abbrev pub instance_fixed : ℕ
instance_fixed = 33

-- how many SFRW has beside its steps: header and step count
abbrev pub witness_fixed : ℕ
witness_fixed = 17

-- a public: wire, unit
abbrev pub pair_bytes : Pair → List ℕ
pair_bytes p = u32_bytes p.var ++ u32_bytes p.value

-- a query or a step: its words
abbrev pub piece_bytes : List ℕ → List ℕ
piece_bytes words = each u32_bytes words

-- a term: wire, weight
abbrev pub term_bytes : Term → List ℕ
term_bytes t = u32_bytes t.var ++ u32_bytes t.weight

-- an equation: how many terms, these, the image
abbrev pub equation_bytes : Equation → List ℕ
equation_bytes e = u32_bytes (length e.terms) ++ (each term_bytes e.terms ++ u32_bytes e.image)

-- a label: its length, its bytes
abbrev pub label_bytes : List ℕ → List ℕ
label_bytes label = u32_bytes (length label) ++ label

-- what follows the label
abbrev pub parts_bytes : Parts → List ℕ
parts_bytes parts =
    u32_bytes parts.vars
    ++ (u32_bytes (length parts.publics) ++ (each pair_bytes parts.publics
    ++ (u32_bytes (length parts.queries) ++ (each piece_bytes parts.queries
    ++ (u32_bytes (length parts.equations) ++ each equation_bytes parts.equations)))))

-- SFRI
unfoldable pub instance_bytes : (version width : ℕ) (label : List ℕ) → Parts → List ℕ
instance_bytes version width label parts = header_bytes letter_i version width ++ (label_bytes label ++ parts_bytes parts)

-- SFRW
unfoldable pub witness_bytes : (version width : ℕ) → List (List ℕ) → List ℕ
witness_bytes version width steps =
    header_bytes letter_w version width ++ (u32_bytes (length steps) ++ each piece_bytes steps)
