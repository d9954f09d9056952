-- Document 02's 46, worked out on small files: each way to break the rule, and with faults that are asked about before
-- and after it.
-- Assumes nothing.
use Prim.Native.Nat.{ℕ, ◌-◌}
use mathlib.Core.Path.{◌≡◌, refl}
use mathlib.Core.List.{List, [], ◌∷◌, ◌++◌}
use lib.ListN.{length, take, replicate}
use Rattle.limits.specs.Numbers.{prime}
use Rattle.limits.specs.Questions.{ask, first_of_two}
use Rattle.words.specs.Store.{all_below}
use Rattle.utf8.specs.Utf8.{rows, follow, is_utf8}
use Rattle.narg.specs.Bytes.{u32_bytes}
use Rattle.narg.specs.Reader.{Got, got, stop, each, word, part, below}
use Rattle.allocator.specs.Slots.{Pair, pair}
use Rattle.instance.specs.Parts.{pair_words}
use Rattle.validated.specs.Validated.{gate_no}
use Rattle.header.specs.Form.{letter_i, version, header_bytes}
use Rattle.header.specs.Read.{read_magic, read_header}
use Rattle.decoding.specs.Read.{rooms, Rule, plain_rule, strict_rule, File, read_label, read_publics, read_queries, read_equations, read_parts, read_file, read_instance}

-- SFRI of width 1 with no label, so many wires, these publics, and the words of queries and equations behind them
abbrev bytes : ℕ → List Pair → List ℕ → List ℕ
bytes vars ps behind = header_bytes letter_i version 1 ++ each u32_bytes (0 ∷ vars ∷ length ps ∷ (pair_words ps ++ behind))

-- neither queries nor equations; the query (0, 3); an equation with a term on wire 3, and one with a term on wire 1
abbrev nothing : List ℕ
nothing = 0 ∷ 0 ∷ []

abbrev queried : List ℕ
queried = 1 ∷ 0 ∷ 3 ∷ 0 ∷ []

abbrev term : ℕ → List ℕ
term x = 0 ∷ 1 ∷ 1 ∷ x ∷ 1 ∷ 0 ∷ []

-- 0, or the number of the refusal, with room for two publics, a query, an equation of a term, and three wires
abbrev answer : Rule → List ℕ → ℕ
answer rule s = go (read_instance rule version 1 (rooms 4 2 4 3) s)
  where
    go : Got File → ℕ
    go (got f rest) = 0
    go (stop k) = k

-- of these wires and publics: as they are, cut short, with one byte more, and with the query and the terms
abbrev row : Rule → ℕ → List Pair → List ℕ
row rule vars ps =
    answer rule (bytes vars ps nothing)
    ∷ answer rule (take (length (bytes vars ps nothing) - 1) (bytes vars ps nothing))
    ∷ answer rule (bytes vars ps nothing ++ (7 ∷ []))
    ∷ answer rule (bytes vars ps queried)
    ∷ answer rule (bytes vars ps (term 3))
    ∷ answer rule (bytes vars ps (term 1))
    ∷ []

-- each way to break the rule: no publics, wire 0 missing, unequal to 0, no wires with wire 0 listed, and with nothing
abbrev pub broken : Rule → List (List ℕ)
broken rule =
    row rule 3 []
    ∷ row rule 3 (pair 1 0 ∷ pair 2 5 ∷ [])
    ∷ row rule 3 (pair 0 1 ∷ pair 2 5 ∷ [])
    ∷ row rule 0 (pair 0 0 ∷ [])
    ∷ row rule 0 []
    ∷ []

-- the rule kept, alone and before another public; wire 0 unequal to 0 and equal wires, falling wires (27), a unit that is
-- none (4), more publics than the store holds (10), more wires than the scratch (16), and a public beyond the count (12)
abbrev pub others : Rule → List ℕ
others rule =
    answer rule (bytes 1 (pair 0 0 ∷ []) nothing)
    ∷ answer rule (bytes 3 (pair 0 0 ∷ pair 2 5 ∷ []) nothing)
    ∷ answer rule (bytes 3 (pair 0 1 ∷ pair 0 1 ∷ []) nothing)
    ∷ answer rule (bytes 3 (pair 2 5 ∷ pair 0 0 ∷ []) nothing)
    ∷ answer rule (bytes 3 (pair 0 prime ∷ []) nothing)
    ∷ answer rule (bytes 3 (pair 0 1 ∷ pair 1 0 ∷ pair 2 0 ∷ []) nothing)
    ∷ answer rule (bytes 4 (pair 0 1 ∷ []) nothing)
    ∷ answer rule (bytes 3 (pair 1 0 ∷ pair 3 5 ∷ []) nothing)
    ∷ []

-- strictly: 46 wherever the rule is broken and the bytes hold their fields, in order, and fit
pub strictly : (broken strict_rule ≡ replicate 5 (46 ∷ 20 ∷ 46 ∷ 46 ∷ 46 ∷ 46 ∷ []))
    × (others strict_rule ≡ 0 ∷ 0 ∷ 27 ∷ 27 ∷ 4 ∷ 10 ∷ 46 ∷ 46 ∷ [])
unfolding header_bytes u32_bytes read_instance read_file read_header read_magic read_label read_parts read_publics read_queries read_equations word part below is_utf8 follow rows gate_no all_below ask first_of_two
strictly = (refl, refl)

-- plainly
pub plainly : (broken plain_rule
    ≡ (0 ∷ 20 ∷ 28 ∷ 13 ∷ 14 ∷ 15 ∷ [])
    ∷ (0 ∷ 20 ∷ 28 ∷ 13 ∷ 14 ∷ 0 ∷ [])
    ∷ (0 ∷ 20 ∷ 28 ∷ 13 ∷ 14 ∷ 15 ∷ [])
    ∷ (12 ∷ 20 ∷ 12 ∷ 12 ∷ 12 ∷ 12 ∷ [])
    ∷ (0 ∷ 20 ∷ 28 ∷ 13 ∷ 14 ∷ 14 ∷ [])
    ∷ [])
    × (others plain_rule ≡ 0 ∷ 0 ∷ 27 ∷ 27 ∷ 4 ∷ 10 ∷ 16 ∷ 12 ∷ [])
unfolding header_bytes u32_bytes read_instance read_file read_header read_magic read_label read_parts read_publics read_queries read_equations word part below is_utf8 follow rows gate_no all_below ask first_of_two
plainly = (refl, refl)
