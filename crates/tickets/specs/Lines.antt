-- The lines of a ticket text, the pair that each sets, and what is asked of it (document 02, R-1: "lines act in order
-- like a set list"). Assumes nothing.
use Rattle.std.specs.Prelude.{ℕ, ◌+◌, ◌/◌, Bool, true, false, List, ◌∷◌, length, Option, Some, None}
use Rattle.limits.specs.Questions.{Question, question, first_no}
use Rattle.words.specs.Pieces.{pieces}
use Rattle.allocator.specs.Slots.{Pair, pair, setting_asks, slot_takes, SetRun, set_items, items_asks}
use Rattle.ticket.specs.Form.{line_length, read_line}
use Rattle.ticket.specs.Steps.{grams_to_steps}
use Rattle.ticket.specs.declared.Ticket.{Ticket}

-- a text's lines: every 24 bytes one, and what is left at the end where it is cut short
unfoldable pub lines_of : List ℕ → List (List ℕ)
lines_of text = pieces line_length ((length text + 23) / line_length) text

-- is a line some ticket's?
abbrev pub is_ticket : Option Ticket → Bool
is_ticket (Some t) = true
is_ticket None = false

-- the pair that a ticket sets: its wire to its steps; of a line that is no ticket's, which 40 turns away, any
abbrev pub ticket_pair : Option Ticket → Pair
ticket_pair (Some t) = pair t.wire (grams_to_steps t.grams)
ticket_pair None = pair 0 0

-- the pair that a line sets
abbrev pub line_pair : List ℕ → Pair
line_pair bytes = ticket_pair (read_line bytes)

-- 3, 41 in place of 4, 7, 8 of a ticket's pair
abbrev pub ticket_asks : ℕ → (Pair → Bool) → Pair → List Question
ticket_asks = setting_asks 41

-- 40 of a line, and then those of its pair
abbrev pub line_asks : ℕ → (Pair → Bool) → List ℕ → List Question
line_asks count takes bytes = question 40 (is_ticket (read_line bytes)) ∷ ticket_asks count takes (line_pair bytes)

-- the number of a ticket's pair on the slots as they are
unfoldable pub ticket_no : ℕ → List ℕ → Pair → ℕ
ticket_no count slots p = first_no (ticket_asks count (slot_takes slots) p)

-- and of a line
unfoldable pub line_no : ℕ → List ℕ → List ℕ → ℕ
line_no count slots bytes = first_no (line_asks count (slot_takes slots) bytes)

-- the questions of a text's lines, each on the slots as the earlier lines left them
abbrev pub lines_asks : ℕ → List ℕ → List ℕ → List Question
lines_asks count slots text = items_asks (λ s bytes. line_asks count (slot_takes s) bytes) line_pair slots (lines_of text)

-- the lines of a text set in turn
abbrev pub set_lines : ℕ → List ℕ → List ℕ → SetRun
set_lines count slots text = set_items (line_no count) line_pair slots (lines_of text)
