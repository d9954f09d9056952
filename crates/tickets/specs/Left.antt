-- What a ticket call can still say no to along a list of calls from an accepted fresh, and what it sets, by the wire count
-- and the sets of a book alone; 1 and 2 are never answered there. Assumes nothing.
use Rattle.std.specs.Prelude.{ℕ, List}
use Rattle.limits.specs.Questions.{first_no}
use Rattle.allocator.specs.Slots.{Pair}
use Rattle.permutation.specs.Left.{sets_take, items_left, items_set}
use Rattle.tickets.specs.Lines.{lines_of, line_pair, line_asks}

-- one line: 40, 3, 41, 7 at a wire of n or more, 8 at a wire that the sets give another value
abbrev pub line_left : ℕ → List Pair → List ℕ → ℕ
line_left n sets bytes = first_no (line_asks n (sets_take sets) bytes)

-- the lines of a text in turn; each accepted one joins the sets
abbrev pub set_tickets_left : ℕ → List Pair → List ℕ → ℕ
set_tickets_left n sets text = items_left (line_left n) line_pair sets (lines_of text)

-- and the pairs that are set
abbrev pub set_tickets_set : ℕ → List Pair → List ℕ → List Pair
set_tickets_set n sets text = items_set (line_left n) line_pair sets (lines_of text)
