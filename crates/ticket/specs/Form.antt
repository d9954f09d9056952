-- The ticket line of document 02 (R-1): 24 bytes of a wire and grams, and which ticket a line is of.
--
-- `ticket_line` is the form. `read_line` is the same as a reading that one could run: it takes the numbers that the columns
-- spell, and takes the line only where it is theirs. The laws (proofs/Form.antt) say that a line is read as a ticket exactly
-- where it is that ticket's (`Of`), and that no line is of two; what is not in the form is of none. Assumes nothing.
use Rattle.std.specs.Prelude.{ℕ, Option, Some, None, zero, suc, ◌+◌, ◌-◌, ◌*◌, ◌/◌, ◌%◌, ◌^◌, ◌<◌, ◌≡◌, Bool, true, false, ◌&&◌, List, [], ◌∷◌, ◌++◌, eqb, take, drop}
use Rattle.limits.specs.Questions.{pick}
use Rattle.ticket.specs.declared.Ticket.{Ticket}

-- ---- the form
-- a blank
abbrev pub blank : ℕ
blank = 32

-- the end of a line
abbrev pub newline : ℕ
newline = 10

-- the last digit of a number, as a byte
abbrev pub last_digit : ℕ → ℕ
last_digit n = 48 + n % 10

-- the same, but a blank where the number is 0
abbrev pub last_or_blank : ℕ → ℕ
last_or_blank n = pick (eqb n 0) blank (last_digit n)

-- a number in k columns, but blanks where it is 0: its last digit on the right, and the rest of it in the columns before that
abbrev pub right_or_blank : (k n : ℕ) → List ℕ
right_or_blank zero n = []
right_or_blank (suc k) n = right_or_blank k (n / 10) ++ (last_or_blank n ∷ [])

-- a number right-justified in k columns: blanks pad on the left, and no number but 0 itself starts with 0
abbrev pub justified : (k n : ℕ) → List ℕ
justified zero n = []
justified (suc k) n = right_or_blank k (n / 10) ++ (last_digit n ∷ [])

-- the columns of the wire, and of the grams
abbrev pub wire_columns : ℕ
wire_columns = 10

abbrev pub grams_columns : ℕ
grams_columns = 12

-- the bytes of a line
abbrev pub line_length : ℕ
line_length = 24

-- a ticket's line: the wire, a blank, the grams, a newline
unfoldable pub ticket_line : Ticket → List ℕ
ticket_line t = justified wire_columns t.wire ++ (blank ∷ (justified grams_columns t.grams ++ (newline ∷ [])))

-- the line is this ticket's: both numbers fit their columns, and the bytes are theirs
pub record Of (t : Ticket) (bytes : List ℕ) : Type 0 where
  pub wire : t.wire < 10 ^ wire_columns
  pub grams : t.grams < 10 ^ grams_columns
  pub line : bytes ≡ ticket_line t

-- ---- the reading
-- the number that bytes spell behind n: each moves what is before it one place up, a digit counts as itself and a blank
-- as 0; what another byte counts as is all the same, since the line is compared
abbrev pub spelled : ℕ → List ℕ → ℕ
spelled n [] = n
spelled n (b ∷ bytes) = spelled (n * 10 + (b - 48)) bytes

-- the ticket whose line this is, if it is any's
abbrev pub spelled_ticket : List ℕ → Ticket
spelled_ticket bytes = record { wire = spelled 0 (take wire_columns bytes); grams = spelled 0 (take grams_columns (drop (wire_columns + 1) bytes)) }

-- are these the same bytes?
abbrev pub same_bytes : List ℕ → List ℕ → Bool
same_bytes [] [] = true
same_bytes [] (b ∷ t) = false
same_bytes (a ∷ s) [] = false
same_bytes (a ∷ s) (b ∷ t) = eqb a b && same_bytes s t

-- what a line is read as: the ticket that its columns spell where the line is that ticket's, else no ticket
unfoldable pub read_line : List ℕ → Option Ticket
read_line bytes = pick (same_bytes bytes (ticket_line (spelled_ticket bytes))) (Some (spelled_ticket bytes)) None
