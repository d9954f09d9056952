-- Worked examples of the ticket call, as one fact of the definitions: on a relation of width 1 with three wires, of which
-- wires 1 and 2 have no value yet, in a store of four words. Assumes nothing.
use Prim.Native.Nat.{ℕ}
use mathlib.Core.Path.{◌≡◌, refl}
use mathlib.Core.List.{List, [], ◌∷◌, ◌++◌}
use Rattle.std.specs.Prelude.{Err, Ok}
use Rattle.limits.specs.Outcome.{Outcome, refusal}
use Rattle.limits.specs.Numbers.{unassigned}
use Rattle.limits.specs.Questions.{ask, first_of_two}
use Rattle.allocator.specs.Slots.{set_items}
use Rattle.permutation.specs.Answers.{relation}
use Rattle.ticket.specs.Form.{ticket_line, read_line}
use Rattle.ticket.specs.Steps.{grams_to_steps}
use Rattle.tickets.specs.Lines.{lines_of, line_no}
use Rattle.tickets.specs.Tickets.{set_tickets_run, set_tickets, set_tickets_slots}
use Rattle.tickets.specs.declared.SetTickets.{SetTickets}

-- the slots before, and with wires 1 and 2 so
abbrev slots : (one two : ℕ) → List ℕ
slots one two = 0 ∷ one ∷ two ∷ 9 ∷ []

-- a ticket's line
abbrev line : (wire grams : ℕ) → List ℕ
line wire grams = ticket_line (record { wire = wire; grams = grams })

-- an answer
abbrev told : Outcome → (accepted fresh : ℕ) → SetTickets
told outcome accepted fresh = record { outcome = outcome; accepted = accepted; fresh = fresh }

-- a text is answered so, and leaves wires 1 and 2 so
pub record Example (width : ℕ) (text : List ℕ) (outcome : Outcome) (accepted fresh one two : ℕ) : Type 0 where
  pub answer : set_tickets (relation width 3 0 0 0 0) (slots unassigned unassigned) text ≡ told outcome accepted fresh
  pub leaves : set_tickets_slots (relation width 3 0 0 0 0) (slots unassigned unassigned) text ≡ slots one two

pub record Examples : Type 0 where
  -- 25 g is 1 step, and 100,663,296,024 g are p − 1
  pub both : Example 1 (line 1 25 ++ line 2 100663296024) (Ok tt) 2 2 1 2013265920
  -- one gram more is 41, but not where the wire is 3
  pub too_much : Example 1 (line 1 25 ++ line 2 100663296025) (Err (refusal 41)) 1 1 1 unassigned
  pub too_wide : Example 1 (line 1 25 ++ line 9999999999 999999999999) (Err (refusal 3)) 1 1 1 unassigned
  -- a text that is cut short: 40 when that line is reached, and not before
  pub cut : Example 1 (line 1 25 ++ (32 ∷ [])) (Err (refusal 40)) 1 1 1 unassigned
  pub reached : Example 1 (line 3 25 ++ (32 ∷ [])) (Err (refusal 7)) 0 0 unassigned unassigned
  -- the same count again is repeated, and another is refused
  pub again : Example 1 (line 1 25 ++ line 1 74) (Ok tt) 2 1 1 unassigned
  pub other : Example 1 (line 1 25 ++ (line 1 75 ++ line 2 25)) (Err (refusal 8)) 1 1 1 unassigned
  -- wire 0 with 0 is repeated; nothing is counted past the refused line
  pub zero-wire : Example 1 (line 0 0 ++ (line 2 25 ++ (line 0 25 ++ line 1 25))) (Err (refusal 8)) 2 1 unassigned 1
  -- no text, and a width that 1 turns away
  pub none : Example 1 [] (Ok tt) 0 0 unassigned unassigned
  pub widthless : Example 0 (line 1 25) (Err (refusal 1)) 0 0 unassigned unassigned

pub examples : Examples
unfolding ask first_of_two set_items ticket_line read_line grams_to_steps lines_of line_no set_tickets_run
examples =
    record {
      both = record { answer = refl; leaves = refl };
      too_much = record { answer = refl; leaves = refl };
      too_wide = record { answer = refl; leaves = refl };
      cut = record { answer = refl; leaves = refl };
      reached = record { answer = refl; leaves = refl };
      again = record { answer = refl; leaves = refl };
      other = record { answer = refl; leaves = refl };
      zero-wire = record { answer = refl; leaves = refl };
      none = record { answer = refl; leaves = refl };
      widthless = record { answer = refl; leaves = refl };
    }
