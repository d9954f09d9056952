-- Worked examples of the form, of the reading and of the steps, as one fact of the definitions. Assumes nothing.
use Prim.Native.Nat.{ℕ}
use mathlib.Core.Path.{◌≡◌, refl}
use mathlib.Core.List.{List, [], ◌∷◌, ◌++◌}
use lib.ListN.{replicate}
use Rattle.std.specs.Prelude.{Some, None}
use Rattle.ticket.specs.Form.{blank, newline, ticket_line, read_line}
use Rattle.ticket.specs.Steps.{grams_to_steps}
use Rattle.ticket.specs.declared.Ticket.{Ticket}

abbrev ticket : (wire grams : ℕ) → Ticket
ticket wire grams = record { wire = wire; grams = grams }

-- columns, a blank, columns, a newline
abbrev joined : List ℕ → List ℕ → List ℕ
joined wire grams = wire ++ (blank ∷ (grams ++ (newline ∷ [])))

-- 10 columns that say 1, and 12 that say 25
abbrev one : List ℕ
one = replicate 9 blank ++ (49 ∷ [])

abbrev twenty-five : List ℕ
twenty-five = replicate 10 blank ++ (50 ∷ 53 ∷ [])

pub record Examples : Type 0 where
  pub line_of : ticket_line (ticket 1 25)
      ≡ 32 ∷ 32 ∷ 32 ∷ 32 ∷ 32 ∷ 32 ∷ 32 ∷ 32 ∷ 32 ∷ 49 ∷ 32
      ∷ 32 ∷ 32 ∷ 32 ∷ 32 ∷ 32 ∷ 32 ∷ 32 ∷ 32 ∷ 32 ∷ 32 ∷ 50 ∷ 53 ∷ 10 ∷ []
  pub right : read_line (joined one twenty-five) ≡ Some (ticket 1 25)
  pub noughts : read_line (joined (replicate 9 blank ++ (48 ∷ [])) (replicate 11 blank ++ (48 ∷ []))) ≡ Some (ticket 0 0)
  pub nines : read_line (joined (replicate 10 57) (replicate 12 57)) ≡ Some (ticket 9999999999 999999999999)
  pub two-noughts : read_line (joined (replicate 8 blank ++ (48 ∷ 48 ∷ [])) twenty-five) ≡ None
  pub leading-nought : read_line (joined one (replicate 10 blank ++ (48 ∷ 53 ∷ []))) ≡ None
  pub no-wire : read_line (joined (replicate 10 blank) twenty-five) ≡ None
  pub no-grams : read_line (joined one (replicate 12 blank)) ≡ None
  pub blank-on-the-right : read_line (joined (replicate 8 blank ++ (49 ∷ blank ∷ [])) twenty-five) ≡ None
  pub blank-inside : read_line (joined one (replicate 9 blank ++ (50 ∷ blank ∷ 53 ∷ []))) ≡ None
  pub no-newline : read_line (one ++ (blank ∷ twenty-five)) ≡ None
  pub steps-0 : grams_to_steps 0 ≡ 0
  pub steps-24 : grams_to_steps 24 ≡ 0
  pub steps-25 : grams_to_steps 25 ≡ 1
  pub steps-74 : grams_to_steps 74 ≡ 1
  pub steps-75 : grams_to_steps 75 ≡ 2
  pub steps-last : grams_to_steps 100663296024 ≡ 2013265920
  pub steps-beyond : grams_to_steps 100663296025 ≡ 2013265921

pub examples : Examples
unfolding ticket_line read_line grams_to_steps
examples =
    record {
      line_of = refl;
      right = refl;
      noughts = refl;
      nines = refl;
      two-noughts = refl;
      leading-nought = refl;
      no-wire = refl;
      no-grams = refl;
      blank-on-the-right = refl;
      blank-inside = refl;
      no-newline = refl;
      steps-0 = refl;
      steps-24 = refl;
      steps-25 = refl;
      steps-74 = refl;
      steps-75 = refl;
      steps-last = refl;
      steps-beyond = refl;
    }
