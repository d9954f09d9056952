-- What is put in among a call's questions where its relation shares its wires with others (document 02, R-2). Each call's
-- questions are one list with this as its parameter. Assumes nothing.
use Rattle.std.specs.Prelude.{ℕ, Bool, true, List, []}
use Rattle.limits.specs.Questions.{Question, pick}

-- whether 2 is put of the wire count; what comes after the last 2; what comes after 5, of so many wires more
pub record Sharing : Type 0 where
  pub counted : Bool
  pub opened : List Question
  pub within : ℕ → List Question

-- only what comes after 5
abbrev pub after_five : (ℕ → List Question) → Sharing
after_five within = record { counted = true; opened = []; within = within }

-- nothing comes there either
abbrev pub nothing : ℕ → List Question
nothing n = []

-- a relation that has its wires to itself: nothing is put in
abbrev pub alone : Sharing
alone = after_five nothing

-- questions about the wire count, where it is asked
abbrev pub where_counted : Sharing → List Question → List Question
where_counted h asks = pick h.counted asks []
