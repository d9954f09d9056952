-- The ticket call on a relation: its questions, what it answers, and what it leaves of the slots. Assumes nothing.
use Rattle.std.specs.Prelude.{ℕ, List, ◌++◌, length}
use Rattle.limits.specs.Questions.{Question, first_no}
use Rattle.limits.specs.Outcome.{outcome_of}
use Rattle.allocator.specs.Slots.{SetRun, run_after}
use Rattle.allocator.specs.Assign.{Runs}
use Rattle.permutation.specs.Sharing.{Sharing, alone}
use Rattle.permutation.specs.Relation.{relation_asks, relation_front}
use Rattle.permutation.specs.declared.PermutationRelation.{PermutationRelation}
use Rattle.tickets.specs.Lines.{lines_asks, set_lines}
use Rattle.tickets.specs.declared.SetTickets.{SetTickets}

-- tickets: 1, 2, then 40, 3, 41, 7, 8 line by line
abbrev pub set_tickets_asks_with : Sharing → PermutationRelation → List ℕ → List ℕ → List Question
set_tickets_asks_with h rel slots text = relation_front h rel (length slots) ++ lines_asks rel.vars slots text

-- alone
abbrev pub set_tickets_asks : PermutationRelation → List ℕ → List ℕ → List Question
set_tickets_asks = set_tickets_asks_with alone

-- the number, how many lines were accepted, how many of those were fresh, and the slots: nothing is tried where 1 or 2
-- says no
unfoldable pub set_tickets_run : PermutationRelation → List ℕ → List ℕ → SetRun
set_tickets_run rel slots text = run_after (first_no (relation_asks rel (length slots))) (set_lines rel.vars slots text) slots

-- a run's answer: the outcome of its number, and its tallies
abbrev pub set_tickets_of : SetRun → SetTickets
set_tickets_of run = record { outcome = outcome_of run.number; accepted = run.accepted; fresh = run.fresh }

-- the answer
abbrev pub set_tickets : PermutationRelation → List ℕ → List ℕ → SetTickets
set_tickets rel slots text = set_tickets_of (set_tickets_run rel slots text)

-- the slots afterwards: those of that run
abbrev pub set_tickets_slots : PermutationRelation → List ℕ → List ℕ → List ℕ
set_tickets_slots rel slots text = (set_tickets_run rel slots text).slots

-- what the call does, told as the caller has it: `Runs` has the parts, the answer and the slots
abbrev pub SetsTickets : {A : Type 0} → (SetTickets → A) → PermutationRelation → (slots₀ text : List ℕ) → A → (slots₁ : List ℕ) → Type 0
SetsTickets told rel slots₀ text = Runs (λ run. told (set_tickets_of run)) (set_tickets_run rel slots₀ text)
