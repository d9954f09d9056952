-- What the allocator's functions answer and leave, by the questions and slots of Slots.antt. Assumes nothing.
use Rattle.std.specs.Prelude.{ℕ, ◌+◌, ◌≡◌, Bool, List, leb, length, Result, Ok, Err}
use Rattle.limits.specs.Questions.{pick}
use Rattle.limits.specs.Outcome.{answer_of, answer_number, outcome_of}
use Rattle.limits.specs.declared.Refused.{Refused}
use Rattle.allocator.specs.Slots.{Pair, is_fresh, pair_no, grown_slots, SetRun, after_item}
use Rattle.allocator.specs.declared.Set.{Set}
use Rattle.allocator.specs.declared.Set.TheVariants.{Fresh, Repeated}
use Rattle.allocator.specs.declared.SetPairs.{SetPairs}

-- ---- the answer to one wire set (document 02's R-5)
-- by its number, and by whether the wire's slot was unassigned just before: fresh or repeated at 0, else refused
abbrev pub set_of : ℕ → Bool → Result Set Refused
set_of k fresh = answer_of k (pick fresh Fresh Repeated)

-- the documents' number of it: 0 is yes
abbrev pub set_number : Result Set Refused → ℕ
set_number = answer_number

-- how many fresh ones an accepted set counts: one or none
abbrev pub fresh_of : Set → ℕ
fresh_of Fresh = 1
fresh_of Repeated = 0

-- and an answer
abbrev pub set_fresh : Result Set Refused → ℕ
set_fresh (Ok set) = fresh_of set
set_fresh (Err e) = 0

-- ---- what the functions do
-- what code does that sets one item: its answer, and the slots before (₀) and after (₁); `no_of` is an item's number on
-- the slots as they are, `pair_of` the pair that it sets
pub record SetsItem {A : Type 0} (no_of : List ℕ → A → ℕ) (pair_of : A → Pair) (slots₀ : List ℕ) (a : A) (r : Result Set Refused) (slots₁ : List ℕ) : Type 0 where
  pub answer : r ≡ set_of (no_of slots₀ a) (is_fresh slots₀ (pair_of a))
  pub slots : slots₁ ≡ after_item no_of pair_of slots₀ a

-- one wire set
abbrev pub AssignsVar : ℕ → (slots₀ : List ℕ) → Pair → Result Set Refused → (slots₁ : List ℕ) → Type 0
AssignsVar count = SetsItem (pair_no count) (λ p. p)

-- a run's answer: its outcome and its tallies
abbrev pub how_far : SetRun → SetPairs
how_far run = record { outcome = outcome_of run.number; accepted = run.accepted; fresh = run.fresh }

-- what code does that sets items in turn: the run's answer, told as the caller has it, and the slots afterwards
pub record Runs {A : Type 0} (told : SetRun → A) (run : SetRun) (r : A) (slots₁ : List ℕ) : Type 0 where
  pub answer : r ≡ told run
  pub slots : slots₁ ≡ run.slots

-- n more wires where the store holds them, else the slots as they are
abbrev pub grow_slots : ℕ → ℕ → List ℕ → List ℕ
grow_slots count n slots = pick (leb (count + n) (length slots)) (grown_slots count n slots) slots
