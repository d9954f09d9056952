-- What code says that makes one opening or one call of demand 3's list for relations on one allocator, and what the
-- theorem says of calls made in turn. Assumes nothing.
use Rattle.std.specs.Prelude.{ℕ, ◌≡◌, List, [], ◌∷◌, ◌++◌, get_or, set}
use Rattle.limits.specs.Questions.{pick}
use Rattle.limits.specs.Outcome.{is_accepted}
use Rattle.sharing.specs.declared.VarAllocator.{VarAllocator}
use Rattle.sharing.specs.declared.SharedRelation.{SharedRelation}
use Rattle.sharing.specs.Records.{Opened}
use Rattle.history.specs.Along.{PerformsBy, PerformedBy, called_in}
use Rattle.history.specs.Calls.{Call, Answer}
use Rattle.shared_history.specs.Calls.{OwnState, SharedState, SharedCall, Open, On, shared_answer, shared_after, SharedEntry, shared_ledger_of}
use Rattle.shared_history.specs.Whole.{begin_ledger, shared_last, shared_ledger, SharedWhole}

-- this allocator, these slots, and what each relation has to itself
abbrev pub shared_state : VarAllocator → (slots : List ℕ) → (owns : List OwnState) → SharedState
shared_state a slots owns = record { allocator = a; slots = slots; owns = owns }

-- this record, and these words in its stores
abbrev pub own : SharedRelation → (queries equations uses : List ℕ) → OwnState
own m queries equations uses = record { relation = m; queries = queries; equations = equations; uses = uses }

-- ---- one call
-- the call answers x and leaves q, as the theorem's list has it
abbrev pub SharedPerforms : SharedState → SharedCall → Answer → SharedState → Type 0
SharedPerforms = PerformsBy shared_answer shared_after

-- a call on relation r, which has the record m and these stores, answers x and leaves the relation with another record
-- and other stores: whatever the others have, and for a number that isn't opened too
abbrev pub OnRelation : ℕ → Call → Answer
    → (a : VarAllocator) (m : SharedRelation) (slots queries equations uses : List ℕ)
    → (a : VarAllocator) (m : SharedRelation) (slots queries equations uses : List ℕ) → Type 0
OnRelation r c x a m slots queries equations uses a' m' slots' queries' equations' uses' =
    (owns : List OwnState) (handed : OwnState) → get_or owns r handed ≡ own m queries equations uses
    → SharedPerforms (shared_state a slots owns) (On r handed c) x (shared_state a' slots' (set owns r (own m' queries' equations' uses')))

-- an opening: an accepted one adds the relation
abbrev pub Opens : (width quota : ℕ) → Opened → (a : VarAllocator) (slots uses slots' uses' : List ℕ) → Type 0
Opens width quota x a slots uses slots' uses' =
    (owns : List OwnState) (queries equations : List ℕ)
    → SharedPerforms (shared_state a slots owns) (Open width quota queries equations uses)
    (record { outcome = x.outcome; first = x.index; accepted = 0; fresh = 0 })
    (shared_state x.allocator slots' (pick (is_accepted x.outcome) (owns ++ (own x.relation queries equations uses' ∷ [])) owns))

-- ---- calls made in turn
-- from p to q, each on what the one before it left, with what each answered
abbrev pub SharedPerformed : SharedState → List SharedEntry → SharedState → Type 0
SharedPerformed = PerformedBy shared_answer shared_after

-- the calls of the entries
abbrev pub shared_calls_of : List SharedEntry → List SharedCall
shared_calls_of = called_in

-- the theorem speaks of them: of these calls after a first opening, what they came to, and the ledger of what they
-- answered
pub record SharedRun (vars : ℕ) (slots : List ℕ) (width quota : ℕ) (queries equations uses : List ℕ) (es : List SharedEntry) (q : SharedState) : Type 0 where
  pub whole : SharedWhole vars slots width quota queries equations uses (shared_calls_of es)
  pub last-is : shared_last vars slots width quota queries equations uses (shared_calls_of es) ≡ q
  pub ledger-is : shared_ledger vars slots width quota queries equations uses (shared_calls_of es)
      ≡ shared_ledger_of (begin_ledger vars slots width quota queries equations uses (shared_calls_of es)) es
