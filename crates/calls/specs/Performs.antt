-- What code says that makes one call of demand 3's list, and what the theorem says of calls made in turn.
-- Assumes nothing.
use Rattle.permutation.specs.Records.{Recorded}
use Rattle.limits.specs.Outcome.{Outcome}
use Rattle.std.specs.Prelude.{ℕ, ◌≡◌, List}
use Rattle.permutation.specs.Answers.{new_relation}
use Rattle.permutation.specs.declared.PermutationRelation.{PermutationRelation}
use Rattle.history.specs.Along.{PerformsBy, PerformedBy, called_in}
use Rattle.history.specs.Calls.{Call, State, state, Answer, answer, after, fresh, first_ledger, Entry, ledger_of}
use Rattle.history.specs.Whole.{last, last_ledger, Whole}

-- ---- one call
-- the call on the state s answers a and leaves t, as the theorem's list has it
abbrev pub Performs : State → Call → Answer → State → Type 0
Performs = PerformsBy answer after

-- one that is lent the slots, whatever the other stores hold
abbrev pub OnSlots : PermutationRelation → (slots : List ℕ) → Call → Answer → PermutationRelation → (slots : List ℕ) → Type 0
OnSlots rel slots c a rel' slots' =
    (queries equations uses : List ℕ)
    → Performs (state rel slots queries equations uses) c a (state rel' slots' queries equations uses)

-- the queries and the use store, and the slots to look at
abbrev pub OnQueries : PermutationRelation → (slots queries uses : List ℕ) → Call → Answer → PermutationRelation → (queries uses : List ℕ) → Type 0
OnQueries rel slots queries uses c a rel' queries' uses' =
    (equations : List ℕ) → Performs (state rel slots queries equations uses) c a (state rel' slots queries' equations uses')

-- all but the equations
abbrev pub OnSlotsQueries : PermutationRelation → (slots queries uses : List ℕ) → Call → Answer → PermutationRelation → (slots queries uses : List ℕ) → Type 0
OnSlotsQueries rel slots queries uses c a rel' slots' queries' uses' =
    (equations : List ℕ) → Performs (state rel slots queries equations uses) c a (state rel' slots' queries' equations uses')

-- the equations
abbrev pub OnEquations : PermutationRelation → (equations : List ℕ) → Call → Answer → PermutationRelation → (equations : List ℕ) → Type 0
OnEquations rel equations c a rel' equations' =
    (slots queries uses : List ℕ)
    → Performs (state rel slots queries equations uses) c a (state rel' slots queries equations' uses)

-- ---- fresh
-- fresh of width w on these stores answers o and leaves t
pub record Starts (w : ℕ) (slots queries equations uses : List ℕ) (o : Outcome) (t : State) : Type 0 where
  pub answers : (new_relation w slots uses).outcome ≡ o
  pub leaves : fresh w slots queries equations uses ≡ t

-- it is lent the slots and the use store
abbrev pub StartsSlots : ℕ → (slots uses : List ℕ) → Recorded → (slots uses : List ℕ) → Type 0
StartsSlots w slots uses r slots' uses' =
    (queries equations : List ℕ)
    → Starts w slots queries equations uses r.outcome (state r.relation slots' queries equations uses')

-- ---- calls made in turn
-- from s to t, each on what the one before it left, with what each answered
abbrev pub Performed : State → List Entry → State → Type 0
Performed = PerformedBy answer after

-- the calls of the entries
abbrev pub calls_of : List Entry → List Call
calls_of = called_in

-- the theorem speaks of them: of these calls, the state that they came to, and the ledger of what they answered
pub record Run (w : ℕ) (slots queries equations uses : List ℕ) (es : List Entry) (t : State) : Type 0 where
  pub whole : Whole w slots queries equations uses (calls_of es)
  pub last-is : last w slots queries equations uses (calls_of es) ≡ t
  pub ledger-is : last_ledger w slots queries equations uses (calls_of es) ≡ ledger_of w first_ledger es
