-- What demand 3 asks along a list of openings and calls, beside the ledger. Assumes nothing.
use Rattle.limits.specs.Outcome.{refusal}
use Rattle.std.specs.Prelude.{ℕ, ◌+◌, ◌≤◌, ◌<◌, ◌≡◌, true, List, [], ◌∷◌, length, Err, Ok}
use Rattle.limits.specs.Questions.{first_no}
use Rattle.words.specs.Store.{All}
use Rattle.words.specs.Pieces.{words_of}
use Rattle.sharing.specs.Shares.{max_relations}
use Rattle.history.specs.Along.{Along}
use Rattle.history.specs.Calls.{lengths_of}
use Rattle.history.specs.Left.{fresh_count}
use Rattle.history.specs.Demand.{Accepted, Answers, takes_vars, adds_query}
use Rattle.shared_history.specs.Calls.{OwnState, SharedState, SharedCall, Open, On, own_at, seen, lengths_for, shared_asks, shared_answer, shared_after, OwnLedger, SharedLedger, own_ledger_at, shared_noted}
use Rattle.shared_history.specs.Left.{shared_left, shared_set_by}

-- the wires that all relations obtained, by their records
abbrev pub obtained_by : List OwnState → ℕ
obtained_by [] = 0
obtained_by (m ∷ ms) = m.relation.obtained + obtained_by ms

-- and by the ledger
abbrev pub obtained_in : List OwnLedger → ℕ
obtained_in [] = 0
obtained_in (e ∷ es) = e.obtained + obtained_in es

-- what an accepted call answers: an opening the next number, an allocate or a mint the count as it was before
abbrev pub FirstIs : SharedState → SharedLedger → SharedCall → Type 0
FirstIs p l (Open width quota queries equations uses) = (shared_answer p (Open width quota queries equations uses)).first ≡ length l.owns
FirstIs p l (On r handed c) = takes_vars c ≡ true → (shared_answer p (On r handed c)).first ≡ l.count

-- where a call answers 11 of a count: relation r's query store has no room either
abbrev pub FullIs : SharedState → SharedLedger → SharedCall → Type 0
FullIs p l (Open width quota queries equations uses) = Unit {0}
FullIs p l (On r handed c) =
    adds_query c ≡ true → r < length l.owns
    → (lengths_of (seen p (own_at p r handed))).queries < words_of (own_ledger_at l r).width (length (own_ledger_at l r).queries + 1)

-- one call, beside the ledger as it was before
pub record SharedTold (p : SharedState) (l : SharedLedger) (c : SharedCall) : Type 0 where
  -- it accepts where no question says no, else it refuses with the first
  pub answers : Answers (shared_answer p c).outcome (first_no (shared_asks p c)) (shared_left (lengths_for p c) l c)
  -- it changes the length of no store of an opened relation, nor of the slots
  pub lengths : (r : ℕ) → r < p.allocator.opened → (handed : OwnState)
      → lengths_of (seen (shared_after p c) (own_at (shared_after p c) r handed)) ≡ lengths_of (seen p (own_at p r handed))
  -- an accepted one answers what the ledger says
  pub first : Accepted (shared_answer p c).outcome → FirstIs p l c
  -- 11, a count above 2^30, is answered only where the query store has no room either: 11 comes before 10
  pub full : (shared_answer p c).outcome ≡ Err (refusal 11) → FullIs p l c
  -- as many sets, pairs or lines are accepted as the ledger lets through, after a refusal too
  pub accepted : (shared_answer p c).accepted ≡ length (shared_set_by l c)
  -- and of those as many are fresh as wires are named that nobody's set in the ledger names
  pub fresh : (shared_answer p c).fresh ≡ fresh_count l.count l.sets (shared_set_by l c)

-- call by call
abbrev pub AllSharedTold : SharedState → SharedLedger → List SharedCall → Type 0
AllSharedTold = Along shared_answer shared_after shared_noted SharedTold

-- wires: in the store there are 1 and what each relation obtained, by the records and by the ledger; each within its
-- quota; at most 8 relations
pub record Counted (p : SharedState) (l : SharedLedger) : Type 0 where
  pub vars : p.allocator.vars ≡ 1 + obtained_by p.owns
  pub count : l.count ≡ 1 + obtained_in l.owns
  pub same : p.allocator.vars ≡ l.count
  pub stored : p.allocator.vars ≤ length p.slots
  pub quotas : All (λ m. m.relation.obtained ≤ m.relation.quota) p.owns
  pub ledger_quotas : All (λ e. e.obtained ≤ e.quota) l.owns
  pub opened : p.allocator.opened ≡ length p.owns
  pub few : p.allocator.opened ≤ max_relations
