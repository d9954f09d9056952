-- Openings and calls of relations on one allocator (document 02's R-2: the mixers of a plant), in any order: what each
-- answers and leaves, and the ledger, which is fed each call and its answer. A relation's call is that of
-- `history/specs/Calls` on the relation with the shared wire count and the shared slots. Assumes nothing.
use Rattle.limits.specs.Outcome.{refusal}
use Rattle.std.specs.Prelude.{ℕ, ◌+◌, List, [], ◌∷◌, ◌++◌, length, get_or, set, Err, Ok}
use Rattle.limits.specs.Questions.{Question, first_no, on_yes}
use Rattle.allocator.specs.Slots.{Pair}
use Rattle.expr.specs.Equation.{Equation}
use Rattle.permutation.specs.Sharing.{Sharing}
use Rattle.sharing.specs.Shares.{on_allocator, shares}
use Rattle.sharing.specs.Opening.{with_allocator_asks, with_allocator_no, with_allocator, with_allocator_slots, with_allocator_uses}
use Rattle.sharing.specs.Answers.{off_allocator, with_vars}
use Rattle.sharing.specs.declared.VarAllocator.{VarAllocator}
use Rattle.sharing.specs.declared.SharedRelation.{SharedRelation}
use Rattle.history.specs.Along.{Logged, log_by, left_by, ledger_by}
use Rattle.history.specs.Ledger.{Ledger}
use Rattle.history.specs.Calls.{Call, Allocate, Set, SetList, Record, Mint, Equate, Tickets, WithdrawQuery, WithdrawEquation, State, state, Lengths, lengths_of, asks_with, front_asks, Answer, on_accepted, answer, after, ledger, first_ledger, noted}

-- what a relation has to itself: its record, and the words of its three stores
pub record OwnState : Type 0 where
  pub relation : SharedRelation
  pub queries : List ℕ
  pub equations : List ℕ
  pub uses : List ℕ

-- what the relations share, and what each has to itself, in the order of their numbers
pub record SharedState : Type 0 where
  pub allocator : VarAllocator
  pub slots : List ℕ
  pub owns : List OwnState

-- the opening of a relation, lent its three stores; or a call on relation r. A number that isn't opened has no record and no
-- stores: the caller hands in what it likes, `handed`, which 1 and 2 are put to before 42
pub data SharedCall : Type 0 where
  Open : (width quota : ℕ) (queries equations uses : List ℕ) → SharedCall
  On : (r : ℕ) (handed : OwnState) → Call → SharedCall

-- what a call on number r gets
abbrev pub own_at : SharedState → ℕ → OwnState → OwnState
own_at p r handed = get_or p.owns r handed

-- a relation with the shared count and the shared slots: what a relation alone would be
abbrev pub seen : SharedState → OwnState → State
seen p m = state (on_allocator p.allocator m.relation) p.slots m.queries m.equations m.uses

-- what sharing puts in among its questions
abbrev pub shares_of : SharedState → ℕ → OwnState → Sharing
shares_of p r m = shares p.allocator r m.relation

-- the lengths of the stores that a call gets
abbrev pub lengths_for : SharedState → SharedCall → Lengths
lengths_for p (Open width quota queries equations uses) =
    record { slots = length p.slots; queries = length queries; equations = length equations; uses = length uses }
lengths_for p (On r handed c) = lengths_of (seen p (own_at p r handed))

-- how many wires a call asks for, at a width
abbrev pub wires_of : ℕ → Call → ℕ
wires_of w (Allocate n) = n
wires_of w (Set p) = 0
wires_of w (SetList vars values) = 0
wires_of w (Record input output) = 0
wires_of w (Mint input) = w
wires_of w (Equate terms image) = 0
wires_of w (Tickets text) = 0
wires_of w (WithdrawQuery i) = 0
wires_of w (WithdrawEquation i) = 0

-- how many it obtains
abbrev pub taken : ℕ → Call → Answer → ℕ
taken w c a = on_accepted a (wires_of w c) 0

-- ---- questions in order; a call answers the first that says no
-- of an opening and of a relation's call, on the state that it gets
unfoldable pub shared_asks : SharedState → SharedCall → List Question
shared_asks p (Open width quota queries equations uses) = with_allocator_asks p.allocator width (length p.slots) (length uses)
shared_asks p (On r handed c) = let m = own_at p r handed in asks_with (shares_of p r m) (seen p m) c

-- the number up to the last question that sharing puts in, 42 or 43
unfoldable pub front_no : SharedState → ℕ → OwnState → Call → ℕ
front_no p r m c = first_no (front_asks (shares_of p r m) (on_allocator p.allocator m.relation) (lengths_of (seen p m)) c)

-- ---- answers
-- refused with a number
abbrev pub refused_with : ℕ → Answer
refused_with k = record { outcome = Err (refusal k); first = 0; accepted = 0; fresh = 0 }

-- an opening answers the relation's number; a relation's call what the same call answers on a relation alone, where the
-- front of its questions lets it through
unfoldable pub shared_answer : SharedState → SharedCall → Answer
shared_answer p (Open width quota queries equations uses) =
    let o = with_allocator p.allocator width quota p.slots uses in
    record { outcome = o.outcome; first = o.index; accepted = 0; fresh = 0 }
shared_answer p (On r handed c) =
    let m = own_at p r handed in
    on_yes (front_no p r m c) (answer (seen p m) c) (refused_with (front_no p r m c))

-- ---- what a call leaves
-- a relation's own after a call that came to this state and obtained n wires
abbrev pub own_after : OwnState → State → ℕ → OwnState
own_after m t n =
    record {
      relation = off_allocator m.relation t.relation (m.relation.obtained + n);
      queries = t.queries;
      equations = t.equations;
      uses = t.uses;
    }

-- after a call of relation r that is let through: count and slots for all, the rest for r alone
abbrev pub acted_on : SharedState → ℕ → OwnState → Call → SharedState
acted_on p r m c =
    let t = after (seen p m) c in
    record {
      allocator = with_vars p.allocator t.relation.vars;
      slots = t.slots;
      owns = set p.owns r (own_after m t (taken m.relation.width c (answer (seen p m) c)));
    }

-- after each call; an accepted opening adds a relation
unfoldable pub shared_after : SharedState → SharedCall → SharedState
shared_after p (Open width quota queries equations uses) =
    let o = with_allocator p.allocator width quota p.slots uses in
    record {
      allocator = o.allocator;
      slots = with_allocator_slots p.allocator width p.slots uses;
      owns = on_yes (with_allocator_no p.allocator width (length p.slots) (length uses))
          (p.owns
          ++ (record {
            relation = o.relation;
            queries = queries;
            equations = equations;
            uses = with_allocator_uses p.allocator width p.slots uses;
          } ∷ [])) p.owns;
    }
shared_after p (On r handed c) = let m = own_at p r handed in on_yes (front_no p r m c) (acted_on p r m c) p

-- ---- the ledger
-- of each relation: its width and quota, the wires that it obtained, its queries and its equations
pub record OwnLedger : Type 0 where
  pub width : ℕ
  pub quota : ℕ
  pub obtained : ℕ
  pub queries : List (List ℕ)
  pub equations : List Equation

-- one count and one list of sets for all
pub record SharedLedger : Type 0 where
  pub count : ℕ
  pub sets : List Pair
  pub owns : List OwnLedger

-- of a relation as it is opened
abbrev pub new_own_ledger : (width quota : ℕ) → OwnLedger
new_own_ledger width quota = record { width = width; quota = quota; obtained = 0; queries = []; equations = [] }

-- before the first opening: count and sets as a relation alone begins
abbrev pub first_shared : SharedLedger
first_shared = record { count = first_ledger.count; sets = first_ledger.sets; owns = [] }

-- the part of relation r
abbrev pub own_ledger_at : SharedLedger → ℕ → OwnLedger
own_ledger_at l r = get_or l.owns r (new_own_ledger 0 0)

-- what a relation's yes is judged on: everybody's count and sets, its own queries and equations
abbrev pub judged_on : SharedLedger → OwnLedger → Ledger
judged_on l e = ledger l.count l.sets e.queries e.equations

-- a relation's part after a call that came to this ledger and obtained n wires
abbrev pub own_ledger_after : OwnLedger → Ledger → ℕ → OwnLedger
own_ledger_after e l n =
    record {
      width = e.width;
      quota = e.quota;
      obtained = e.obtained + n;
      queries = l.queries;
      equations = l.equations;
    }

-- what a call and its answer make of the ledger: an accepted opening adds a relation; a relation's call notes for all
-- and for itself what it notes in the ledger of a relation alone
unfoldable pub shared_noted : SharedLedger → SharedCall → Answer → SharedLedger
shared_noted l (Open width quota queries equations uses) a =
    record { count = l.count; sets = l.sets; owns = on_accepted a (l.owns ++ (new_own_ledger width quota ∷ [])) l.owns }
shared_noted l (On r handed c) a =
    let e = own_ledger_at l r in
    let n = noted e.width (judged_on l e) c a in
    record { count = n.count; sets = n.sets; owns = set l.owns r (own_ledger_after e n (taken e.width c a)) }

-- ---- a list of openings and calls
-- what is left after every call, each on what the last one left
abbrev pub shared_final : SharedState → List SharedCall → SharedState
shared_final = left_by shared_after

-- one call, and what it was answered
abbrev pub SharedEntry : Type 0
SharedEntry = Logged SharedCall Answer

-- the calls in order, each with its answer on what the calls before it left
abbrev pub shared_log : SharedState → List SharedCall → List SharedEntry
shared_log = log_by shared_answer shared_after

-- the ledger after all entries, from calls and answers alone
abbrev pub shared_ledger_of : SharedLedger → List SharedEntry → SharedLedger
shared_ledger_of = ledger_by shared_noted
