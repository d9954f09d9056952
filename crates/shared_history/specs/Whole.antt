-- Demand 3 for relations on one allocator, the one claim: about what the first accepted opening leaves, any list of
-- openings and of every relation's calls after it, and at its end, for each relation that is opened, its gate, both byte
-- forms written and read, and the check, as `history/specs/Whole` has them for a relation alone.
--
--   (1) each opening and each call accepts where no question says no, else it answers the first that does; an accepted
--       opening answers the next number, an accepted allocate or mint the ledger's one count; how many sets were
--       accepted, and how many of those were fresh on the shared slots, is told by the ledger and the arguments (`told`)
--   (2) to (4) of each relation, on everybody's sets accepted before its gate and on its own queries and equations,
--       whatever the others do between its gate and its write (`judged`, by the base's own `Judged`); the gate of a
--       number that isn't opened is refused, with 42 where 1 and 2 say yes (`not_opened`)
--   and the wires in the store are 1 and what each relation obtained (`counts`); each relation's use counts and stray count
--   are those of the cells of its own queries in the ledger (`used`)
--
-- A list's beginning is a list, so this is said at every place of it. Nothing is assumed but that the first opening was
-- accepted: any words in the stores, any count before it, any widths and quotas, any list with refused calls and calls on
-- numbers that aren't opened among them. Assumes nothing.
use Rattle.limits.specs.Outcome.{refusal}
use Rattle.std.specs.Prelude.{ℕ, ◌≤◌, ◌<◌, ◌≡◌, List, [], length, Err, Ok}
use Rattle.limits.specs.Questions.{first_no}
use Rattle.words.specs.Store.{All}
use Rattle.permutation.specs.Sharing.{alone}
use Rattle.sharing.specs.Shares.{on_allocator, shares}
use Rattle.compile.specs.Gate.{GateLent, gate_lent, compile_front, compile_asks_with}
use Rattle.shared_compile.specs.Gate.{compile_on, compile_publics_on}
use Rattle.history.specs.Calls.{lengths_of}
use Rattle.history.specs.Demand.{Answers, Used}
use Rattle.history.specs.Whole.{GateDone, lent_to_gate, Judged}
use Rattle.shared_history.specs.Calls.{OwnState, SharedState, SharedCall, Open, On, own_at, seen, shares_of, shared_answer, shared_after, SharedLedger, first_shared, own_ledger_at, judged_on, shared_noted, shared_final, shared_log, shared_ledger_of}
use Rattle.shared_history.specs.Left.{allocator_by}
use Rattle.shared_history.specs.Demand.{AllSharedTold, Counted}

-- no call on relation r: an opening, or a call on another
abbrev pub Other : ℕ → SharedCall → Type 0
Other r (Open width quota queries equations uses) = Unit {0}
Other r (On q handed c) = q ≡ r → ⊥

-- the gate of relation r, by its own record and stores and what is lent beside them
abbrev pub gate_on : SharedState → ℕ → OwnState → (label publics scratch : List ℕ) → GateDone
gate_on p r m label publics scratch =
    let l = lent_to_gate (seen p m) label publics scratch in
    record {
      asked = compile_asks_with (shares_of p r m) l;
      answer = compile_on (shares_of p r m) l;
      publics = compile_publics_on (shares_of p r m) l;
    }

-- what it is lent, with the wire count by the ledger
abbrev pub lent_by : SharedLedger → SharedState → OwnState → (label publics scratch : List ℕ) → GateLent
lent_by l p m label publics scratch =
    gate_lent (on_allocator (allocator_by l) m.relation) label p.slots m.queries m.equations m.uses (length publics) (length scratch)

-- the gate of a number that isn't opened, whatever record and stores are handed in
pub record Unopened (p : SharedState) (l : SharedLedger) (r : ℕ) (m : OwnState) (label publics scratch : List ℕ) : Type 0 where
  pub answers : Answers (gate_on p r m label publics scratch).answer.outcome (first_no (gate_on p r m label publics scratch).asked)
      (first_no (compile_front (shares (allocator_by l) r m.relation) (lent_by l p m label publics scratch)))
  -- 42 where 1 and 2 say yes
  pub number : first_no (compile_front alone (lent_by l p m label publics scratch)) ≡ 0
      → (gate_on p r m label publics scratch).answer.outcome ≡ Err (refusal 42)

-- `vars`: what stood for the count before
module _ (vars : ℕ) (slots : List ℕ) (width quota : ℕ) (queries equations uses : List ℕ) (cs : List SharedCall) where
  -- nothing is opened
  abbrev pub none_opened : SharedState
  none_opened = record { allocator = record { vars = vars; opened = 0 }; slots = slots; owns = [] }

  -- the first opening
  abbrev pub opening : SharedCall
  opening = Open width quota queries equations uses

  -- what it leaves
  abbrev pub shared_begin : SharedState
  shared_begin = shared_after none_opened opening

  -- and its ledger
  abbrev pub begin_ledger : SharedLedger
  begin_ledger = shared_noted first_shared opening (shared_answer none_opened opening)

  -- what the calls leave
  abbrev pub shared_last : SharedState
  shared_last = shared_final shared_begin cs

  -- the ledger at that place, fed the calls and their answers
  abbrev pub shared_ledger : SharedLedger
  shared_ledger = shared_ledger_of begin_ledger (shared_log shared_begin cs)

  -- demand 3 of this list
  pub record SharedWhole : Type 0 where
    -- (1) along the list
    pub told : AllSharedTold shared_begin begin_ledger cs
    -- the wires
    pub counts : Counted shared_last shared_ledger
    -- the use counts of every relation that is opened
    pub used : (r : ℕ) → r < shared_last.allocator.opened → (handed : OwnState)
        → Used (own_ledger_at shared_ledger r).width (length shared_last.slots) (judged_on shared_ledger (own_ledger_at shared_ledger r))
        (own_at shared_last r handed).uses (own_at shared_last r handed).relation.stray
    -- (2) to (4) of every relation that is opened; `ds`: what goes on between its gate and its write
    pub judged : (r : ℕ) → r < shared_last.allocator.opened → (handed : OwnState) (ds : List SharedCall) → All (Other r) ds
        → Judged (own_ledger_at shared_ledger r).width (lengths_of (seen shared_last (own_at shared_last r handed)))
        (own_at (shared_final shared_last ds) r handed).queries (own_at (shared_final shared_last ds) r handed).equations
        (gate_on shared_last r (own_at shared_last r handed)) (judged_on shared_ledger (own_ledger_at shared_ledger r))
    -- (2) of a number that isn't opened
    pub not_opened : (r : ℕ) → shared_last.allocator.opened ≤ r → (m : OwnState) (label publics scratch : List ℕ)
        → Unopened shared_last shared_ledger r m label publics scratch
