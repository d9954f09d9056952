-- Calls on a relation in any order: what each answers and leaves, by the definitions that the open functions'
-- contracts cite; and the ledger, which is fed each call and its answer. Assumes nothing.
use Rattle.permutation.specs.Records.{First}
use Rattle.std.specs.Prelude.{ℕ, ◌+◌, List, [], ◌∷◌, ◌++◌, map, length, take, Result, Ok, Err}
use Rattle.limits.specs.Questions.{Question, pick}
use Rattle.limits.specs.Outcome.{is_accepted, Outcome}
use Rattle.limits.specs.declared.Refused.{Refused}
use Rattle.allocator.specs.Slots.{Pair, pair, pairs}
use Rattle.allocator.specs.Values.{joins}
use Rattle.allocator.specs.declared.Set as declared
use Rattle.allocator.specs.declared.Set.TheVariants as set
use Rattle.expr.specs.Equation.{Equation, equation}
use Rattle.expr.specs.Weighted.{terms_of}
use Rattle.expr.specs.declared.Weighted.{Weighted}
use Rattle.permutation.specs.Sharing.{Sharing, alone}
use Rattle.permutation.specs.Relation.{relation_front, allocate_vars_front, allocate_vars_asks_with, set_var_asks_with, set_vars_front, set_vars_asks_with}
use Rattle.recording.specs.Relation.{add_permutation_front, add_permutation_asks_with, allocate_permutation_front, up_from, allocate_permutation_asks_with, add_equation_front, add_equation_asks_with}
use Rattle.permutation.specs.Answers.{first_var, new_relation, new_slots, new_uses, allocate_vars, allocate_vars_slots, set_var, set_var_slots, set_vars, set_vars_slots}
use Rattle.recording.specs.Answers.{add_permutation, add_permutation_queries, add_permutation_uses, allocate_permutation, allocate_permutation_slots, allocate_permutation_queries, allocate_permutation_uses, add_equation, add_equation_equations}
use Rattle.strike.specs.Strike.{without}
use Rattle.withdraw.specs.Relation.{withdraw_equation_asks_with, withdraw_query_front, withdraw_query_asks_with}
use Rattle.withdraw.specs.Answers.{withdraw_equation, withdraw_equation_equations, withdraw_query, withdraw_query_queries, withdraw_query_uses}
use Rattle.permutation.specs.declared.PermutationRelation.{PermutationRelation}
use Rattle.permutation.specs.declared.SetVars.{SetVars}
use Rattle.tickets.specs.Lines.{lines_of, line_pair}
use Rattle.tickets.specs.Tickets.{set_tickets_asks_with, set_tickets, set_tickets_slots}
use Rattle.tickets.specs.declared.SetTickets.{SetTickets}
use Rattle.history.specs.Along.{Logged, log_by, left_by, ledger_by}
use Rattle.history.specs.Ledger.{Ledger}

-- the calls of document 01's list: allocate, set, set list, record, mint, equation; and 02's tickets (R-1), and a query
-- or an equation withdrawn by its number (R-6)
pub data Call : Type 0 where
  Allocate : ℕ → Call
  Set : Pair → Call
  SetList : (vars values : List ℕ) → Call
  Record : (input output : List ℕ) → Call
  Mint : (input : List ℕ) → Call
  Equate : (terms : List Weighted) (image : ℕ) → Call
  Tickets : (text : List ℕ) → Call
  WithdrawQuery : (i : ℕ) → Call
  WithdrawEquation : (i : ℕ) → Call

-- the relation's record, and the words of its stores
pub record State : Type 0 where
  pub relation : PermutationRelation
  pub slots : List ℕ
  pub queries : List ℕ
  pub equations : List ℕ
  pub uses : List ℕ

-- this record and these stores
abbrev pub state : PermutationRelation → (slots queries equations uses : List ℕ) → State
state relation slots queries equations uses =
    record { relation = relation; slots = slots; queries = queries; equations = equations; uses = uses }

-- the lengths of the four stores; no call changes them
pub record Lengths : Type 0 where
  pub slots : ℕ
  pub queries : ℕ
  pub equations : ℕ
  pub uses : ℕ

-- those of a state
abbrev pub lengths_of : State → Lengths
lengths_of s =
    record {
      slots = length s.slots;
      queries = length s.queries;
      equations = length s.equations;
      uses = length s.uses;
    }

-- ---- questions in order; a call answers the first that says no
-- of each call, on the state that it gets, with what sharing puts in
unfoldable pub asks_with : Sharing → State → Call → List Question
asks_with h s (Allocate n) = allocate_vars_asks_with h s.relation (length s.slots) n
asks_with h s (Set p) = set_var_asks_with h s.relation s.slots p
asks_with h s (SetList vars values) = set_vars_asks_with h s.relation s.slots vars values
asks_with h s (Record input output) =
    add_permutation_asks_with h s.relation (length s.slots) (length s.queries) s.uses input output
asks_with h s (Mint input) =
    allocate_permutation_asks_with h s.relation (length s.slots) (length s.queries) s.uses input
asks_with h s (Equate terms image) = add_equation_asks_with h s.relation (length s.equations) (terms_of terms) image
asks_with h s (Tickets text) = set_tickets_asks_with h s.relation s.slots text
asks_with h s (WithdrawQuery i) = withdraw_query_asks_with h s.relation (length s.slots) s.queries s.uses i
asks_with h s (WithdrawEquation i) = withdraw_equation_asks_with h s.relation s.equations i

-- of a relation alone
abbrev pub asks : State → Call → List Question
asks = asks_with alone

-- the beginning of that list, up to the last question that sharing puts in: by the record and the lengths alone
unfoldable pub front_asks : Sharing → PermutationRelation → Lengths → Call → List Question
front_asks h rel lengths (Allocate n) = allocate_vars_front h rel lengths.slots n
front_asks h rel lengths (Set p) = relation_front h rel lengths.slots
front_asks h rel lengths (SetList vars values) = set_vars_front h rel lengths.slots vars values
front_asks h rel lengths (Record input output) =
    add_permutation_front h rel lengths.slots lengths.queries lengths.uses input output
front_asks h rel lengths (Mint input) =
    allocate_permutation_front h rel lengths.slots lengths.queries lengths.uses input
front_asks h rel lengths (Equate terms image) = add_equation_front h rel lengths.equations
front_asks h rel lengths (Tickets text) = relation_front h rel lengths.slots
front_asks h rel lengths (WithdrawQuery i) = withdraw_query_front h rel lengths.slots lengths.queries lengths.uses
front_asks h rel lengths (WithdrawEquation i) = add_equation_front h rel lengths.equations

-- ---- answers: accepted or refused with the documents' number, the first new wire, how many sets, pairs or lines were
-- accepted, and how many of those were fresh; where a call has no such value it is 0
pub record Answer : Type 0 where
  pub outcome : Outcome
  pub first : ℕ
  pub accepted : ℕ
  pub fresh : ℕ

-- by an answer: the first where it is accepted, else the second
abbrev pub on_accepted : {A : Type 0} → Answer → A → A → A
on_accepted a new old = pick (is_accepted a.outcome) new old

-- each enum's outcome and values
abbrev pub of_outcome : Outcome → Answer
of_outcome o = record { outcome = o; first = 0; accepted = 0; fresh = 0 }

-- an allocation is accepted where it answers a wire
abbrev pub first_outcome : First → Outcome
first_outcome (Ok x) = Ok tt
first_outcome (Err e) = Err e

-- an allocation's answer: the outcome and the first new wire
abbrev pub of_first : First → Answer
of_first f = record { outcome = first_outcome f; first = first_var f; accepted = 0; fresh = 0 }

-- a set's answer: one is accepted, fresh or repeated, or none
abbrev pub of_set : Result declared.Set Refused → Answer
of_set (Ok set.Fresh) = record { outcome = Ok tt; first = 0; accepted = 1; fresh = 1 }
of_set (Ok set.Repeated) = record { outcome = Ok tt; first = 0; accepted = 1; fresh = 0 }
of_set (Err e) = record { outcome = Err e; first = 0; accepted = 0; fresh = 0 }

-- a set list's answer: the outcome, how many pairs were accepted, and how many of those were fresh
abbrev pub of_set_vars : SetVars → Answer
of_set_vars r = record { outcome = r.outcome; first = 0; accepted = r.accepted; fresh = r.fresh }

-- a ticket call's answer: the outcome, how many lines were accepted, and how many of those were fresh
abbrev pub of_set_tickets : SetTickets → Answer
of_set_tickets r = record { outcome = r.outcome; first = 0; accepted = r.accepted; fresh = r.fresh }

-- what each call answers on the state that it gets
unfoldable pub answer : State → Call → Answer
answer s (Allocate n) = of_first (allocate_vars s.relation s.slots n).first
answer s (Set p) = of_set (set_var s.relation s.slots p)
answer s (SetList vars values) = of_set_vars (set_vars s.relation s.slots vars values)
answer s (Record input output) =
    of_outcome (add_permutation s.relation (length s.slots) s.queries s.uses input output).outcome
answer s (Mint input) = of_first (allocate_permutation s.relation s.slots s.queries s.uses input).first
answer s (Equate terms image) = of_outcome (add_equation s.relation s.equations (terms_of terms) image).outcome
answer s (Tickets text) = of_set_tickets (set_tickets s.relation s.slots text)
answer s (WithdrawQuery i) =
    of_outcome (withdraw_query s.relation (length s.slots) s.queries s.uses i).outcome
answer s (WithdrawEquation i) = of_outcome (withdraw_equation s.relation s.equations i).outcome

-- ---- what a call leaves
-- the record and the stores after each call
unfoldable pub after : State → Call → State
after s (Allocate n) =
    state (allocate_vars s.relation s.slots n).relation (allocate_vars_slots s.relation s.slots n)
    s.queries s.equations s.uses
after s (Set p) = state s.relation (set_var_slots s.relation s.slots p) s.queries s.equations s.uses
after s (SetList vars values) =
    state s.relation (set_vars_slots s.relation s.slots vars values) s.queries s.equations s.uses
after s (Record input output) =
    state (add_permutation s.relation (length s.slots) s.queries s.uses input output).relation s.slots
    (add_permutation_queries s.relation (length s.slots) s.queries s.uses input output) s.equations
    (add_permutation_uses s.relation (length s.slots) s.queries s.uses input output)
after s (Mint input) =
    state (allocate_permutation s.relation s.slots s.queries s.uses input).relation
    (allocate_permutation_slots s.relation s.slots s.queries s.uses input)
    (allocate_permutation_queries s.relation s.slots s.queries s.uses input) s.equations
    (allocate_permutation_uses s.relation s.slots s.queries s.uses input)
after s (Equate terms image) =
    state (add_equation s.relation s.equations (terms_of terms) image).relation s.slots s.queries
    (add_equation_equations s.relation s.equations (terms_of terms) image) s.uses
after s (Tickets text) =
    state s.relation (set_tickets_slots s.relation s.slots text) s.queries s.equations s.uses
after s (WithdrawQuery i) =
    state (withdraw_query s.relation (length s.slots) s.queries s.uses i).relation s.slots
    (withdraw_query_queries s.relation (length s.slots) s.queries s.uses i) s.equations
    (withdraw_query_uses s.relation (length s.slots) s.queries s.uses i)
after s (WithdrawEquation i) =
    state (withdraw_equation s.relation s.equations i).relation s.slots s.queries
    (withdraw_equation_equations s.relation s.equations i) s.uses

-- what fresh of width w leaves, whatever else lies in the stores
abbrev pub fresh : ℕ → (slots queries equations uses : List ℕ) → State
fresh w slots queries equations uses =
    state (new_relation w slots uses).relation (new_slots w slots uses) queries equations (new_uses w slots uses)

-- ---- the ledger
-- the ledger of this count, these sets, queries and equations
abbrev pub ledger : ℕ → List Pair → List (List ℕ) → List Equation → Ledger
ledger count sets queries equations =
    record { count = count; sets = sets; queries = queries; equations = equations }

-- at first one wire, which is set to 0
abbrev pub first_ledger : Ledger
first_ledger = ledger 1 (pair 0 0 ∷ []) [] []

-- what a call and its answer make of the ledger, at the width given to fresh: a refused call alters nothing, but of
-- a set list as many of the first pairs join as were accepted, and of a ticket text as many of the first lines, each
-- with the pair that it spells; an accepted withdrawal strikes its item
unfoldable pub noted : ℕ → Ledger → Call → Answer → Ledger
noted w l (Allocate n) a = on_accepted a (ledger (l.count + n) l.sets l.queries l.equations) l
noted w l (Set p) a = on_accepted a (ledger l.count (p ∷ l.sets) l.queries l.equations) l
noted w l (SetList vars values) a =
    ledger l.count (joins l.sets (take a.accepted (pairs vars values))) l.queries l.equations
noted w l (Record input output) a =
    on_accepted a (ledger l.count l.sets (l.queries ++ ((input ++ output) ∷ [])) l.equations) l
noted w l (Mint input) a =
    on_accepted a (ledger (l.count + w) l.sets (l.queries ++ ((input ++ up_from l.count w) ∷ [])) l.equations) l
noted w l (Equate terms image) a =
    on_accepted a (ledger l.count l.sets l.queries (l.equations ++ (equation (terms_of terms) image ∷ []))) l
noted w l (Tickets text) a =
    ledger l.count (joins l.sets (map line_pair (take a.accepted (lines_of text)))) l.queries l.equations
noted w l (WithdrawQuery i) a = on_accepted a (ledger l.count l.sets (without i l.queries) l.equations) l
noted w l (WithdrawEquation i) a = on_accepted a (ledger l.count l.sets l.queries (without i l.equations)) l

-- ---- a list of calls: what was called and answered, what is left at the end, and the ledger of it
-- one call, and what it was answered
abbrev pub Entry : Type 0
Entry = Logged Call Answer

-- the calls in order, each with its answer on the state that the calls before it left
abbrev pub log : State → List Call → List Entry
log = log_by answer after

-- what is left after every call, each on what the last one left
abbrev pub final : State → List Call → State
final = left_by after

-- the ledger after all entries, from calls and answers alone
abbrev pub ledger_of : ℕ → Ledger → List Entry → Ledger
ledger_of w = ledger_by (noted w)
