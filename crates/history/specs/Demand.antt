-- What demand 3 asks of an outcome, along a list of calls, and of the check's outcome on parts, beside the ledger.
-- Assumes nothing.
use Rattle.std.specs.Prelude.{ℕ, ◌+◌, ◌≤◌, ◌<◌, ◌≡◌, Bool, true, false, ◌↔◌, List, ◌∷◌, ◌++◌, length, Err, Ok}
use Rattle.std.proofs.Math.Option.{none}
use Rattle.limits.specs.Questions.{first_no}
use Rattle.limits.specs.Outcome.{outcome_of, Outcome, refusal}
use Rattle.words.specs.Store.{All}
use Rattle.words.specs.Pieces.{flat, words_of}
use Rattle.uses.specs.Uses.{UseCounts, sum}
use Rattle.allocator.specs.Values.{Values}
use Rattle.expr.specs.Equation.{Term, Equation}
use Rattle.instance.specs.Parts.{Parts, pair_vars}
use Rattle.validity.specs.Check.{terms_no, equation_no, carried}
use Rattle.history.specs.Along.{Along}
use Rattle.history.specs.Ledger.{Ledger, known}
use Rattle.history.specs.Sat.{Sat}
use Rattle.history.specs.Calls.{Call, Allocate, Set, SetList, Record, Mint, Equate, Tickets, WithdrawQuery, WithdrawEquation, State, lengths_of, asks, answer, after, noted}
use Rattle.history.specs.Left.{left, set_by, fresh_count}

-- ---- outcomes
-- accepted: the outcome says so, and no number alone
abbrev pub Accepted : Outcome → Type 0
Accepted o = o ≡ Ok tt

-- an outcome by the first no of the documents' questions, and by that of those that ledger and sizes leave open: accepted
-- where none says no, else refused with the number
pub record Answers (o : Outcome) (asked left : ℕ) : Type 0 where
  pub by-questions : o ≡ outcome_of asked
  pub by-ledger : o ≡ outcome_of left

-- ---- along the list
-- the calls that answer the number of the first new wire
abbrev pub takes_vars : Call → Bool
takes_vars (Allocate n) = true
takes_vars (Set p) = false
takes_vars (SetList vars values) = false
takes_vars (Record input output) = false
takes_vars (Mint input) = true
takes_vars (Equate terms image) = false
takes_vars (Tickets text) = false
takes_vars (WithdrawQuery i) = false
takes_vars (WithdrawEquation i) = false

-- the calls that add a query
abbrev pub adds_query : Call → Bool
adds_query (Allocate n) = false
adds_query (Set p) = false
adds_query (SetList vars values) = false
adds_query (Record input output) = true
adds_query (Mint input) = true
adds_query (Equate terms image) = false
adds_query (Tickets text) = false
adds_query (WithdrawQuery i) = false
adds_query (WithdrawEquation i) = false

-- one call on a state, beside the ledger as it was before
pub record Told (w : ℕ) (s : State) (l : Ledger) (c : Call) : Type 0 where
  -- it accepts where no question says no, else it refuses with the first
  pub answers : Answers (answer s c).outcome (first_no (asks s c)) (left w (lengths_of s) l c)
  -- it changes the length of no store
  pub lengths : lengths_of (after s c) ≡ lengths_of s
  -- an accepted allocate or mint answers n as it was before
  pub first : takes_vars c ≡ true → Accepted (answer s c).outcome → (answer s c).first ≡ l.count
  -- 11, a count above 2^30, is answered only where the query store has no room either: 11 comes before 10
  pub full : adds_query c ≡ true → (answer s c).outcome ≡ Err (refusal 11)
      → (lengths_of s).queries < words_of w (length l.queries + 1)
  -- as many sets, pairs or lines are accepted as the ledger lets through, after a refusal too
  pub accepted : (answer s c).accepted ≡ length (set_by l c)
  -- and of those as many are fresh as wires are named that no set of the ledger names
  pub fresh : (answer s c).fresh ≡ fresh_count l.count l.sets (set_by l c)

-- call by call
abbrev pub AllTold : ℕ → State → Ledger → List Call → Type 0
AllTold w = Along answer after (noted w) (Told w)

-- ---- use counts
-- each use count and the stray count are those of the cells of the ledger's queries, worked out afresh over so many slots,
-- and they add up to 2w times the queries
pub record Used (w slots : ℕ) (l : Ledger) (uses : List ℕ) (stray : ℕ) : Type 0 where
  pub counts : UseCounts slots (flat l.queries) uses stray
  pub total : sum uses + stray ≡ words_of w (length l.queries)

-- ---- the check
-- accepted, or refused with a number from lo to hi
abbrev pub Among : (lo hi : ℕ) → Outcome → Type 0
Among lo hi (Ok u) = Unit {0}
Among lo hi (Err e) = (lo ≤ e.0) × (e.0 ≤ hi)

-- every public, query and term wire is below the wire count
pub record Below (parts : Parts) : Type 0 where
  pub publics : All (λ x. x < parts.vars) (pair_vars parts.publics)
  pub queries : All (λ x. x < parts.vars) (flat parts.queries)
  pub terms : All (λ e. All (λ t. t.var < parts.vars) e.terms) parts.equations

-- the term at which 34 is answered: its wire carries nothing, and all before it was answered yes
pub data At34 (g : Values) : List Equation → Term → Type 0 where
  in-this : {e : Equation} {es : List Equation} {t : Term} (before after : List Term) → e.terms ≡ before ++ (t ∷ after)
      → terms_no g before ≡ 0 → g t.var ≡ none → At34 g (e ∷ es) t
  later : {e : Equation} {es : List Equation} {t : Term} → equation_no g e ≡ 0 → At34 g es t → At34 g (e ∷ es) t

-- the outcome of the check of a trace on parts, beside the ledger that the parts come from
pub record Checked (Evaluation : List ℕ → Type 0) (ledger : Ledger) (parts : Parts) (trace : List (List ℕ)) (o : Outcome) : Type 0 where
  -- accepted, or 31 to 35: 36 is never answered
  pub among : Among 31 35 o
  pub below : Below parts
  -- 34 is answered only at a term whose wire is not known, and every such term has weight 0
  pub only34 : o ≡ Err (refusal 34)
      → (t : Term) × At34 (carried parts trace) parts.equations t × (known ledger t.var ≡ false)
  pub weightless : All (λ e. All (λ t. known ledger t.var ≡ false → t.weight ≡ 0) e.terms) parts.equations
  -- yes exactly where there is an assignment as demanded
  pub yes : Accepted o ↔ Sat Evaluation ledger trace
