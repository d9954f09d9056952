-- Along a list of calls: each answers by the first no of its questions, which is the first no of those that
-- ledger and lengths leave; an accepted allocate or mint answers the ledger's count; 11 of a count is answered only where
-- the query store is full; and as many sets are accepted, and as many of those fresh, as the ledger says. Assumes nothing.
use Prim.Native.Nat.{ℕ, zero, suc, ◌+◌, ◌<◌}
use mathlib.Core.Path.{◌≡◌, refl, sym, ap, subst, ◌∙◌}
use mathlib.Core.Bool.{Bool, true, false}
use mathlib.Core.List.{List, [], ◌∷◌}
use native.Mathlib.Omega.{arith}
use lib.ListN.{length}
use Rattle.std.specs.Prelude.{Err, Ok}
use Rattle.permutation.specs.Records.{First}
use Rattle.limits.specs.Questions.{Question, pick, first_no, on_yes}
use Rattle.allocator.specs.Slots.{Pair, is_fresh, pair_asks, pair_no, ran, one_accepted, set_items}
use Rattle.allocator.specs.Assign.{set_of}
use Rattle.expr.specs.Weighted.{terms_of}
use Rattle.permutation.specs.declared.PermutationRelation.{PermutationRelation}
use Rattle.permutation.specs.Sharing.{after_five, nothing}
use Rattle.permutation.specs.Numbers.{allocate_vars_no, set_var_no}
use Rattle.recording.specs.Numbers.{add_permutation_no, allocate_permutation_no, add_equation_no}
use Rattle.limits.specs.Outcome.{outcome_of, refusal}
use Rattle.words.specs.Pieces.{words_of}
use Rattle.permutation.specs.Relation.{relation_asks}
use Rattle.permutation.specs.Left.{pairs_set}
use Rattle.permutation.specs.Answers.{first_of, first_number, first_var, allocate_vars, set_vars_run}
use Rattle.recording.specs.Answers.{allocate_permutation}
use Rattle.permutation.proofs.Sets.{set_vars-number}
use Rattle.permutation.proofs.Left.{RunLeft, after-left, pairs-left}
use Rattle.recording.proofs.Keeps.{allocate_vars-first, allocate_permutation-first}
use Rattle.recording.proofs.Left.{after-relation, allocate_vars-left, set_var-left, set_vars-left, add_permutation-left, allocate_permutation-left, add_equation-left, add_permutation-eleven, allocate_permutation-eleven}
use Rattle.withdraw.specs.Relation.{withdraw_equation_no, withdraw_query_no}
use Rattle.withdraw.proofs.Left.{withdraw_query-left, withdraw_equation-left}
use Rattle.tickets.specs.Lines.{lines_asks, set_lines}
use Rattle.tickets.specs.Tickets.{set_tickets_run}
use Rattle.tickets.specs.Left.{set_tickets_left, set_tickets_set}
use Rattle.tickets.proofs.Laws.{lines-number, lines_left, set_tickets-number}
use Rattle.history.specs.Ledger.{Ledger}
use Rattle.history.specs.Calls.{Call, Allocate, Set, SetList, Record, Mint, Equate, Tickets, WithdrawQuery, WithdrawEquation, State, lengths_of, asks_with, asks, answer, after, first_outcome, of_set, noted}
use Rattle.history.specs.Left.{left_with, left, set_by}
use Rattle.history.specs.Demand.{Accepted, takes_vars, adds_query, Told, AllTold}
use Rattle.history.proofs.Fresh.{Tallies, no-tallies, run-tallies}
use Rattle.history.proofs.Lengths.{lengths-kept}
use Rattle.history.proofs.Along.{along-told}
use Rattle.history.proofs.Outcomes.{refused-no}
use Rattle.history.proofs.Keeps.{Agrees, keeps}

-- ---- an allocation's outcome
first-outcome : (k v : ℕ) → first_outcome (first_of k v) ≡ outcome_of k
first-outcome zero v = refl
first-outcome (suc k) v = refl

first-no : (f : First) → Accepted (first_outcome f) → first_number f ≡ 0
first-no (Ok x) a = refl
first-no (Err e) a = cc

-- ---- a set's outcome and tallies, by its number and whether it is fresh
set-outcome : (k : ℕ) (fresh : Bool) → (of_set (set_of k fresh)).outcome ≡ outcome_of k
set-outcome zero true = refl
set-outcome zero false = refl
set-outcome (suc k) fresh = refl

set-tallies : (n : ℕ) (sets ps : List Pair) (j k : ℕ) (fresh : Bool) (new old : List ℕ)
    → RunLeft n sets ps j (on_yes k (one_accepted fresh (ran 0 0 0 new)) (ran k 0 0 old)) → Tallies n sets ps (of_set (set_of k fresh))
set-tallies n sets ps j zero true new old l = run-tallies n sets ps j _ l _ refl refl
set-tallies n sets ps j zero false new old l = run-tallies n sets ps j _ l _ refl refl
set-tallies n sets ps j (suc k) fresh new old l = run-tallies n sets ps j _ l _ refl refl

-- each call answers by the first no of its questions
pub by-questions : (s : State) (c : Call) → (answer s c).outcome ≡ outcome_of (first_no (asks s c))
unfolding answer asks_with allocate_vars_no set_var_no add_permutation_no allocate_permutation_no add_equation_no withdraw_query_no withdraw_equation_no
by-questions s (Allocate n) = first-outcome (allocate_vars_no s.relation (length s.slots) n) s.relation.vars
by-questions s (Set p) = set-outcome (set_var_no s.relation s.slots p) (is_fresh s.slots p)
by-questions s (SetList vars values) = ap outcome_of (set_vars-number s.relation s.slots vars values)
by-questions s (Record input output) = refl
by-questions s (Mint input) =
    first-outcome (allocate_permutation_no s.relation (length s.slots) (length s.queries) s.uses input) s.relation.vars
by-questions s (Equate terms image) = refl
by-questions s (Tickets text) = ap outcome_of (set_tickets-number s.relation s.slots text)
by-questions s (WithdrawQuery k) = refl
by-questions s (WithdrawEquation k) = refl

-- ---- a call that adds no query adds none
adds_none : {A : Type 0} → false ≡ true → A
adds_none t = let z : ◌≡◌ {A = ℕ} 1 0 = ap (λ (b : Bool). pick b 0 1) t in absurd (omega (arith, z))

-- ---- what ledger and lengths leave open
module _ (w : ℕ) (s : State) (l : Ledger) (i : Agrees w s l) where
  abbrev rel : PermutationRelation
  rel = s.relation

  -- with what comes after 5
  pub number-left : (within : ℕ → List Question) (c : Call) → first_no (asks_with (after_five within) s c) ≡ left_with within w (lengths_of s) l c
  unfolding asks_with left_with set_var_no add_permutation_no add_equation_no
  number-left within (Allocate n) = allocate_vars-left w _ _ _ _ _ _ _ _ _ i within n
  number-left within (Set p) = set_var-left w _ _ _ _ _ _ _ _ _ i p
  number-left within (SetList vars values) = sym (set_vars-number rel s.slots vars values) ∙ (set_vars-left w _ _ _ _ _ _ _ _ _ i vars values).number
  number-left within (Record input output) = add_permutation-left w _ _ _ _ _ _ _ _ _ i input output
  number-left within (Mint input) = allocate_permutation-left w _ _ _ _ _ _ _ _ _ i within input
  number-left within (Equate terms image) = add_equation-left w _ _ _ _ _ _ _ _ _ i (terms_of terms) image
  number-left within (Tickets text) =
      after-relation w _ _ _ _ _ _ _ _ _ i (lines_asks rel.vars s.slots text)
      ∙ sym (lines-number rel.vars s.slots text)
      ∙ (lines_left rel.vars s.slots l.sets text i.in_slots).number
      ∙ ap (λ (k : ℕ). set_tickets_left k l.sets text) i.count
  number-left within (WithdrawQuery k) = withdraw_query-left w _ _ _ _ _ _ _ _ _ i within k
  number-left within (WithdrawEquation k) = withdraw_equation-left w _ _ _ _ _ _ _ _ _ i within k

  by-ledger : (c : Call) → (answer s c).outcome ≡ outcome_of (left w (lengths_of s) l c)
  by-ledger c = by-questions s c ∙ ap outcome_of (number-left nothing c)

  first-is : (c : Call) → takes_vars c ≡ true → Accepted (answer s c).outcome → (answer s c).first ≡ l.count
  unfolding answer
  first-is (Allocate n) t a = ap first_var (allocate_vars-first w _ _ _ _ _ _ _ _ _ i n (first-no (allocate_vars rel s.slots n).first a))
  first-is (Set p) t a = cc
  first-is (SetList vars values) t a = cc
  first-is (Record input output) t a = cc
  first-is (Mint input) t a = ap first_var (allocate_permutation-first w _ _ _ _ _ _ _ _ _ i input (first-no (allocate_permutation rel s.slots s.queries s.uses input).first a))
  first-is (Equate terms image) t a = cc
  first-is (Tickets text) t a = cc
  first-is (WithdrawQuery k) t a = cc
  first-is (WithdrawEquation k) t a = cc

  -- how many sets are accepted, and how many of those are fresh
  tallies : (c : Call) → Tallies l.count l.sets (set_by l c) (answer s c)
  unfolding answer set_by set_var_no pair_no set_items set_tickets_run
  tallies (Allocate n) = no-tallies l.count l.sets _ refl refl
  tallies (Set p) =
      subst (λ (n : ℕ). Tallies n l.sets (pairs_set n l.sets (p ∷ [])) (answer s (Set p))) i.count
      (subst (λ (k : ℕ). Tallies rel.vars l.sets (pairs_set rel.vars l.sets (p ∷ [])) (of_set (set_of k (is_fresh s.slots p))))
      (sym (after-relation w _ _ _ _ _ _ _ _ _ i (pair_asks rel.vars s.slots p)))
      (set-tallies rel.vars l.sets _ _ (pair_no rel.vars s.slots p) (is_fresh s.slots p) _ _
      (pairs-left rel.vars (p ∷ []) s.slots l.sets i.in_slots)))
  tallies (SetList vars values) =
      run-tallies l.count l.sets _ _ (set_vars_run rel s.slots vars values) (set_vars-left w _ _ _ _ _ _ _ _ _ i vars values) _ refl refl
  tallies (Record input output) = no-tallies l.count l.sets _ refl refl
  tallies (Mint input) = no-tallies l.count l.sets _ refl refl
  tallies (Equate terms image) = no-tallies l.count l.sets _ refl refl
  tallies (Tickets text) =
      subst (λ (n : ℕ). Tallies n l.sets (set_tickets_set n l.sets text) (answer s (Tickets text))) i.count
      (subst (λ (k : ℕ). Tallies rel.vars l.sets (on_yes k (set_tickets_set rel.vars l.sets text) []) (answer s (Tickets text)))
      (after-relation w _ _ _ _ _ _ _ _ _ i [])
      (run-tallies rel.vars l.sets _ _ (set_tickets_run rel s.slots text)
      (after-left rel.vars l.sets _ _ (first_no (relation_asks rel (length s.slots))) (set_lines rel.vars s.slots text) s.slots
      (lines_left rel.vars s.slots l.sets text i.in_slots)) _ refl refl))
  tallies (WithdrawQuery k) = no-tallies l.count l.sets _ refl refl
  tallies (WithdrawEquation k) = no-tallies l.count l.sets _ refl refl

  -- 11 of a count only where the query store has no room either, with what comes after 5 and doesn't answer 11
  pub full-left : (within : ℕ → List Question) → ((n : ℕ) → first_no (within n) ≡ 11 → ⊥) → (c : Call) → adds_query c ≡ true
      → left_with within w (lengths_of s) l c ≡ 11 → (lengths_of s).queries < words_of w (length l.queries + 1)
  unfolding left_with
  full-left within other (Allocate n) t e = adds_none t
  full-left within other (Set p) t e = adds_none t
  full-left within other (SetList vars values) t e = adds_none t
  full-left within other (Record input output) t e = add_permutation-eleven w _ _ _ _ _ _ _ _ _ i (length s.queries) input output e
  full-left within other (Mint input) t e =
      allocate_permutation-eleven w _ _ _ _ _ _ _ _ _ i (within w) (other w) (length s.queries) input e
  full-left within other (Equate terms image) t e = adds_none t
  full-left within other (Tickets text) t e = adds_none t
  full-left within other (WithdrawQuery k) t e = adds_none t
  full-left within other (WithdrawEquation k) t e = adds_none t

  pub told : (c : Call) → Told w s l c
  told c = record {
    answers = record { by-questions = by-questions s c; by-ledger = by-ledger c };
    lengths = lengths-kept s c;
    first = first-is c;
    full = λ t e. full-left nothing (λ n z. absurd (omega (arith, z))) c t (refused-no _ 11 (sym (by-ledger c) ∙ e));
    accepted = (tallies c).accepted;
    fresh = (tallies c).fresh;
  }

-- every list of calls
pub told-all : (w : ℕ) (cs : List Call) (s : State) (l : Ledger) → Agrees w s l → AllTold w s l cs
told-all w = along-told answer after (noted w) (Agrees w) (λ c s l i. keeps w s l i c) (Told w) (λ c s l i. told w s l i c)
