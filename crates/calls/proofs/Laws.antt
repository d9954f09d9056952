-- What the contract of a call's open function says is what the theorem's list has there: one law a call.
-- Assumes nothing.
use Prim.Native.Nat.{ℕ}
use mathlib.Core.Path.{◌≡◌, sym, ap}
use mathlib.Core.List.{List}
use lib.ListN.{length}
use Rattle.permutation.specs.Records.{Recorded, Allocated}
use Rattle.allocator.specs.Slots.{Pair}
use Rattle.std.specs.Prelude.{Result}
use Rattle.limits.specs.declared.Refused.{Refused}
use Rattle.allocator.specs.declared.Set as declared
use Rattle.expr.specs.Weighted.{terms_of}
use Rattle.expr.specs.declared.Weighted.{Weighted}
use Rattle.permutation.specs.Answers.{new_relation, new_slots, new_uses, allocate_vars, allocate_vars_slots, set_var, set_var_slots, set_vars, set_vars_slots}
use Rattle.recording.specs.Answers.{add_permutation, add_permutation_queries, add_permutation_uses, allocate_permutation, allocate_permutation_slots, allocate_permutation_queries, allocate_permutation_uses, add_equation, add_equation_equations}
use Rattle.withdraw.specs.Answers.{withdraw_equation, withdraw_equation_equations, withdraw_query, withdraw_query_queries, withdraw_query_uses}
use Rattle.permutation.specs.declared.PermutationRelation.{PermutationRelation}
use Rattle.permutation.specs.declared.SetVars.{SetVars}
use Rattle.tickets.specs.Tickets.{set_tickets, set_tickets_slots}
use Rattle.tickets.specs.declared.SetTickets.{SetTickets}
use Rattle.history.specs.Calls.{Allocate, Set, SetList, Record, Mint, Equate, Tickets, WithdrawQuery, WithdrawEquation, state, of_outcome, of_first, of_set, of_set_vars, of_set_tickets, answer, after}
use Rattle.calls.specs.Performs.{StartsSlots, OnSlots, OnQueries, OnSlotsQueries, OnEquations}

pub started : (w : ℕ) (slots uses : List ℕ) (r : Recorded) (slots' uses' : List ℕ)
    → r ≡ new_relation w slots uses → slots' ≡ new_slots w slots uses → uses' ≡ new_uses w slots uses → StartsSlots w slots uses r slots' uses'
started w slots uses r slots' uses' e h u queries equations = record {
  answers = ap (λ (x : Recorded). x.outcome) (sym e);
  leaves = λ j. state (sym e j).relation (sym h j) queries equations (sym u j);
}

module _ (rel : PermutationRelation) where
  pub allocated : (slots : List ℕ) (n : ℕ) (r : Allocated) (slots' : List ℕ)
      → r ≡ allocate_vars rel slots n → slots' ≡ allocate_vars_slots rel slots n
      → OnSlots rel slots (Allocate n) (of_first r.first) r.relation slots'
  unfolding answer after
  allocated slots n r slots' e h queries equations uses = record {
    answers = ap (λ (x : Allocated). of_first x.first) (sym e);
    leaves = λ j. state (sym e j).relation (sym h j) queries equations uses;
  }

  pub set : (slots : List ℕ) (p : Pair) (r : Result declared.Set Refused) (slots' : List ℕ) → r ≡ set_var rel slots p → slots' ≡ set_var_slots rel slots p
      → OnSlots rel slots (Set p) (of_set r) rel slots'
  unfolding answer after
  set slots p r slots' e h queries equations uses = record {
    answers = ap of_set (sym e);
    leaves = λ j. state rel (sym h j) queries equations uses;
  }

  pub listed : (slots vars values : List ℕ) (r : SetVars) (slots' : List ℕ)
      → r ≡ set_vars rel slots vars values → slots' ≡ set_vars_slots rel slots vars values
      → OnSlots rel slots (SetList vars values) (of_set_vars r) rel slots'
  unfolding answer after
  listed slots vars values r slots' e h queries equations uses = record {
    answers = ap of_set_vars (sym e);
    leaves = λ j. state rel (sym h j) queries equations uses;
  }

  pub ticketed : (slots text : List ℕ) (r : SetTickets) (slots' : List ℕ)
      → r ≡ set_tickets rel slots text → slots' ≡ set_tickets_slots rel slots text
      → OnSlots rel slots (Tickets text) (of_set_tickets r) rel slots'
  unfolding answer after
  ticketed slots text r slots' e h queries equations uses = record {
    answers = ap of_set_tickets (sym e);
    leaves = λ j. state rel (sym h j) queries equations uses;
  }

  pub recorded : (slots queries uses input output : List ℕ) (r : Recorded) (queries' uses' : List ℕ)
      → r ≡ add_permutation rel (length slots) queries uses input output
      → queries' ≡ add_permutation_queries rel (length slots) queries uses input output
      → uses' ≡ add_permutation_uses rel (length slots) queries uses input output
      → OnQueries rel slots queries uses (Record input output) (of_outcome r.outcome) r.relation queries' uses'
  unfolding answer after
  recorded slots queries uses input output r queries' uses' e h u equations = record {
    answers = ap (λ (x : Recorded). of_outcome x.outcome) (sym e);
    leaves = λ j. state (sym e j).relation slots (sym h j) equations (sym u j);
  }

  pub minted : (slots queries uses input : List ℕ) (r : Allocated) (slots' queries' uses' : List ℕ)
      → r ≡ allocate_permutation rel slots queries uses input
      → slots' ≡ allocate_permutation_slots rel slots queries uses input
      → queries' ≡ allocate_permutation_queries rel slots queries uses input
      → uses' ≡ allocate_permutation_uses rel slots queries uses input
      → OnSlotsQueries rel slots queries uses (Mint input) (of_first r.first) r.relation slots' queries' uses'
  unfolding answer after
  minted slots queries uses input r slots' queries' uses' e h k u equations = record {
    answers = ap (λ (x : Allocated). of_first x.first) (sym e);
    leaves = λ j. state (sym e j).relation (sym h j) (sym k j) equations (sym u j);
  }

  pub query-withdrawn : (slots queries uses : List ℕ) (i : ℕ) (r : Recorded) (queries' uses' : List ℕ)
      → r ≡ withdraw_query rel (length slots) queries uses i
      → queries' ≡ withdraw_query_queries rel (length slots) queries uses i
      → uses' ≡ withdraw_query_uses rel (length slots) queries uses i
      → OnQueries rel slots queries uses (WithdrawQuery i) (of_outcome r.outcome) r.relation queries' uses'
  unfolding answer after
  query-withdrawn slots queries uses i r queries' uses' e h u equations = record {
    answers = ap (λ (x : Recorded). of_outcome x.outcome) (sym e);
    leaves = λ j. state (sym e j).relation slots (sym h j) equations (sym u j);
  }

  pub equation-withdrawn : (equations : List ℕ) (i : ℕ) (r : Recorded) (equations' : List ℕ)
      → r ≡ withdraw_equation rel equations i → equations' ≡ withdraw_equation_equations rel equations i
      → OnEquations rel equations (WithdrawEquation i) (of_outcome r.outcome) r.relation equations'
  unfolding answer after
  equation-withdrawn equations i r equations' e h slots queries uses = record {
    answers = ap (λ (x : Recorded). of_outcome x.outcome) (sym e);
    leaves = λ j. state (sym e j).relation slots queries (sym h j) uses;
  }

  pub equated : (equations : List ℕ) (terms : List Weighted) (image : ℕ) (r : Recorded) (equations' : List ℕ)
      → r ≡ add_equation rel equations (terms_of terms) image → equations' ≡ add_equation_equations rel equations (terms_of terms) image
      → OnEquations rel equations (Equate terms image) (of_outcome r.outcome) r.relation equations'
  unfolding answer after
  equated equations terms image r equations' e h slots queries uses = record {
    answers = ap (λ (x : Recorded). of_outcome x.outcome) (sym e);
    leaves = λ j. state (sym e j).relation slots queries (sym h j) uses;
  }
