-- Each call keeps record and stores in step with the ledger, so every list of calls does: what the ledger notes
-- of a call and its answer is what the relation's own laws say of it. Assumes nothing.
use Prim.Native.Nat.{ℕ, zero, suc}
use mathlib.Core.Path.{◌≡◌, refl, subst}
use mathlib.Core.Bool.{Bool, true, false}
use mathlib.Core.List.{List}
use lib.ListN.{length}
use Rattle.limits.specs.Questions.{pick, on_yes}
use Rattle.limits.specs.Outcome.{outcome_of, outcome_number, is_accepted}
use Rattle.allocator.specs.Slots.{is_fresh}
use Rattle.allocator.specs.Assign.{set_of}
use Rattle.expr.specs.Weighted.{terms_of}
use Rattle.permutation.specs.Answers.{first_of, first_number, new_relation}
use Rattle.permutation.specs.Numbers.{allocate_vars_no, set_var_no}
use Rattle.recording.specs.Numbers.{add_permutation_no, allocate_permutation_no, add_equation_no}
use Rattle.recording.specs.State.{Holds}
use Rattle.permutation.specs.declared.PermutationRelation.{PermutationRelation}
use Rattle.recording.proofs.Keeps.{new-holds, with-slots, allocate_vars-keeps, set_var-keeps, set_vars-keeps, add_permutation-keeps, allocate_permutation-keeps, add_equation-keeps}
use Rattle.withdraw.specs.Relation.{withdraw_equation_no, withdraw_query_no}
use Rattle.withdraw.proofs.Keeps.{withdraw_query-keeps, withdraw_equation-keeps}
use Rattle.tickets.proofs.Laws.{set_tickets-holds}
use Rattle.tickets.specs.Tickets.{set_tickets_slots}
use Rattle.history.proofs.Along.{along-kept}
use Rattle.history.proofs.Lengths.{lengths-kept}
use Rattle.history.specs.Ledger.{Ledger}
use Rattle.history.specs.Calls.{Call, Allocate, Set, SetList, Record, Mint, Equate, Tickets, WithdrawQuery, WithdrawEquation, State, answer, after, fresh, first_outcome, of_set, ledger, first_ledger, noted, log, final, ledger_of}

-- record and stores hold what the ledger says, at the width given to fresh
abbrev pub Agrees : ℕ → State → Ledger → Type 0
Agrees w s l =
    Holds w s.relation s.slots s.queries s.equations s.uses l.count l.sets l.queries l.equations

pub fresh-agrees : (w : ℕ) (slots queries equations uses : List ℕ) → outcome_number (new_relation w slots uses).outcome ≡ 0
    → Agrees w (fresh w slots queries equations uses) first_ledger
fresh-agrees w slots queries equations uses z = new-holds w slots queries equations uses z

-- ---- a ledger by the parts that a number changes, and whole by the outcome that the number makes
on-outcome : (k : ℕ) {A : Type 0} (f : A → Ledger) (new old : A)
    → f (on_yes (outcome_number (outcome_of k)) new old) ≡ pick (is_accepted (outcome_of k)) (f new) (f old)
on-outcome zero f new old = refl
on-outcome (suc k) f new old = refl

-- by the answer to one set, fresh or not
on-set : (k : ℕ) (fresh : Bool) {A : Type 0} (f : A → Ledger) (new old : A)
    → f (on_yes k new old) ≡ pick (is_accepted (of_set (set_of k fresh)).outcome) (f new) (f old)
on-set zero true f new old = refl
on-set zero false f new old = refl
on-set (suc k) fresh f new old = refl

on-first : (k v : ℕ) {A : Type 0} (f : A → Ledger) (new old : A)
    → f (on_yes (first_number (first_of k v)) new old) ≡ pick (is_accepted (first_outcome (first_of k v))) (f new) (f old)
on-first zero v f new old = refl
on-first (suc k) v f new old = refl

-- two parts
on_both : (k v : ℕ) {A B : Type 0} (f : A → B → Ledger) (new old : A) (more less : B)
    → f (on_yes (first_number (first_of k v)) new old) (on_yes (first_number (first_of k v)) more less)
    ≡ pick (is_accepted (first_outcome (first_of k v))) (f new more) (f old less)
on_both zero v f new old more less = refl
on_both (suc k) v f new old more less = refl

-- a ticket text leaves as many slots
tickets-length : (s : State) (text : List ℕ) → length (set_tickets_slots s.relation s.slots text) ≡ length s.slots
unfolding after
tickets-length s text = λ j. (lengths-kept s (Tickets text) j).slots

module _ (w : ℕ) (s : State) (l : Ledger) (i : Agrees w s l) where
  abbrev rel : PermutationRelation
  rel = s.relation

  pub keeps : (c : Call) → Agrees w (after s c) (noted w l c (answer s c))
  unfolding after noted answer
  keeps (Allocate n) =
      subst (Agrees w (after s (Allocate n)))
      (on-first (allocate_vars_no rel (length s.slots) n) rel.vars (λ m. ledger m l.sets l.queries l.equations) _ _)
      (allocate_vars-keeps w _ _ _ _ _ _ _ _ _ i n)
  keeps (Set p) =
      subst (Agrees w (after s (Set p)))
      (on-set (set_var_no rel s.slots p) (is_fresh s.slots p) (λ m. ledger l.count m l.queries l.equations) _ _)
      (set_var-keeps w _ _ _ _ _ _ _ _ _ i p)
  keeps (SetList vars values) = set_vars-keeps w _ _ _ _ _ _ _ _ _ i vars values
  keeps (Record input output) =
      subst (Agrees w (after s (Record input output)))
      (on-outcome (add_permutation_no rel (length s.slots) (length s.queries) s.uses input output) (λ m. ledger l.count l.sets m l.equations) _ _)
      (add_permutation-keeps w _ _ _ _ _ _ _ _ _ i input output)
  keeps (Mint input) =
      subst (Agrees w (after s (Mint input)))
      (on_both (allocate_permutation_no rel (length s.slots) (length s.queries) s.uses input) rel.vars
      (λ m q. ledger m l.sets q l.equations) _ _ _ _)
      (allocate_permutation-keeps w _ _ _ _ _ _ _ _ _ i input)
  keeps (Equate terms image) =
      subst (Agrees w (after s (Equate terms image)))
      (on-outcome (add_equation_no rel (length s.equations) (terms_of terms) image) (λ m. ledger l.count l.sets l.queries m) _ _)
      (add_equation-keeps w _ _ _ _ _ _ _ _ _ i (terms_of terms) image)
  keeps (Tickets text) = with-slots w _ _ _ _ _ _ _ _ _ i _ _ (tickets-length s text) (set_tickets-holds rel s.slots text l.sets i.in_slots)
  keeps (WithdrawQuery k) =
      subst (Agrees w (after s (WithdrawQuery k)))
      (on-outcome (withdraw_query_no rel (length s.slots) s.queries s.uses k) (λ m. ledger l.count l.sets m l.equations) _ _)
      (withdraw_query-keeps w _ _ _ _ _ _ _ _ _ i k)
  keeps (WithdrawEquation k) =
      subst (Agrees w (after s (WithdrawEquation k)))
      (on-outcome (withdraw_equation_no rel s.equations k) (λ m. ledger l.count l.sets l.queries m) _ _)
      (withdraw_equation-keeps w _ _ _ _ _ _ _ _ _ i k)

-- every list of calls
pub keeps-all : (w : ℕ) (cs : List Call) (s : State) (l : Ledger) → Agrees w s l → Agrees w (final s cs) (ledger_of w l (log s cs))
keeps-all w = along-kept answer after (noted w) (Agrees w) (λ c s l i. keeps w s l i c)
