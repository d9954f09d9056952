-- What the contract of a call's open function says is what the theorem's list has there: one law a call.
-- Assumes nothing.
use Prim.Native.Nat.{ℕ, zero, suc, ◌+◌}
use mathlib.Core.Path.{◌≡◌, refl, sym, ap, ◌∙◌}
use mathlib.Core.List.{List, [], ◌∷◌, ◌++◌}
use native.Mathlib.Omega.{arith}
use lib.ListN.{length, set}
use Rattle.std.specs.Prelude.{Result, Ok, Err}
use Rattle.limits.specs.declared.Refused.{Refused}
use Rattle.permutation.specs.Records.{Recorded}
use Rattle.limits.specs.Questions.{pick, on_yes}
use Rattle.limits.specs.Outcome.{outcome_of, is_accepted, Outcome, refusal}
use Rattle.allocator.specs.Slots.{Pair, run_after}
use Rattle.allocator.specs.declared.Set as declared
use Rattle.allocator.specs.declared.Set.TheVariants as variants
use Rattle.expr.specs.Weighted.{terms_of}
use Rattle.expr.specs.declared.Weighted.{Weighted}
use Rattle.permutation.specs.Numbers.{allocate_vars_no}
use Rattle.permutation.specs.Answers.{first_of, allocate_vars, allocate_vars_slots, set_var, set_var_slots, set_vars_run, set_vars_of, set_vars}
use Rattle.permutation.specs.declared.PermutationRelation.{PermutationRelation}
use Rattle.permutation.specs.declared.SetVars.{SetVars}
use Rattle.recording.specs.Numbers.{add_permutation_no, allocate_permutation_no, add_equation_no}
use Rattle.recording.specs.Answers.{one_query, one_equation, add_permutation, add_permutation_queries, add_permutation_uses, allocate_permutation, allocate_permutation_slots, allocate_permutation_queries, allocate_permutation_uses, add_equation, add_equation_equations}
use Rattle.withdraw.specs.Relation.{withdraw_equation_no, cells_at, withdraw_query_no}
use Rattle.withdraw.specs.Answers.{size_of, less_equation, withdraw_equation, withdraw_equation_equations, less_query, withdraw_query, withdraw_query_queries, withdraw_query_uses}
use Rattle.tickets.specs.Tickets.{set_tickets_run, set_tickets_of, set_tickets}
use Rattle.tickets.specs.declared.SetTickets.{SetTickets}
use Rattle.sharing.specs.Shares.{on_allocator}
use Rattle.sharing.specs.Opening.{with_allocator_no, with_allocator, with_allocator_slots, with_allocator_uses, new_shared, one_opened}
use Rattle.sharing.specs.Answers.{off_allocator, with_vars, obtained_after, allocated_on, allocated_not, recorded_on, recorded_not}
use Rattle.sharing.specs.declared.VarAllocator.{VarAllocator}
use Rattle.sharing.specs.declared.SharedRelation.{SharedRelation}
use Rattle.sharing.specs.Records.{Opened, AllocatedOn, RecordedOn}
use Rattle.shared_vars.specs.Answers.{relation_on_no, allocate_vars_on_no, set_vars_on_no, allocate_vars_on, allocate_vars_on_slots, set_var_on, set_var_on_slots, set_vars_on_run, set_tickets_on_run}
use Rattle.shared_recording.specs.Answers.{add_permutation_on_no, allocate_permutation_on_no, add_equation_on_no, add_permutation_on, add_permutation_on_queries, add_permutation_on_uses, allocate_permutation_on, allocate_permutation_on_slots, allocate_permutation_on_queries, allocate_permutation_on_uses, add_equation_on, add_equation_on_equations}
use Rattle.shared_withdraw.specs.Answers.{withdraw_equation_on, withdraw_equation_on_equations, withdraw_query_on_no, withdraw_query_on, withdraw_query_on_queries, withdraw_query_on_uses}
use Rattle.history.specs.Calls.{Call, Allocate, Set, SetList, Record, Mint, Equate, Tickets, WithdrawQuery, WithdrawEquation, State, Answer, front_asks, first_outcome, of_outcome, of_first, of_set, of_set_vars, of_set_tickets, answer, after}
use Rattle.shared_history.specs.Calls.{OwnState, seen, taken, front_no, refused_with, acted_on, shared_answer, shared_after}
use Rattle.shared_history.proofs.Lists.{set_same}
use Rattle.shared_calls.specs.Performs.{shared_state, own, OnRelation, Opens}

-- ---- an opening
pub opens : (width quota : ℕ) (x : Opened) (a : VarAllocator) (slots uses slots' uses' : List ℕ)
    → x ≡ with_allocator a width quota slots uses → slots' ≡ with_allocator_slots a width slots uses → uses' ≡ with_allocator_uses a width slots uses
    → Opens width quota x a slots uses slots' uses'
unfolding shared_answer shared_after
opens width quota x a slots uses slots' uses' e h u owns queries equations =
    record {
      answers = ap (λ (y : Opened). record { outcome = y.outcome; first = y.index; accepted = 0; fresh = 0 }) (sym e);
      leaves =
          go (with_allocator_no a width (length slots) (length uses)) (with_allocator_uses a width slots uses)
          ∙ (λ j. shared_state (sym e j).allocator (sym h j)
          (pick (is_accepted (sym e j).outcome) (owns ++ (own (sym e j).relation queries equations (sym u j) ∷ [])) owns));
    }
  where
    go : (k : ℕ) (left : List ℕ) → shared_state (on_yes k (one_opened a) a) (with_allocator_slots a width slots uses)
        (on_yes k (owns ++ (own (on_yes k (new_shared width quota) (new_shared 0 0)) queries equations left ∷ [])) owns)
        ≡ shared_state (on_yes k (one_opened a) a) (with_allocator_slots a width slots uses)
        (pick (is_accepted (outcome_of k)) (owns ++ (own (on_yes k (new_shared width quota) (new_shared 0 0)) queries equations left ∷ [])) owns)
    go zero left = refl
    go (suc k) left = refl

-- ---- a call on relation r, by the number of its front
module _ (r : ℕ) (c : Call) (a : VarAllocator) (m : SharedRelation) (slots queries equations uses : List ℕ) where
  -- as it is on a relation alone
  abbrev seen_as : State
  seen_as = seen (shared_state a slots []) (own m queries equations uses)

  -- what it answers and leaves at front number k
  pub record Parts (k : ℕ) (x : Answer) (a' : VarAllocator) (m' : SharedRelation) (slots' queries' equations' uses' : List ℕ) : Type 0 where
    pub answers : on_yes k (answer seen_as c) (refused_with k) ≡ x
    pub allocator-is : on_yes k (with_vars a (after seen_as c).relation.vars) a ≡ a'
    pub relation-is : on_yes k (off_allocator m (after seen_as c).relation (m.obtained + taken m.width c (answer seen_as c))) m ≡ m'
    pub slots-are : on_yes k (after seen_as c).slots slots ≡ slots'
    pub queries-are : on_yes k (after seen_as c).queries queries ≡ queries'
    pub equations-are : on_yes k (after seen_as c).equations equations ≡ equations'
    pub uses-are : on_yes k (after seen_as c).uses uses ≡ uses'

  -- refused there: nothing changes
  refused-parts : (k : ℕ) → Parts (suc k) (refused_with (suc k)) a m slots queries equations uses
  refused-parts k =
      record { answers = refl; allocator-is = refl; relation-is = refl; slots-are = refl; queries-are = refl; equations-are = refl; uses-are = refl }

  -- that is what the list has, and so whatever is equal to it
  performs : {x y : Answer} {a' a'' : VarAllocator} {m' m'' : SharedRelation} {slots' slots'' queries' queries'' equations' equations'' uses' uses'' : List ℕ}
      → Parts (front_no (shared_state a slots []) r (own m queries equations uses) c) x a' m' slots' queries' equations' uses'
      → x ≡ y → a' ≡ a'' → m' ≡ m'' → slots' ≡ slots'' → queries' ≡ queries'' → equations' ≡ equations'' → uses' ≡ uses''
      → OnRelation r c y a m slots queries equations uses a'' m'' slots'' queries'' equations'' uses''
  unfolding shared_answer shared_after front_no
  performs t ex ea em es eq ee eu owns handed q =
      let p = shared_state a slots owns in
      record {
        answers = ap (λ (y : OwnState). on_yes (front_no p r y c) (answer (seen p y) c) (refused_with (front_no p r y c))) q ∙ t.answers ∙ ex;
        leaves =
            ap (λ (y : OwnState). on_yes (front_no p r y c) (acted_on p r y c) p) q
            ∙ go (front_no p r (own m queries equations uses) c)
            ∙ (λ j. shared_state ((t.allocator-is ∙ ea) j) ((t.slots-are ∙ es) j)
            (set owns r (own ((t.relation-is ∙ em) j) ((t.queries-are ∙ eq) j) ((t.equations-are ∙ ee) j) ((t.uses-are ∙ eu) j))));
      }
    where
      go : (k : ℕ) → on_yes k (acted_on (shared_state a slots owns) r (own m queries equations uses) c) (shared_state a slots owns)
          ≡ shared_state (on_yes k (with_vars a (after seen_as c).relation.vars) a) (on_yes k (after seen_as c).slots slots)
          (set owns r
          (own (on_yes k (off_allocator m (after seen_as c).relation (m.obtained + taken m.width c (answer seen_as c))) m)
          (on_yes k (after seen_as c).queries queries) (on_yes k (after seen_as c).equations equations) (on_yes k (after seen_as c).uses uses)))
      go zero = refl
      go (suc k) = λ j. shared_state a slots ((sym (set_same owns r handed) ∙ ap (set owns r) q) j)

-- ---- wires obtained
-- of a call that asks for none
none-taken : (o : Outcome) (b : ℕ) → b + pick (is_accepted o) 0 0 ≡ b
none-taken (Ok tt) b = omega arith
none-taken (Err e) b = omega arith

-- of one that does, by the number of the call alone
taken_is : (k v b n : ℕ) → b + pick (is_accepted (first_outcome (first_of k v))) n 0 ≡ obtained_after (first_of k v) (b + n) b
taken_is zero v b n = refl
taken_is (suc k) v b n = omega arith

-- what keeps the wire count, at either number
same-vars : (k : ℕ) (x y : PermutationRelation) → x.vars ≡ y.vars → (on_yes k x y).vars ≡ y.vars
same-vars zero x y e = e
same-vars (suc k) x y e = refl

-- ---- the calls
module _ (a : VarAllocator) (r : ℕ) (m : SharedRelation) where
  -- the relation as one that has its wires to itself, and back
  abbrev rel : PermutationRelation
  rel = on_allocator a m

  abbrev off : PermutationRelation → ℕ → SharedRelation
  off = off_allocator m

  pub allocated : (slots : List ℕ) (n : ℕ) (x : AllocatedOn) (slots' : List ℕ)
      → x ≡ allocate_vars_on a r m slots n → slots' ≡ allocate_vars_on_slots a r m slots n → (queries equations uses : List ℕ)
      → OnRelation r (Allocate n) (of_first x.first) a m slots queries equations uses x.allocator x.relation slots' queries equations uses
  unfolding answer after front_no front_asks allocate_vars_on_no
  allocated slots n x slots' e h queries equations uses =
      performs r (Allocate n) a m slots queries equations uses (go (allocate_vars_on_no a r m (length slots) n))
      (ap (λ (y : AllocatedOn). of_first y.first) (sym e)) (ap (λ (y : AllocatedOn). y.allocator) (sym e)) (ap (λ (y : AllocatedOn). y.relation) (sym e))
      (sym h) refl refl refl
    where
      go : (k : ℕ)
          → (let y = on_yes k (allocated_on a m (allocate_vars rel slots n) (m.obtained + n)) (allocated_not a m k) in
          Parts r (Allocate n) a m slots queries equations uses k (of_first y.first) y.allocator y.relation
          (on_yes k (allocate_vars_slots rel slots n) slots) queries equations uses)
      go zero =
          record {
            answers = refl;
            allocator-is = refl;
            relation-is = ap (off (allocate_vars rel slots n).relation) (taken_is (allocate_vars_no rel (length slots) n) a.vars m.obtained n);
            slots-are = refl;
            queries-are = refl;
            equations-are = refl;
            uses-are = refl;
          }
      go (suc k) = refused-parts r (Allocate n) a m slots queries equations uses k

  pub set_is : (slots : List ℕ) (p : Pair) (x : Result declared.Set Refused) (slots' : List ℕ)
      → x ≡ set_var_on a r m slots p → slots' ≡ set_var_on_slots a r m slots p → (queries equations uses : List ℕ)
      → OnRelation r (Set p) (of_set x) a m slots queries equations uses a m slots' queries equations uses
  unfolding answer after front_no front_asks relation_on_no
  set_is slots p x slots' e h queries equations uses =
      performs r (Set p) a m slots queries equations uses (go (relation_on_no a r m (length slots))) (ap of_set (sym e)) refl refl (sym h) refl refl refl
    where
      go : (k : ℕ) → Parts r (Set p) a m slots queries equations uses k (of_set (on_yes k (set_var rel slots p) (Err (refusal k)))) a m
          (on_yes k (set_var_slots rel slots p) slots) queries equations uses
      go zero =
          record {
            answers = refl;
            allocator-is = refl;
            relation-is = ap (off rel) (none-taken (of_set (set_var rel slots p)).outcome m.obtained);
            slots-are = refl;
            queries-are = refl;
            equations-are = refl;
            uses-are = refl;
          }
      go (suc k) = refused-parts r (Set p) a m slots queries equations uses k

  pub listed : (slots vars values : List ℕ) (x : SetVars) (slots' : List ℕ)
      → x ≡ set_vars_of (set_vars_on_run a r m slots vars values) → slots' ≡ (set_vars_on_run a r m slots vars values).slots → (queries equations uses : List ℕ)
      → OnRelation r (SetList vars values) (of_set_vars x) a m slots queries equations uses a m slots' queries equations uses
  unfolding answer after front_no front_asks set_vars_on_no set_vars_on_run
  listed slots vars values x slots' e h queries equations uses =
      performs r (SetList vars values) a m slots queries equations uses (go (set_vars_on_no a r m (length slots) vars values)) (ap of_set_vars (sym e)) refl refl (sym h) refl refl refl
    where
      go : (k : ℕ)
          → (let run = run_after k (set_vars_run rel slots vars values) slots in
          Parts r (SetList vars values) a m slots queries equations uses k (of_set_vars (set_vars_of run)) a m run.slots queries equations uses)
      go zero =
          record {
            answers = refl;
            allocator-is = refl;
            relation-is = ap (off rel) (none-taken (set_vars rel slots vars values).outcome m.obtained);
            slots-are = refl;
            queries-are = refl;
            equations-are = refl;
            uses-are = refl;
          }
      go (suc k) = refused-parts r (SetList vars values) a m slots queries equations uses k

  pub ticketed : (slots text : List ℕ) (x : SetTickets) (slots' : List ℕ)
      → x ≡ set_tickets_of (set_tickets_on_run a r m slots text) → slots' ≡ (set_tickets_on_run a r m slots text).slots → (queries equations uses : List ℕ)
      → OnRelation r (Tickets text) (of_set_tickets x) a m slots queries equations uses a m slots' queries equations uses
  unfolding answer after front_no front_asks relation_on_no set_tickets_on_run
  ticketed slots text x slots' e h queries equations uses =
      performs r (Tickets text) a m slots queries equations uses (go (relation_on_no a r m (length slots))) (ap of_set_tickets (sym e)) refl refl (sym h) refl refl refl
    where
      go : (k : ℕ)
          → (let run = run_after k (set_tickets_run rel slots text) slots in
          Parts r (Tickets text) a m slots queries equations uses k (of_set_tickets (set_tickets_of run)) a m run.slots queries equations uses)
      go zero =
          record {
            answers = refl;
            allocator-is = refl;
            relation-is = ap (off rel) (none-taken (set_tickets rel slots text).outcome m.obtained);
            slots-are = refl;
            queries-are = refl;
            equations-are = refl;
            uses-are = refl;
          }
      go (suc k) = refused-parts r (Tickets text) a m slots queries equations uses k

  pub recorded : (slots queries uses input output : List ℕ) (x : RecordedOn) (queries' uses' : List ℕ)
      → x ≡ add_permutation_on a r m (length slots) queries uses input output
      → queries' ≡ add_permutation_on_queries a r m (length slots) queries uses input output
      → uses' ≡ add_permutation_on_uses a r m (length slots) queries uses input output → (equations : List ℕ)
      → OnRelation r (Record input output) (of_outcome x.outcome) a m slots queries equations uses a x.relation slots queries' equations uses'
  unfolding answer after front_no front_asks add_permutation_on_no
  recorded slots queries uses input output x queries' uses' e h u equations =
      performs r (Record input output) a m slots queries equations uses (go (add_permutation_on_no a r m (length slots) (length queries) (length uses) input output))
      (ap (λ (y : RecordedOn). of_outcome y.outcome) (sym e)) refl (ap (λ (y : RecordedOn). y.relation) (sym e)) refl (sym h) refl (sym u)
    where
      done : Recorded
      done = add_permutation rel (length slots) queries uses input output

      go : (k : ℕ)
          → (let y = on_yes k (recorded_on m done) (recorded_not m k) in
          Parts r (Record input output) a m slots queries equations uses k (of_outcome y.outcome) a y.relation slots
          (on_yes k (add_permutation_queries rel (length slots) queries uses input output) queries) equations
          (on_yes k (add_permutation_uses rel (length slots) queries uses input output) uses))
      go zero =
          record {
            answers = refl;
            allocator-is = ap (with_vars a)
                (same-vars (add_permutation_no rel (length slots) (length queries) uses input output) (one_query rel (length slots) (input ++ output)) rel refl);
            relation-is = ap (off done.relation) (none-taken done.outcome m.obtained);
            slots-are = refl;
            queries-are = refl;
            equations-are = refl;
            uses-are = refl;
          }
      go (suc k) = refused-parts r (Record input output) a m slots queries equations uses k

  pub minted : (slots queries uses input : List ℕ) (x : AllocatedOn) (slots' queries' uses' : List ℕ)
      → x ≡ allocate_permutation_on a r m slots queries uses input
      → slots' ≡ allocate_permutation_on_slots a r m slots queries uses input
      → queries' ≡ allocate_permutation_on_queries a r m slots queries uses input
      → uses' ≡ allocate_permutation_on_uses a r m slots queries uses input → (equations : List ℕ)
      → OnRelation r (Mint input) (of_first x.first) a m slots queries equations uses x.allocator x.relation slots' queries' equations uses'
  unfolding answer after front_no front_asks allocate_permutation_on_no
  minted slots queries uses input x slots' queries' uses' e h i u equations =
      performs r (Mint input) a m slots queries equations uses (go (allocate_permutation_on_no a r m (length slots) (length queries) (length uses) input))
      (ap (λ (y : AllocatedOn). of_first y.first) (sym e)) (ap (λ (y : AllocatedOn). y.allocator) (sym e)) (ap (λ (y : AllocatedOn). y.relation) (sym e))
      (sym h) (sym i) refl (sym u)
    where
      go : (k : ℕ)
          → (let y = on_yes k (allocated_on a m (allocate_permutation rel slots queries uses input) (m.obtained + m.width)) (allocated_not a m k) in
          Parts r (Mint input) a m slots queries equations uses k (of_first y.first) y.allocator y.relation
          (on_yes k (allocate_permutation_slots rel slots queries uses input) slots) (on_yes k (allocate_permutation_queries rel slots queries uses input) queries)
          equations (on_yes k (allocate_permutation_uses rel slots queries uses input) uses))
      go zero =
          record {
            answers = refl;
            allocator-is = refl;
            relation-is = ap (off (allocate_permutation rel slots queries uses input).relation)
                (taken_is (allocate_permutation_no rel (length slots) (length queries) uses input) a.vars m.obtained m.width);
            slots-are = refl;
            queries-are = refl;
            equations-are = refl;
            uses-are = refl;
          }
      go (suc k) = refused-parts r (Mint input) a m slots queries equations uses k

  pub query-withdrawn : (slots queries uses : List ℕ) (i : ℕ) (x : RecordedOn) (queries' uses' : List ℕ)
      → x ≡ withdraw_query_on a r m (length slots) queries uses i
      → queries' ≡ withdraw_query_on_queries a r m (length slots) queries uses i
      → uses' ≡ withdraw_query_on_uses a r m (length slots) queries uses i → (equations : List ℕ)
      → OnRelation r (WithdrawQuery i) (of_outcome x.outcome) a m slots queries equations uses a x.relation slots queries' equations uses'
  unfolding answer after front_no front_asks withdraw_query_on_no
  query-withdrawn slots queries uses i x queries' uses' e h u equations =
      performs r (WithdrawQuery i) a m slots queries equations uses (go (withdraw_query_on_no a r m (length slots) (length queries) (length uses)))
      (ap (λ (y : RecordedOn). of_outcome y.outcome) (sym e)) refl (ap (λ (y : RecordedOn). y.relation) (sym e)) refl (sym h) refl (sym u)
    where
      done : Recorded
      done = withdraw_query rel (length slots) queries uses i

      go : (k : ℕ)
          → (let y = on_yes k (recorded_on m done) (recorded_not m k) in
          Parts r (WithdrawQuery i) a m slots queries equations uses k (of_outcome y.outcome) a y.relation slots
          (on_yes k (withdraw_query_queries rel (length slots) queries uses i) queries) equations
          (on_yes k (withdraw_query_uses rel (length slots) queries uses i) uses))
      go zero =
          record {
            answers = refl;
            allocator-is = ap (with_vars a)
                (same-vars (withdraw_query_no rel (length slots) queries uses i) (less_query rel (length slots) (cells_at rel queries i)) rel refl);
            relation-is = ap (off done.relation) (none-taken done.outcome m.obtained);
            slots-are = refl;
            queries-are = refl;
            equations-are = refl;
            uses-are = refl;
          }
      go (suc k) = refused-parts r (WithdrawQuery i) a m slots queries equations uses k

  pub equation-withdrawn : (equations : List ℕ) (i : ℕ) (x : RecordedOn) (equations' : List ℕ)
      → x ≡ withdraw_equation_on a r m equations i → equations' ≡ withdraw_equation_on_equations a r m equations i → (slots queries uses : List ℕ)
      → OnRelation r (WithdrawEquation i) (of_outcome x.outcome) a m slots queries equations uses a x.relation slots queries equations' uses
  unfolding answer after front_no front_asks add_equation_on_no
  equation-withdrawn equations i x equations' e h slots queries uses =
      performs r (WithdrawEquation i) a m slots queries equations uses (go (add_equation_on_no a r m (length equations)))
      (ap (λ (y : RecordedOn). of_outcome y.outcome) (sym e)) refl (ap (λ (y : RecordedOn). y.relation) (sym e)) refl refl (sym h) refl
    where
      done : Recorded
      done = withdraw_equation rel equations i

      go : (k : ℕ)
          → (let y = on_yes k (recorded_on m done) (recorded_not m k) in
          Parts r (WithdrawEquation i) a m slots queries equations uses k (of_outcome y.outcome) a y.relation slots queries
          (on_yes k (withdraw_equation_equations rel equations i) equations) uses)
      go zero =
          record {
            answers = refl;
            allocator-is = ap (with_vars a)
                (same-vars (withdraw_equation_no rel equations i) (less_equation rel (size_of rel equations i)) rel refl);
            relation-is = ap (off done.relation) (none-taken done.outcome m.obtained);
            slots-are = refl;
            queries-are = refl;
            equations-are = refl;
            uses-are = refl;
          }
      go (suc k) = refused-parts r (WithdrawEquation i) a m slots queries equations uses k

  pub equated : (equations : List ℕ) (terms : List Weighted) (image : ℕ) (x : RecordedOn) (equations' : List ℕ)
      → x ≡ add_equation_on a r m equations (terms_of terms) image → equations' ≡ add_equation_on_equations a r m equations (terms_of terms) image
      → (slots queries uses : List ℕ)
      → OnRelation r (Equate terms image) (of_outcome x.outcome) a m slots queries equations uses a x.relation slots queries equations' uses
  unfolding answer after front_no front_asks add_equation_on_no
  equated equations terms image x equations' e h slots queries uses =
      performs r (Equate terms image) a m slots queries equations uses (go (add_equation_on_no a r m (length equations)))
      (ap (λ (y : RecordedOn). of_outcome y.outcome) (sym e)) refl (ap (λ (y : RecordedOn). y.relation) (sym e)) refl refl (sym h) refl
    where
      go : (k : ℕ)
          → (let y = on_yes k (recorded_on m (add_equation rel equations (terms_of terms) image)) (recorded_not m k) in
          Parts r (Equate terms image) a m slots queries equations uses k (of_outcome y.outcome) a y.relation slots queries
          (on_yes k (add_equation_equations rel equations (terms_of terms) image) equations) uses)
      go zero =
          record {
            answers = refl;
            allocator-is = ap (with_vars a)
                (same-vars (add_equation_no rel (length equations) (terms_of terms) image) (one_equation rel (length (terms_of terms))) rel refl);
            relation-is = ap (off (add_equation rel equations (terms_of terms) image).relation)
                (none-taken (add_equation rel equations (terms_of terms) image).outcome m.obtained);
            slots-are = refl;
            queries-are = refl;
            equations-are = refl;
            uses-are = refl;
          }
      go (suc k) = refused-parts r (Equate terms image) a m slots queries equations uses k
