-- The front of a call's questions: what sharing puts in, taken out again where it says yes. Then the questions come down to
-- those of a relation alone. A call that its front refuses sets nothing. Assumes nothing.
use Prim.Native.Nat.{ℕ, zero, suc, ◌<◌}
use mathlib.Core.Path.{◌≡◌, refl, sym, ap, ◌∙◌}
use mathlib.Core.Bool.{Bool, true}
use mathlib.Core.List.{List, [], ◌∷◌, ◌++◌}
use native.Mathlib.Omega.{arith}
use lib.Dec.{eqb, ltb}
use lib.ListN.{length, take}
use Rattle.limits.specs.Questions.{◌▸◌, Question, question, first_no, on_yes}
use Rattle.limits.specs.Outcome.{outcome_of}
use Rattle.limits.specs.Asks.{width_asks, store_asks, count_asks}
use Rattle.uses.specs.Uses.{uses_asks}
use Rattle.limits.proofs.Questions.{both, ▸-zero, goes_on, stays, first_no-append, Puts}
use Rattle.allocator.specs.Slots.{pairs, is_fresh, most_asks, room_asks, pair_asks, items_asks, SetRun, run_after}
use Rattle.allocator.specs.Assign.{set_of}
use Rattle.expr.specs.Equation.{ends_right}
use Rattle.expr.specs.Weighted.{terms_of}
use Rattle.permutation.specs.Sharing.{Sharing, after_five, alone}
use Rattle.permutation.specs.Relation.{queries_asks, equations_asks, relation_asks, relation_front}
use Rattle.permutation.specs.Numbers.{set_var_no, set_vars_no}
use Rattle.permutation.specs.Answers.{set_vars_run}
use Rattle.permutation.specs.declared.PermutationRelation.{PermutationRelation}
use Rattle.recording.specs.Relation.{query_front, record_asks, join_asks, mint_sizes, mint_asks, mint_cells, add_equation_rest}
use Rattle.withdraw.specs.Relation.{cells_at}
use Rattle.tickets.specs.Lines.{lines_asks}
use Rattle.tickets.specs.Tickets.{set_tickets_run}
use Rattle.compile.specs.Gate.{GateLent, lent_stores_asks, lent_sound_asks, made_asks, compile_front, compile_asks_with}
use Rattle.sharing.specs.Shares.{shares}
use Rattle.sharing.specs.declared.VarAllocator.{VarAllocator}
use Rattle.sharing.specs.declared.SharedRelation.{SharedRelation}
use Rattle.sharing.proofs.Numbers.{puts-in, Subsequence, subsequence, counting, is-opened, shown-on}
use Rattle.history.specs.Calls.{Call, Allocate, Set, SetList, Record, Mint, Equate, Tickets, WithdrawQuery, WithdrawEquation, State, Lengths, lengths_of, Answer, of_set, answer, asks_with, front_asks}

-- ---- lists of questions
-- accepted: both parts are
parts-yes : (xs ys : List Question) → first_no (xs ++ ys) ≡ 0 → (first_no xs ≡ 0) × (first_no ys ≡ 0)
parts-yes xs ys z = both _ _ (sym (first_no-append xs ys) ∙ z)

-- questions in the middle that say yes are taken out
pub drop-mid : (xs o ys : List Question) → first_no o ≡ 0 → first_no (xs ++ (o ++ ys)) ≡ first_no (xs ++ ys)
drop-mid xs o ys z =
    first_no-append xs (o ++ ys)
    ∙ ap (λ (k : ℕ). first_no xs ▸ k) (first_no-append o ys ∙ goes_on (first_no o) (first_no ys) z)
    ∙ sym (first_no-append xs ys)

-- and where all of it is accepted
pub mid-yes : (xs o ys : List Question) → first_no (xs ++ (o ++ ys)) ≡ 0 → first_no (xs ++ ys) ≡ 0
mid-yes xs o ys z = sym (drop-mid xs o ys (parts-yes o ys (parts-yes xs (o ++ ys) z).1).0) ∙ z

-- or at the end
pub drop-end : (xs o : List Question) → first_no o ≡ 0 → first_no (xs ++ o) ≡ first_no xs
drop-end xs o z = first_no-append xs o ∙ ap (λ (k : ℕ). first_no xs ▸ k) z ∙ ▸-zero (first_no xs)

-- ---- sharing of a relation that is opened: the count is asked, and what follows 2 says yes
abbrev pub shared_with : List Question → (ℕ → List Question) → Sharing
shared_with o w = record { counted = true; opened = o; within = w }

module _ (o : List Question) (w : ℕ → List Question) (z : first_no o ≡ 0) where
  -- it is taken out of the front of a call that changes the use counts ..
  query-settled : (rel : PermutationRelation) (n : Lengths) (lists : List Question)
      → first_no (query_front (shared_with o w) rel n.slots n.queries n.uses lists)
      ≡ first_no (query_front (after_five w) rel n.slots n.queries n.uses lists)
  query-settled rel n lists =
      drop-mid (relation_asks rel n.slots ++ (queries_asks rel n.queries ++ (store_asks n.uses ++ lists))) o [] z

  -- .. and of each call's front
  pub settled : (rel : PermutationRelation) (n : Lengths) (c : Call)
      → first_no (front_asks (shared_with o w) rel n c) ≡ first_no (front_asks (after_five w) rel n c)
  unfolding front_asks
  settled rel n (Allocate a) = drop-mid (relation_asks rel n.slots) o (most_asks rel.vars a ++ w a) z
  settled rel n (Set p) = drop-end (relation_asks rel n.slots) o z
  settled rel n (SetList vars values) =
      drop-mid (relation_asks rel n.slots ++ (store_asks (length vars) ++ store_asks (length values))) o [] z
  settled rel n (Record input output) = query-settled rel n (store_asks (length input) ++ store_asks (length output))
  settled rel n (Mint input) =
      let more = mint_asks rel input ++ w rel.width in
      first_no-append (mint_sizes (shared_with o w) rel n.slots n.queries n.uses input) more
      ∙ ap (λ (k : ℕ). k ▸ first_no more) (query-settled rel n (store_asks (length input)))
      ∙ sym (first_no-append (mint_sizes (after_five w) rel n.slots n.queries n.uses input) more)
  settled rel n (Equate terms image) = drop-mid (width_asks rel.width ++ (equations_asks rel n.equations ++ count_asks rel.vars)) o [] z
  settled rel n (Tickets text) = drop-end (relation_asks rel n.slots) o z
  settled rel n (WithdrawQuery i) = query-settled rel n []
  settled rel n (WithdrawEquation i) = drop-mid (width_asks rel.width ++ (equations_asks rel n.equations ++ count_asks rel.vars)) o [] z

-- ---- the front that a call of relation r puts
module _ (a : VarAllocator) (r : ℕ) (m : SharedRelation) (rel : PermutationRelation) (n : Lengths) where
  -- 42 is among its questions
  asked : (c : Call) → Puts 42 (ltb r a.opened) (front_asks (shares a r m) rel n c)
  unfolding front_asks
  asked (Allocate x) = search puts-in depth 20
  asked (Set p) = search puts-in depth 20
  asked (SetList vars values) = search puts-in depth 20
  asked (Record input output) = search puts-in depth 20
  asked (Mint input) = search puts-in depth 20
  asked (Equate terms image) = search puts-in depth 20
  asked (Tickets text) = search puts-in depth 20
  asked (WithdrawQuery i) = search puts-in depth 20
  asked (WithdrawEquation i) = search puts-in depth 20

  -- and sharing only puts questions in
  inserted : (c : Call) → Subsequence (front_asks alone rel n c) (front_asks (counting a r m true) rel n c)
  unfolding front_asks
  inserted (Allocate x) = search subsequence depth 40
  inserted (Set p) = search subsequence depth 40
  inserted (SetList vars values) = search subsequence depth 40
  inserted (Record input output) = search subsequence depth 40
  inserted (Mint input) = search subsequence depth 40
  inserted (Equate terms image) = search subsequence depth 40
  inserted (Tickets text) = search subsequence depth 40
  inserted (WithdrawQuery i) = search subsequence depth 40
  inserted (WithdrawEquation i) = search subsequence depth 40

  -- let through: the relation is opened
  pub front-opened : (c : Call) → first_no (front_asks (shares a r m) rel n c) ≡ 0 → r < a.opened
  front-opened c = is-opened a r m (λ (h : Sharing). front_asks h rel n c) (asked c) (inserted c)

-- of the wires that an allocate or a mint asks for
pub allocate-within : (h : Sharing) (rel : PermutationRelation) (n : Lengths) (a : ℕ) → first_no (front_asks h rel n (Allocate a)) ≡ 0
    → first_no (h.within a) ≡ 0
unfolding front_asks
allocate-within h rel n a z = (parts-yes (most_asks rel.vars a) (h.within a) (parts-yes (relation_front h rel n.slots) (most_asks rel.vars a ++ h.within a) z).1).1

pub mint-within : (h : Sharing) (rel : PermutationRelation) (n : Lengths) (input : List ℕ) → first_no (front_asks h rel n (Mint input)) ≡ 0
    → first_no (h.within rel.width) ≡ 0
unfolding front_asks
mint-within h rel n input z =
    (parts-yes (mint_asks rel input) (h.within rel.width)
    (parts-yes (mint_sizes h rel n.slots n.queries n.uses input) (mint_asks rel input ++ h.within rel.width) z).1).1

-- a sharing that asks for the count
pub counted_is : (h : Sharing) → h.counted ≡ true → h ≡ shared_with h.opened h.within
counted_is h e = λ j. record { counted = e j; opened = h.opened; within = h.within }

-- ---- whole lists
-- what comes after the front
abbrev pub rest : State → Call → List Question
rest s (Allocate n) = room_asks s.relation.vars (length s.slots) n
rest s (Set p) = pair_asks s.relation.vars s.slots p
rest s (SetList vars values) =
    items_asks (pair_asks s.relation.vars) (λ p. p) s.slots (pairs vars values) ++ (question 9 (eqb (length vars) (length values)) ∷ [])
rest s (Record input output) =
    record_asks s.relation input output ++ join_asks s.relation (length s.slots) (length s.queries) s.uses (input ++ output)
rest s (Mint input) =
    room_asks s.relation.vars (length s.slots) s.relation.width
    ++ join_asks s.relation (length s.slots) (length s.queries) s.uses (mint_cells s.relation input)
rest s (Equate terms image) = add_equation_rest s.relation (length s.equations) (terms_of terms) image
rest s (Tickets text) = lines_asks s.relation.vars s.slots text
rest s (WithdrawQuery i) =
    question 45 (ltb i s.relation.queries)
    ∷ uses_asks true (length s.slots) s.uses s.relation.stray (cells_at s.relation s.queries i)
rest s (WithdrawEquation i) =
    question 45 (ltb i s.relation.equations)
    ∷ question 11 (ends_right s.relation.equations (take s.relation.words s.equations))
    ∷ []

front_rest : (h : Sharing) (s : State) (c : Call) → asks_with h s c ≡ front_asks h s.relation (lengths_of s) c ++ rest s c
unfolding asks_with front_asks
front_rest h s (Allocate n) = refl
front_rest h s (Set p) = refl
front_rest h s (SetList vars values) = refl
front_rest h s (Record input output) = refl
front_rest h s (Mint input) = refl
front_rest h s (Equate terms image) = refl
front_rest h s (Tickets text) = refl
front_rest h s (WithdrawQuery i) = refl
front_rest h s (WithdrawEquation i) = refl

-- the outcome by the front: of an answer on a relation alone, or of the refusal
pub outcome-on : (a : VarAllocator) (r : ℕ) (m : SharedRelation) (s : State) (c : Call) (new old : Answer)
    → new.outcome ≡ outcome_of (first_no (asks_with alone s c))
    → ((j : ℕ) → first_no (front_asks (shares a r m) s.relation (lengths_of s) c) ≡ suc j → old.outcome ≡ outcome_of (suc j))
    → (on_yes (first_no (front_asks (shares a r m) s.relation (lengths_of s) c)) new old).outcome ≡ outcome_of (first_no (asks_with (shares a r m) s c))
outcome-on a r m s c new old e o =
    shown-on a r m (λ (h : Sharing). front_asks h s.relation (lengths_of s) c) (asked a r m s.relation (lengths_of s) c) (inserted a r m s.relation (lengths_of s) c)
    (λ (x : Answer). x.outcome) outcome_of (rest s c) new old (e ∙ ap (λ (qs : List Question). outcome_of (first_no qs)) (front_rest alone s c)) o
    ∙ ap (λ (qs : List Question). outcome_of (first_no qs)) (sym (front_rest (shares a r m) s c))

pub asks-front : (h : Sharing) (s : State) (c : Call)
    → first_no (asks_with h s c) ≡ first_no (front_asks h s.relation (lengths_of s) c) ▸ first_no (rest s c)
asks-front h s c = ap first_no (front_rest h s c) ∙ first_no-append (front_asks h s.relation (lengths_of s) c) (rest s c)

-- of a relation that is opened only what follows 5 is left of what sharing puts in
pub front-settled : (h : Sharing) → h.counted ≡ true → first_no h.opened ≡ 0 → (rel : PermutationRelation) (n : Lengths) (c : Call)
    → first_no (front_asks h rel n c) ≡ first_no (front_asks (after_five h.within) rel n c)
front-settled h e z rel n c = ap (λ (x : Sharing). first_no (front_asks x rel n c)) (counted_is h e) ∙ settled h.opened h.within z rel n c

pub asks-settled : (h : Sharing) → h.counted ≡ true → first_no h.opened ≡ 0 → (s : State) (c : Call)
    → first_no (asks_with h s c) ≡ first_no (asks_with (after_five h.within) s c)
asks-settled h e z s c =
    asks-front h s c
    ∙ ap (λ (k : ℕ). k ▸ first_no (rest s c)) (front-settled h e z s.relation (lengths_of s) c)
    ∙ sym (asks-front (after_five h.within) s c)

-- ---- refused at the front: nothing is set
-- a run behind a number that is not 0
run_none : (k : ℕ) (r : SetRun) (slots : List ℕ) (j : ℕ) → k ≡ suc j → ((run_after k r slots).accepted ≡ 0) × ((run_after k r slots).fresh ≡ 0)
run_none zero r slots j e = absurd (omega (arith, e))
run_none (suc k) r slots j e = (refl, refl)

-- a set with such a number
set-none : (k : ℕ) (fresh : Bool) (j : ℕ) → k ≡ suc j → ((of_set (set_of k fresh)).accepted ≡ 0) × ((of_set (set_of k fresh)).fresh ≡ 0)
set-none zero fresh j e = absurd (omega (arith, e))
set-none (suc k) fresh j e = (refl, refl)

-- so a call of a relation alone, at a front that says no
pub none-set : (within : ℕ → List Question) (s : State) (c : Call) (j : ℕ) → first_no (front_asks (after_five within) s.relation (lengths_of s) c) ≡ suc j
    → ((answer s c).accepted ≡ 0) × ((answer s c).fresh ≡ 0)
unfolding answer front_asks set_var_no set_vars_no set_vars_run set_tickets_run
none-set within s (Allocate n) j e = (refl, refl)
none-set within s (Set p) j e =
    let rel = s.relation in
    set-none (set_var_no rel s.slots p) (is_fresh s.slots p) j
    (first_no-append (relation_asks rel (length s.slots)) (pair_asks rel.vars s.slots p) ∙ stays _ _ (λ z. absurd (omega (arith, z, e))) ∙ e)
none-set within s (SetList vars values) j e = run_none (set_vars_no s.relation (length s.slots) vars values) _ s.slots j e
none-set within s (Record input output) j e = (refl, refl)
none-set within s (Mint input) j e = (refl, refl)
none-set within s (Equate terms image) j e = (refl, refl)
none-set within s (WithdrawQuery i) j e = (refl, refl)
none-set within s (WithdrawEquation i) j e = (refl, refl)
none-set within s (Tickets text) j e = run_none (first_no (relation_asks s.relation (length s.slots))) _ s.slots j e

-- ---- the gate's
pub gate-front : (h : Sharing) (l : GateLent) → first_no (compile_asks_with h l) ≡ first_no (compile_front h l) ▸ first_no (lent_sound_asks l ++ made_asks l)
gate-front h l = first_no-append (compile_front h l) (lent_sound_asks l ++ made_asks l)

-- where the count is asked, the front is that of a relation alone, and then what follows 2
pub gate-opened : (h : Sharing) → h.counted ≡ true → (l : GateLent) → first_no (compile_front h l) ≡ first_no (compile_front alone l) ▸ first_no h.opened
gate-opened h e l =
    let front = relation_asks l.relation (length l.slots) ++ (lent_stores_asks l ++ store_asks (length l.uses)) in
    ap (λ (x : Sharing). first_no (compile_front x l)) (counted_is h e)
    ∙ first_no-append front (h.opened ++ [])
    ∙ ap (λ (k : ℕ). first_no front ▸ k) (drop-end h.opened [] refl)

-- so where that says yes, it is that of a relation alone
pub gate-settled : (h : Sharing) → h.counted ≡ true → first_no h.opened ≡ 0 → (l : GateLent) → first_no (compile_front h l) ≡ first_no (compile_front alone l)
gate-settled h e z l = gate-opened h e l ∙ ap (λ (k : ℕ). first_no (compile_front alone l) ▸ k) z ∙ ▸-zero _
