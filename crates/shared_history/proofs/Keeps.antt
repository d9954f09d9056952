-- Each opening and each call keeps the relations in step with their ledger, so every list of them does. A relation's call
-- is that of a relation alone, whose laws say what becomes of the slots, which all share, and of its own stores; the
-- others keep theirs. Assumes nothing.
use Prim.Native.Nat.{ℕ, zero, suc, ◌+◌, ◌≤◌, ◌<◌}
use mathlib.Core.Path.{◌≡◌, refl, sym, ap, ap₂, ◌∙◌, subst}
use mathlib.Core.Bool.{Bool, true}
use mathlib.Core.List.{List, [], ◌∷◌, ◌++◌}
use native.Mathlib.Omega.{arith}
use borrow.Author.Tests.{leb-true, lt-ltb}
use lib.ListN.{length, set, length-set, length-append}
use Rattle.std.specs.Prelude.{Err, Ok}
use Rattle.limits.specs.Questions.{first_no, pick, on_yes}
use Rattle.limits.specs.Outcome.{outcome_of, outcome_number, is_accepted, Outcome, refusal}
use Rattle.limits.specs.Asks.{width_asks, store_asks}
use Rattle.limits.proofs.Questions.{accepted-says}
use Rattle.allocator.specs.Slots.{pair}
use Rattle.permutation.specs.Numbers.{new_relation_no}
use Rattle.permutation.specs.Answers.{relation, fresh_slots, fresh_uses}
use Rattle.recording.specs.State.{Holds}
use Rattle.recording.proofs.Keeps.{new-holds}
use Rattle.sharing.specs.Shares.{any_opened, quota_asks, on_allocator}
use Rattle.sharing.specs.Opening.{opening_asks, with_allocator_no, new_shared, one_opened}
use Rattle.sharing.proofs.Answered.{opens-yes}
use Rattle.history.specs.Ledger.{Ledger}
use Rattle.history.specs.Calls.{Call, Allocate, Set, SetList, Record, Mint, Equate, Tickets, WithdrawQuery, WithdrawEquation, lengths_of, Answer, answer, after, noted}
use Rattle.history.specs.Demand.{Accepted}
use Rattle.history.proofs.Along.{along-kept}
use Rattle.history.proofs.Outcomes.{accepted-no}
use Rattle.history.proofs.Lengths.{lengths-kept}
use Rattle.history.proofs.Keeps.{keeps}
use Rattle.shared_history.specs.Calls.{OwnState, SharedState, SharedCall, Open, On, own_at, seen, shares_of, wires_of, taken, front_no, refused_with, shared_answer, own_after, acted_on, shared_after, OwnLedger, SharedLedger, new_own_ledger, first_shared, own_ledger_at, judged_on, own_ledger_after, shared_noted, shared_final, shared_log, shared_ledger_of}
use Rattle.shared_history.proofs.Lists.{set_same, Both, both-set, both-more}
use Rattle.shared_history.proofs.Fronts.{mid-yes, front-opened, allocate-within, mint-within}
use Rattle.shared_history.proofs.Stands.{Own, Stands, own-at, agrees, obtained-set, obtained-new}

-- ---- the ledger
-- by an outcome: n more, or none
by-outcome : (o : Outcome) (x l : Ledger) (n : ℕ) → x.count ≡ l.count + n → (pick (is_accepted o) x l).count ≡ l.count + pick (is_accepted o) n 0
by-outcome (Ok tt) x l n e = e
by-outcome (Err refused) x l n e = omega arith

no_more : (o : Outcome) (a : ℕ) → a ≡ a + pick (is_accepted o) 0 0
no_more (Ok tt) a = omega arith
no_more (Err e) a = omega arith

-- what a relation's call adds to the count
count-more : (w : ℕ) (l : Ledger) (c : Call) (a : Answer) → (noted w l c a).count ≡ l.count + taken w c a
unfolding noted
count-more w l (Allocate n) a = by-outcome a.outcome _ l n refl
count-more w l (Set p) a = by-outcome a.outcome _ l 0 (omega arith)
count-more w l (SetList vars values) a = no_more a.outcome l.count
count-more w l (Record input output) a = by-outcome a.outcome _ l 0 (omega arith)
count-more w l (Mint input) a = by-outcome a.outcome _ l w refl
count-more w l (Equate terms image) a = by-outcome a.outcome _ l 0 (omega arith)
count-more w l (Tickets text) a = no_more a.outcome l.count
count-more w l (WithdrawQuery i) a = by-outcome a.outcome _ l 0 (omega arith)
count-more w l (WithdrawEquation i) a = by-outcome a.outcome _ l 0 (omega arith)

-- a call that the front of its questions refuses adds nothing
none_more : (w : ℕ) (l : Ledger) (c : Call) (k : ℕ) → noted w l c (refused_with k) ≡ l
unfolding noted
none_more w l (Allocate n) k = refl
none_more w l (Set p) k = refl
none_more w l (SetList vars values) k = refl
none_more w l (Record input output) k = refl
none_more w l (Mint input) k = refl
none_more w l (Equate terms image) k = refl
none_more w l (Tickets text) k = refl
none_more w l (WithdrawQuery i) k = refl
none_more w l (WithdrawEquation i) k = refl

noted-none : (l : SharedLedger) (r : ℕ) (handed : OwnState) (c : Call) (k : ℕ) → shared_noted l (On r handed c) (refused_with k) ≡ l
unfolding shared_noted
noted-none l r handed c k =
    let e = own_ledger_at l r in
    let n = none_more e.width (judged_on l e) c k in
    let z : e.obtained + 0 ≡ e.obtained = omega arith in
    let same : own_ledger_after e (noted e.width (judged_on l e) c (refused_with k)) 0 ≡ e =
    λ j. record { width = e.width; quota = e.quota; obtained = z j; queries = (n j).queries; equations = (n j).equations } in
    let es = ap (λ (x : OwnLedger). set l.owns r x) same ∙ set_same l.owns r (new_own_ledger 0 0) in
    λ j. record { count = (n j).count; sets = (n j).sets; owns = es j }

-- ---- a relation's call
module _ (p : SharedState) (r : ℕ) (m : OwnState) where
  -- let through: 42 says yes
  pub through-opened : (c : Call) → front_no p r m c ≡ 0 → r < p.allocator.opened
  unfolding front_no
  through-opened c z = front-opened p.allocator r m.relation (on_allocator p.allocator m.relation) (lengths_of (seen p m)) c z

  -- and 43
  within-quota : (n : ℕ) → first_no (quota_asks m.relation.quota m.relation.obtained n) ≡ 0 → m.relation.obtained + n ≤ m.relation.quota
  within-quota n z = leb-true _ _ (accepted-says (quota_asks m.relation.quota m.relation.obtained n) tt z 0)

  stays_within : (c : Call) → front_no p r m c ≡ 0 → m.relation.obtained ≤ m.relation.quota
      → m.relation.obtained + wires_of m.relation.width c ≤ m.relation.quota
  unfolding front_no
  stays_within (Allocate n) z h = within-quota n (allocate-within (shares_of p r m) (on_allocator p.allocator m.relation) (lengths_of (seen p m)) n z)
  stays_within (Set q) z h = omega arith
  stays_within (SetList vars values) z h = omega arith
  stays_within (Record input output) z h = omega arith
  stays_within (Mint input) z h =
      within-quota m.relation.width (mint-within (shares_of p r m) (on_allocator p.allocator m.relation) (lengths_of (seen p m)) input z)
  stays_within (Equate terms image) z h = omega arith
  stays_within (Tickets text) z h = omega arith
  stays_within (WithdrawQuery i) z h = omega arith
  stays_within (WithdrawEquation i) z h = omega arith

module _ (p : SharedState) (l : SharedLedger) (st : Stands p l) (r : ℕ) (handed : OwnState) (c : Call) where
  abbrev m : OwnState
  m = own_at p r handed

  abbrev e : OwnLedger
  e = own_ledger_at l r

  abbrev a : Answer
  a = answer (seen p m) c

  taken-within : (o : Outcome) → front_no p r m c ≡ 0 → m.relation.obtained ≤ m.relation.quota
      → m.relation.obtained + pick (is_accepted o) (wires_of m.relation.width c) 0 ≤ m.relation.quota
  taken-within (Ok tt) z h = stays_within p r m c z h
  taken-within (Err e) z h = omega arith

  acted-stands : front_no p r m c ≡ 0 → Stands (acted_on p r m c) (shared_noted l (On r handed c) a)
  unfolding shared_noted
  acted-stands z =
      let h = through-opened p r m c z in
      let o = own-at p l st r h handed in
      let i = keeps e.width (seen p m) (judged_on l e) (agrees p l st m e o) c in
      let n = taken m.relation.width c a in
      let t : n ≡ taken e.width c a = ap (λ (w : ℕ). taken w c a) o.width_is in
      let long = lengths-kept (seen p m) c in
      let own : Own (length (after (seen p m) c).slots) (own_after m (after (seen p m) c) n) (own_ledger_after e (noted e.width (judged_on l e) c a) (taken e.width c a)) = record {
        least = o.least;
        most = o.most;
        width_is = i.width_is;
        in_queries = i.in_queries;
        in_equations = i.in_equations;
        uses_are = i.counts;
        quota_is = o.quota_is;
        obtained_is = ap₂ (λ (x y : ℕ). x + y) o.obtained_is t;
        within = taken-within a.outcome z o.within;
      } in
      let h' : r < length p.owns = omega (arith, st.opened_is) in
      let grown = count-more e.width (judged_on l e) c a in
      let all = obtained-set p.owns r handed (own_after m (after (seen p m) c) n) n h' refl in
      record {
        count = i.count;
        in_slots = i.in_slots;
        each = both-set (Own (length (after (seen p m) c).slots)) p.owns l.owns
            (subst (λ (n : ℕ). Both (Own n) p.owns l.owns) (λ j. (sym long j).slots) st.each) r _ _ own;
        opened_is = st.opened_is ∙ sym (length-set p.owns r _);
        least = st.least;
        few = st.few;
        sum = i.count ∙ omega (arith, grown, t, all, st.sum, st.count);
      }

  pub keeps_on : Stands (shared_after p (On r handed c)) (shared_noted l (On r handed c) (shared_answer p (On r handed c)))
  unfolding shared_after shared_answer
  keeps_on = go (front_no p r m c) refl
    where
      go : (k : ℕ) → front_no p r m c ≡ k → Stands (on_yes k (acted_on p r m c) p) (shared_noted l (On r handed c) (on_yes k a (refused_with k)))
      go zero z = acted-stands z
      go (suc k) z = subst (λ (x : SharedLedger). Stands p x) (sym (noted-none l r handed c (suc k))) st

-- ---- an opening
module _ (p : SharedState) (width quota : ℕ) (queries equations uses : List ℕ) where
  abbrev opening-no : ℕ
  opening-no = with_allocator_no p.allocator width (length p.slots) (length uses)

  -- accepted: what fresh then holds, the relation does
  fresh-accepted : opening-no ≡ 0 → new_relation_no width (length p.slots) (length uses) ≡ 0
  unfolding with_allocator_no new_relation_no
  fresh-accepted z =
      mid-yes (width_asks width ++ (store_asks (length uses) ++ store_asks (length p.slots))) (opening_asks p.allocator (length p.slots)) _ z

  fresh_holds : opening-no ≡ 0 → Holds width (relation width 1 0 0 0 0) (fresh_slots p.slots) queries equations (fresh_uses uses) 1 (pair 0 0 ∷ []) [] []
  fresh_holds z =
      let f = fresh-accepted z in
      subst
      (λ (k : ℕ). Holds width (on_yes k (relation width 1 0 0 0 0) (relation 0 0 0 0 0 0)) (on_yes k (fresh_slots p.slots) p.slots) queries equations
      (on_yes k (fresh_uses uses) uses) 1 (pair 0 0 ∷ []) [] [])
      f (new-holds width p.slots queries equations uses (ap (λ (k : ℕ). outcome_number (outcome_of k)) f))

  -- a relation as it is opened
  abbrev new-own : OwnState
  new-own = record { relation = new_shared width quota; queries = queries; equations = equations; uses = fresh_uses uses }

  own_new : opening-no ≡ 0 → (n : ℕ) → n ≡ length (fresh_slots p.slots) → Own n new-own (new_own_ledger width quota)
  own_new z n e =
      let f = fresh_holds z in
      record {
        least = f.least;
        most = f.most;
        width_is = refl;
        in_queries = f.in_queries;
        in_equations = f.in_equations;
        uses_are = rw e f.counts;
        quota_is = refl;
        obtained_is = refl;
        within = omega arith;
      }

  -- the state after an accepted one, by whether another was opened before
  abbrev opened-state : Bool → SharedState
  opened-state b =
      record {
        allocator = record { vars = pick b p.allocator.vars 1; opened = p.allocator.opened + 1 };
        slots = pick b p.slots (fresh_slots p.slots);
        owns = p.owns ++ (new-own ∷ []);
      }

  abbrev opened-ledger : SharedLedger → SharedLedger
  opened-ledger l = record { count = l.count; sets = l.sets; owns = l.owns ++ (new_own_ledger width quota ∷ []) }

  -- by the number
  by_number : (l : SharedLedger) → (opening-no ≡ 0 → Stands (opened-state (any_opened p.allocator)) (opened-ledger l))
      → ((opening-no ≡ 0 → ⊥) → Stands p l)
      → Stands (shared_after p (Open width quota queries equations uses)) (shared_noted l (Open width quota queries equations uses) (shared_answer p (Open width quota queries equations uses)))
  unfolding shared_after shared_answer shared_noted
  by_number l f g = go opening-no refl
    where
      go : (k : ℕ) → opening-no ≡ k
          → Stands
          (record {
            allocator = on_yes k (one_opened p.allocator) p.allocator;
            slots = on_yes k (pick (any_opened p.allocator) p.slots (fresh_slots p.slots)) p.slots;
            owns = on_yes k
                (p.owns
                ++ (record {
                  relation = on_yes k (new_shared width quota) (new_shared 0 0);
                  queries = queries;
                  equations = equations;
                  uses = on_yes k (fresh_uses uses) uses;
                } ∷ [])) p.owns;
          })
          (record {
            count = l.count;
            sets = l.sets;
            owns = pick (is_accepted (outcome_of k)) (l.owns ++ (new_own_ledger width quota ∷ [])) l.owns;
          })
      go zero z = f z
      go (suc k) z = g (λ y. absurd (omega (arith, y, z)))

-- a later one
module _ (p : SharedState) (width quota : ℕ) (queries equations uses : List ℕ) (l : SharedLedger) (st : Stands p l) where
  later : with_allocator_no p.allocator width (length p.slots) (length uses) ≡ 0
      → Stands (opened-state p width quota queries equations uses true) (opened-ledger p width quota queries equations uses l)
  later z =
      let own = new-own p width quota queries equations uses in
      record {
        count = st.count;
        in_slots = st.in_slots;
        each = both-more (Own (length p.slots)) p.owns l.owns st.each _ _
            (own_new p width quota queries equations uses z (length p.slots) (sym (length-set p.slots 0 0)));
        opened_is = omega (arith, st.opened_is, length-append p.owns (own ∷ []));
        least = omega arith;
        few = omega (arith, (opens-yes p.allocator width (length p.slots) (length uses) z).left);
        sum = omega (arith, st.sum, obtained-new p.owns own refl);
      }

  pub keeps-open : Stands (shared_after p (Open width quota queries equations uses))
      (shared_noted l (Open width quota queries equations uses) (shared_answer p (Open width quota queries equations uses)))
  keeps-open =
      by_number p width quota queries equations uses l
      (λ z. subst (λ (b : Bool). Stands (opened-state p width quota queries equations uses b) (opened-ledger p width quota queries equations uses l))
      (sym (lt-ltb 0 p.allocator.opened st.least)) (later z))
      (λ n. st)

-- the first
module _ (vars : ℕ) (slots : List ℕ) (width quota : ℕ) (queries equations uses : List ℕ) where
  abbrev none : SharedState
  none = record { allocator = record { vars = vars; opened = 0 }; slots = slots; owns = [] }

  pub begins : Accepted (shared_answer none (Open width quota queries equations uses)).outcome
      → Stands (shared_after none (Open width quota queries equations uses))
      (shared_noted first_shared (Open width quota queries equations uses) (shared_answer none (Open width quota queries equations uses)))
  unfolding shared_answer
  begins accepted =
      by_number none width quota queries equations uses first_shared
      (λ z.
      record {
        count = refl;
        in_slots = (fresh_holds none width quota queries equations uses z).in_slots;
        each = (own_new none width quota queries equations uses z _ refl, tt);
        opened_is = refl;
        least = omega arith;
        few = omega arith;
        sum = refl;
      })
      (λ n. absurd (n (accepted-no _ accepted)))

-- ---- every list
pub keeps-call : (c : SharedCall) (p : SharedState) (l : SharedLedger) → Stands p l → Stands (shared_after p c) (shared_noted l c (shared_answer p c))
keeps-call (Open width quota queries equations uses) p l st = keeps-open p width quota queries equations uses l st
keeps-call (On r handed c) p l st = keeps_on p l st r handed c

pub keeps-calls : (cs : List SharedCall) (p : SharedState) (l : SharedLedger) → Stands p l → Stands (shared_final p cs) (shared_ledger_of l (shared_log p cs))
keeps-calls = along-kept shared_answer shared_after shared_noted Stands keeps-call
