-- Along a list of openings and calls: each answers by the first no of its questions, which is the first no of those that
-- ledger and lengths leave; no store changes its length; an accepted opening answers the next number, an accepted
-- allocate or mint the ledger's count; as many sets are accepted, and as many of those fresh, as the ledger says. Assumes
-- nothing.
use Prim.Native.Nat.{ℕ, zero, suc, ◌+◌, ◌≤◌, ◌<◌}
use mathlib.Core.Path.{◌≡◌, refl, sym, ap, ap₂, ◌∙◌}
use mathlib.Core.Bool.{Bool, true, false}
use mathlib.Core.List.{List, [], ◌∷◌, ◌++◌}
use native.Mathlib.Omega.{arith}
use borrow.Author.Tests.{ltb-true, ltb-false, lt-ltb, le-leb}
use lib.Dec.{ltb, leb}
use lib.ListN.{length, get_or, length-set, get_or-append}
use Rattle.std.specs.Prelude.{Err, Ok}
use Rattle.limits.specs.Numbers.{max_count}
use Rattle.limits.specs.Questions.{ask, first_of_two, ◌▸◌, question, first_no, pick, on_yes}
use Rattle.limits.specs.Outcome.{outcome_of, refusal}
use Rattle.limits.specs.Asks.{width_asks, store_asks}
use Rattle.uses.specs.Uses.{length_asks}
use Rattle.limits.proofs.Questions.{stays}
use Rattle.allocator.specs.Slots.{fit_asks}
use Rattle.permutation.specs.Relation.{new_relation_asks_with}
use Rattle.permutation.specs.Answers.{fresh_slots}
use Rattle.sharing.specs.Shares.{max_relations, any_opened, on_allocator, opened_asks, quota_asks, shares}
use Rattle.sharing.specs.Opening.{with_allocator_no}
use Rattle.sharing.specs.declared.VarAllocator.{VarAllocator}
use Rattle.sharing.proofs.Numbers.{some-opened}
use Rattle.history.specs.Calls.{Call, Lengths, lengths_of, asks_with, front_asks, Answer, answer, after}
use Rattle.history.specs.Left.{left_with, set_by}
use Rattle.history.specs.Demand.{Accepted, takes_vars, Told}
use Rattle.history.proofs.Along.{along-told}
use Rattle.history.proofs.Outcomes.{past-yes, past_fits, then, refused-no}
use Rattle.history.proofs.Lengths.{lengths-kept}
use Rattle.history.proofs.Fresh.{Tallies, no-tallies}
use Rattle.history.proofs.Told.{by-questions, number-left, full-left, told}
use Rattle.shared_history.specs.Calls.{OwnState, SharedState, SharedCall, Open, On, own_at, seen, shares_of, lengths_for, taken, front_no, refused_with, shared_asks, shared_answer, own_after, acted_on, shared_after, SharedLedger, own_ledger_at, judged_on, shared_noted}
use Rattle.shared_history.specs.Left.{allocator_by, shared_left, shared_set_by}
use Rattle.shared_history.specs.Demand.{FirstIs, FullIs, SharedTold, AllSharedTold}
use Rattle.shared_history.proofs.Lists.{get_d_past, set_keeps}
use Rattle.shared_history.proofs.Fronts.{rest, outcome-on, asks-front, front-settled, asks-settled, none-set}
use Rattle.shared_history.proofs.Stands.{Stands, opened_in, own-at, agrees}
use Rattle.shared_history.proofs.Keeps.{through-opened, keeps-call}

-- ---- by questions, whatever the state
module _ (p : SharedState) (r : ℕ) (m : OwnState) (c : Call) where
  answered-on : (on_yes {A = Answer} (front_no p r m c) (answer (seen p m) c) (refused_with (front_no p r m c))).outcome
      ≡ outcome_of (first_no (asks_with (shares_of p r m) (seen p m) c))
  unfolding front_no
  answered-on =
      outcome-on p.allocator r m.relation (seen p m) c (answer (seen p m) c) (refused_with (front_no p r m c)) (by-questions (seen p m) c) (λ j e. ap (λ (k : ℕ). Err (refusal k)) e)

  number_is : first_no (asks_with (shares_of p r m) (seen p m) c) ≡ front_no p r m c ▸ first_no (rest (seen p m) c)
  unfolding front_no
  number_is = asks-front (shares_of p r m) (seen p m) c

-- 43 isn't 11
quota-other : (quota obtained n : ℕ) → first_no (quota_asks quota obtained n) ≡ 11 → ⊥
unfolding ask first_of_two
quota-other quota obtained n e = go (leb (obtained + n) quota) e
  where
    go : (b : Bool) → first_no (question 43 b ∷ []) ≡ 11 → ⊥
    go true z = absurd (omega (arith, z))
    go false z = absurd (omega (arith, z))

-- every opening and every call
pub answered : (p : SharedState) (c : SharedCall) → (shared_answer p c).outcome ≡ outcome_of (first_no (shared_asks p c))
unfolding shared_answer shared_asks with_allocator_no
answered p (Open width quota queries equations uses) = refl
answered p (On r handed c) = answered-on p r (own_at p r handed) c

-- ---- by the ledger
module _ (p : SharedState) (l : SharedLedger) (st : Stands p l) where
  -- the allocator is the ledger's
  pub allocator-is : p.allocator ≡ allocator_by l
  allocator-is = λ j. record { vars = st.count j; opened = opened_in p l st j }

  -- 2 of the allocator and 42, of a relation that is opened
  pub opened-yes : (r : ℕ) → r < p.allocator.opened → first_no (opened_asks p.allocator r) ≡ 0
  opened-yes r h = past-yes 2 _ _ (le-leb p.allocator.opened 8 st.few) ∙ past-yes 42 _ _ (lt-ltb r p.allocator.opened h)

  module _ (r : ℕ) (handed : OwnState) (c : Call) where
    abbrev m : OwnState
    m = own_at p r handed

    -- of a relation that is opened
    left-opened : r < p.allocator.opened
        → first_no (asks_with (shares_of p r m) (seen p m) c)
        ≡ left_with (quota_asks (own_ledger_at l r).quota (own_ledger_at l r).obtained) (own_ledger_at l r).width (lengths_of (seen p m)) (judged_on l (own_ledger_at l r)) c
    left-opened h =
        let e = own_ledger_at l r in
        let o = own-at p l st r h handed in
        asks-settled (shares_of p r m) (some-opened p.allocator r m.relation h) (opened-yes r h) (seen p m) c
        ∙ number-left e.width (seen p m) (judged_on l e) (agrees p l st m e o) (quota_asks m.relation.quota m.relation.obtained) c
        ∙ ap₂ (λ (q b : ℕ). left_with (quota_asks q b) e.width (lengths_of (seen p m)) (judged_on l e) c) o.quota_is o.obtained_is

    -- of a number that isn't
    front_by : (p.allocator.opened ≤ r) → first_no (asks_with (shares_of p r m) (seen p m) c)
        ≡ first_no (front_asks (shares (allocator_by l) r handed.relation) (on_allocator (allocator_by l) handed.relation) (lengths_of (seen p m)) c)
    unfolding front_no
    front_by h =
        let s = get_d_past p.owns r handed (omega (arith, st.opened_is)) in
        number_is p r m c
        ∙ stays (front_no p r m c) _ (λ z. absurd (omega (arith, through-opened p r m c z)))
        ∙ ap₂ (λ (a : VarAllocator) (x : OwnState). first_no (front_asks (shares a r x.relation) (on_allocator a x.relation) (lengths_of (seen p m)) c)) allocator-is s

    left-on : (shared_answer p (On r handed c)).outcome ≡ outcome_of (shared_left (lengths_of (seen p m)) l (On r handed c))
    unfolding shared_left shared_asks
    left-on = answered p (On r handed c) ∙ ap outcome_of (go (ltb r (length l.owns)) refl)
      where
        go : (b : Bool) → ltb r (length l.owns) ≡ b
            → first_no (asks_with (shares_of p r m) (seen p m) c)
            ≡ pick b
            (left_with (quota_asks (own_ledger_at l r).quota (own_ledger_at l r).obtained) (own_ledger_at l r).width (lengths_of (seen p m)) (judged_on l (own_ledger_at l r)) c)
            (first_no (front_asks (shares (allocator_by l) r handed.relation) (on_allocator (allocator_by l) handed.relation) (lengths_of (seen p m)) c))
        go true e = left-opened (omega (arith, ltb-true r (length l.owns) e, opened_in p l st))
        go false e = front_by (omega (arith, ltb-false r (length l.owns) e, opened_in p l st))

    -- its outcome by that
    left-opened-on : r < p.allocator.opened
        → (shared_answer p (On r handed c)).outcome
        ≡ outcome_of (left_with (quota_asks (own_ledger_at l r).quota (own_ledger_at l r).obtained) (own_ledger_at l r).width (lengths_of (seen p m)) (judged_on l (own_ledger_at l r)) c)
    unfolding shared_asks
    left-opened-on h = answered p (On r handed c) ∙ ap outcome_of (left-opened h)

    -- what is told of it as a relation alone
    alone : r < p.allocator.opened → Told (own_ledger_at l r).width (seen p m) (judged_on l (own_ledger_at l r)) c
    alone h = told _ (seen p m) (judged_on l (own_ledger_at l r)) (agrees p l st m (own_ledger_at l r) (own-at p l st r h handed)) c

    -- its tallies too, where the front lets it through; else nothing is set, alone as well
    tallies-on : Tallies l.count l.sets (shared_set_by l (On r handed c)) (shared_answer p (On r handed c))
    unfolding shared_answer shared_set_by front_no
    tallies-on = go (ltb r (length l.owns)) (front_no p r m c) refl refl
      where
        go : (b : Bool) (k : ℕ) → ltb r (length l.owns) ≡ b → front_no p r m c ≡ k
            → Tallies l.count l.sets (pick b (set_by (judged_on l (own_ledger_at l r)) c) []) (on_yes k (answer (seen p m) c) (refused_with k))
        go true zero e z =
            let t = alone (through-opened p r m c z) in
            record { accepted = t.accepted; fresh = t.fresh }
        go true (suc k) e z =
            let h : r < p.allocator.opened = omega (arith, ltb-true r (length l.owns) e, opened_in p l st) in
            let t = alone h in
            let front = front-settled (shares_of p r m) (some-opened p.allocator r m.relation h) (opened-yes r h) _ (lengths_of (seen p m)) c in
            let none = none-set _ (seen p m) c k (sym front ∙ z) in
            record { accepted = sym none.0 ∙ t.accepted; fresh = sym none.1 ∙ t.fresh }
        go false zero e z = absurd (omega (arith, through-opened p r m c z, ltb-false r (length l.owns) e, opened_in p l st))
        go false (suc k) e z = no-tallies l.count l.sets _ refl refl

  -- an opening: 2 is settled, and 6
  left_open : (width quota : ℕ) (queries equations uses : List ℕ)
      → (shared_answer p (Open width quota queries equations uses)).outcome
      ≡ outcome_of (first_no (width_asks width
      ++ (store_asks (length uses) ++ (question 42 (ltb (length l.owns) max_relations) ∷ length_asks (length p.slots) (length uses)))))
  unfolding shared_asks
  left_open width quota queries equations uses =
      let a = p.allocator in
      let n = length p.slots in
      let o = st.in_slots in
      let last = ap (λ (k : ℕ). ask 42 (ltb k 8)) (opened_in p l st) in
      answered p (Open width quota queries equations uses)
      ∙ ap outcome_of
      (ap (λ (b : Bool). first_no (new_relation_asks_with (pick b (fit_asks a.vars n) [] ++ (question 2 (leb a.opened max_relations) ∷ question 42 (ltb a.opened max_relations) ∷ [])) width n (length uses)))
      (lt-ltb 0 a.opened st.least)
      ∙ then _ _ _ (then _ _ _ (then _ _ _
      (past_fits 2 _ _ _ o.most ∙ past_fits 2 _ _ _ o.least ∙ past_fits 2 a.vars max_count _ (omega (arith, o.room, o.most)) ∙ past_fits 2 _ _ _ o.room
      ∙ past_fits 2 a.opened 8 _ st.few
      ∙ ap₂ ◌▸◌ last (past_fits 6 1 n _ (omega (arith, o.least, o.room)))))))

-- ---- lengths
-- a relation's stores, beside a slot store of that length
abbrev own-lengths : ℕ → OwnState → Lengths
own-lengths n m = record { slots = n; queries = length m.queries; equations = length m.equations; uses = length m.uses }

lengths-on : (p : SharedState) (r : ℕ) (handed : OwnState) (c : Call) → r < length p.owns → (k : ℕ) (d : OwnState)
    → lengths_of (seen (acted_on p r (own_at p r handed) c) (own_at (acted_on p r (own_at p r handed) c) k d)) ≡ lengths_of (seen p (own_at p k d))
lengths-on p r handed c h k d =
    let s = seen p (own_at p r handed) in
    let t = after s c in
    let e = lengths-kept s c in
    ap (λ (n : ℕ). own-lengths n (own_at (acted_on p r (own_at p r handed) c) k d)) (λ j. (e j).slots)
    ∙ set_keeps (own-lengths (length p.slots)) p.owns r k (own_after (own_at p r handed) t (taken s.relation.width c (answer s c))) handed d h
    (λ j. record { slots = length p.slots; queries = (e j).queries; equations = (e j).equations; uses = (e j).uses })

same_length : (k : ℕ) (b : Bool) (slots : List ℕ) → length (on_yes k (pick b slots (fresh_slots slots)) slots) ≡ length slots
same_length zero true slots = refl
same_length zero false slots = length-set slots 0 0
same_length (suc k) b slots = refl

one_more : (k : ℕ) (ms : List OwnState) (m : OwnState) (r : ℕ) (d : OwnState) → r < length ms → get_or (on_yes k (ms ++ (m ∷ [])) ms) r d ≡ get_or ms r d
one_more zero ms m r d h = get_or-append ms (m ∷ []) d r h
one_more (suc k) ms m r d h = refl

module _ (p : SharedState) (l : SharedLedger) (st : Stands p l) where
  lengths-same : (c : SharedCall) (r : ℕ) → r < p.allocator.opened → (d : OwnState)
      → lengths_of (seen (shared_after p c) (own_at (shared_after p c) r d)) ≡ lengths_of (seen p (own_at p r d))
  unfolding shared_after
  lengths-same (Open width quota queries equations uses) r h d =
      let k = with_allocator_no p.allocator width (length p.slots) (length uses) in
      ap₂ own-lengths (same_length k (any_opened p.allocator) p.slots) (one_more k p.owns _ r d (omega (arith, st.opened_is)))
  lengths-same (On q handed c) r h d = go (front_no p q (own_at p q handed) c) refl
    where
      go : (k : ℕ) → front_no p q (own_at p q handed) c ≡ k
          → lengths_of (seen (on_yes k (acted_on p q (own_at p q handed) c) p) (own_at (on_yes k (acted_on p q (own_at p q handed) c) p) r d)) ≡ lengths_of (seen p (own_at p r d))
      go zero z = lengths-on p q handed c (omega (arith, through-opened p q (own_at p q handed) c z, st.opened_is)) r d
      go (suc k) z = refl

  -- ---- what an accepted one answers
  first-is : (c : SharedCall) → Accepted (shared_answer p c).outcome → FirstIs p l c
  unfolding shared_answer
  first-is (Open width quota queries equations uses) = go (with_allocator_no p.allocator width (length p.slots) (length uses))
    where
      go : (k : ℕ) → Accepted (outcome_of k) → on_yes k p.allocator.opened 0 ≡ length l.owns
      go zero a = opened_in p l st
      go (suc k) a = cc
  first-is (On r handed c) = go (front_no p r (own_at p r handed) c) refl
    where
      go : (k : ℕ) → front_no p r (own_at p r handed) c ≡ k
          → Accepted (on_yes {A = Answer} k (answer (seen p (own_at p r handed)) c) (refused_with k)).outcome → takes_vars c ≡ true
          → (on_yes {A = Answer} k (answer (seen p (own_at p r handed)) c) (refused_with k)).first ≡ l.count
      go zero z a t = (alone p l st r handed c (through-opened p r (own_at p r handed) c z)).first t a
      go (suc k) z a t = cc

  -- 11 of a count only where the query store has no room either
  full_is : (c : SharedCall) → (shared_answer p c).outcome ≡ Err (refusal 11) → FullIs p l c
  full_is (Open width quota queries equations uses) e = tt
  full_is (On r handed c) e = λ t h.
      let x = own_ledger_at l r in
      let m = own_at p r handed in
      let opened : r < p.allocator.opened = omega (arith, h, opened_in p l st) in
      let n = refused-no _ 11 (sym (left-opened-on p l st r handed c opened) ∙ e) in
      full-left x.width (seen p m) (judged_on l x) (agrees p l st m x (own-at p l st r opened handed))
      (quota_asks x.quota x.obtained) (λ k. quota-other x.quota x.obtained k) c t n

  -- how many sets are accepted, and how many of those are fresh
  tallies : (c : SharedCall) → Tallies l.count l.sets (shared_set_by l c) (shared_answer p c)
  unfolding shared_answer shared_set_by
  tallies (Open width quota queries equations uses) = no-tallies l.count l.sets _ refl refl
  tallies (On r handed c) = tallies-on p l st r handed c

  by_left : (c : SharedCall) → (shared_answer p c).outcome ≡ outcome_of (shared_left (lengths_for p c) l c)
  unfolding shared_left
  by_left (Open width quota queries equations uses) = left_open p l st width quota queries equations uses
  by_left (On r handed c) = left-on p l st r handed c

  shared-told : (c : SharedCall) → SharedTold p l c
  shared-told c =
      record {
        answers = record { by-questions = answered p c; by-ledger = by_left c };
        lengths = lengths-same c;
        first = first-is c;
        full = full_is c;
        accepted = (tallies c).accepted;
        fresh = (tallies c).fresh;
      }

-- every list
pub told-calls : (cs : List SharedCall) (p : SharedState) (l : SharedLedger) → Stands p l → AllSharedTold p l cs
told-calls = along-told shared_answer shared_after shared_noted Stands keeps-call SharedTold (λ c p l st. shared-told p l st c)
