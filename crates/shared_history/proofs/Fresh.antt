-- On one allocator: a set is fresh exactly where nobody's set in the ledger names its wire; along a list the tallies that are
-- answered are those that the ledger tells; and the pairs that a call sets by the ledger are those that join everybody's
-- sets. Assumes nothing.
use Prim.Native.Nat.{ℕ, zero, suc}
use mathlib.Core.Path.{◌≡◌, refl, sym, ap, ◌∙◌}
use mathlib.Core.Bool.{Bool, true, false}
use mathlib.Core.Logic.{◌↔◌}
use mathlib.Core.List.{List, [], ◌∷◌, map}
use native.Mathlib.Omega.{arith}
use borrow.Author.Tests.{lt-ltb, ltb-false}
use lib.Dec.{ltb}
use lib.ListN.{length}
use Rattle.limits.specs.Questions.{first_no, pick}
use Rattle.limits.specs.Outcome.{outcome_of, is_accepted, Outcome}
use Rattle.allocator.specs.Slots.{Pair}
use Rattle.allocator.specs.Values.{joins}
use Rattle.permutation.specs.Left.{pair_left, pairs_set}
use Rattle.instance.specs.Parts.{pair_vars, has}
use Rattle.sharing.specs.Shares.{on_allocator, quota_asks, shares}
use Rattle.history.specs.Along.{told_by}
use Rattle.history.specs.Calls.{Call, Set, Lengths, front_asks, Answer, noted}
use Rattle.history.specs.Left.{left_with, set_by, fresh_count}
use Rattle.history.specs.Demand.{Accepted}
use Rattle.history.proofs.Outcomes.{accepted-no}
use Rattle.history.proofs.Along.{along-shown}
use Rattle.history.proofs.Fresh.{one-unnamed, tally}
use Rattle.history.proofs.Grown.{joined_by, none-joined}
use Rattle.shared_history.specs.Calls.{OwnState, SharedState, SharedCall, Open, On, lengths_for, shared_answer, shared_after, OwnLedger, SharedLedger, own_ledger_at, judged_on, shared_noted, SharedEntry, shared_log}
use Rattle.shared_history.specs.Left.{allocator_by, shared_left, shared_set_by}
use Rattle.shared_history.specs.Demand.{SharedTold, AllSharedTold}
use Rattle.shared_history.proofs.Fronts.{front-opened}

-- a call that ledger and lengths let through is of a relation that is opened
left-opened : (lengths : Lengths) (l : SharedLedger) (r : ℕ) (handed : OwnState) (c : Call) → shared_left lengths l (On r handed c) ≡ 0
    → ltb r (length l.owns) ≡ true
unfolding shared_left
left-opened lengths l r handed c = go (ltb r (length l.owns)) refl
  where
    go : (b : Bool) → ltb r (length l.owns) ≡ b
        → pick b
        (left_with (quota_asks (own_ledger_at l r).quota (own_ledger_at l r).obtained) (own_ledger_at l r).width lengths (judged_on l (own_ledger_at l r)) c)
        (first_no (front_asks (shares (allocator_by l) r handed.relation) (on_allocator (allocator_by l) handed.relation) lengths c))
        ≡ 0
        → b ≡ true
    go true e z = refl
    go false e z = sym e ∙ lt-ltb r (length l.owns) (front-opened (allocator_by l) r handed.relation _ lengths c z)

-- what the first is where the test passes
passed : (b : Bool) (k j : ℕ) → b ≡ true → pick b k j ≡ 0 → k ≡ 0
passed true k j e z = z
passed false k j e z = cc

pub shared-unnamed : (p : SharedState) (l : SharedLedger) (r : ℕ) (handed : OwnState) (q : Pair)
    → SharedTold p l (On r handed (Set q)) → Accepted (shared_answer p (On r handed (Set q))).outcome
    → ((shared_answer p (On r handed (Set q))).fresh ≡ 1) ↔ (has (pair_vars l.sets) q.var ≡ false)
unfolding shared_left shared_set_by left_with set_by
shared-unnamed p l r handed q t a =
    let n = l.count in
    let sets = l.sets in
    let z = accepted-no _ (sym t.answers.by-ledger ∙ a) in
    let yes = left-opened (lengths_for p (On r handed (Set q))) l r handed (Set q) z in
    one-unnamed n sets q (passed (ltb r (length l.owns)) (pair_left n sets q) _ yes z) _
    (t.fresh ∙ ap (λ (b : Bool). fresh_count n sets (pick b (pairs_set n sets (q ∷ [])) [])) yes)

-- ---- the two tallies along a list: those that are answered are those that the ledger tells
abbrev pub shared_tally_by : SharedLedger → SharedCall → ℕ × ℕ
shared_tally_by l c = (length (shared_set_by l c), fresh_count l.count l.sets (shared_set_by l c))

pub shared-tallied : (p : SharedState) (l : SharedLedger) (cs : List SharedCall) → AllSharedTold p l cs
    → map (λ (e : SharedEntry). tally e.answered) (shared_log p cs) ≡ told_by shared_noted shared_tally_by l (shared_log p cs)
shared-tallied p l cs =
    along-shown shared_answer shared_after shared_noted SharedTold tally shared_tally_by (λ p l c t. λ j. (t.accepted j, t.fresh j)) cs p l

-- ---- the pairs that a call sets join everybody's sets
-- a number that isn't 0 is refused
refused-is : (o : Outcome) (k : ℕ) → o ≡ outcome_of k → (k ≡ 0 → ⊥) → is_accepted o ≡ false
refused-is o zero e h = absurd (h refl)
refused-is o (suc k) e h = ap is_accepted e

pub shared-joined : (p : SharedState) (l : SharedLedger) (c : SharedCall) → SharedTold p l c
    → (shared_noted l c (shared_answer p c)).sets ≡ joins l.sets (shared_set_by l c)
unfolding shared_noted shared_set_by shared_left
shared-joined p l (Open width quota queries equations uses) t = refl
shared-joined p l (On r handed c) t = go (ltb r (length l.owns)) refl t.answers.by-ledger t.accepted
  where
    e : OwnLedger
    e = own_ledger_at l r

    a : Answer
    a = shared_answer p (On r handed c)

    front : ℕ
    front = first_no (front_asks (shares (allocator_by l) r handed.relation) (on_allocator (allocator_by l) handed.relation) (lengths_for p (On r handed c)) c)

    go : (b : Bool) → ltb r (length l.owns) ≡ b
        → a.outcome
        ≡ outcome_of (pick b (left_with (quota_asks e.quota e.obtained) e.width (lengths_for p (On r handed c)) (judged_on l e) c) front)
        → a.accepted ≡ length (pick b (set_by (judged_on l e) c) [])
        → (noted e.width (judged_on l e) c a).sets ≡ joins l.sets (pick b (set_by (judged_on l e) c) [])
    go true y o n = joined_by e.width (judged_on l e) _ _ c a o n
    go false y o n =
        none-joined e.width (judged_on l e) c a
        (refused-is a.outcome front o
        (λ z. absurd (omega (arith, ltb-false r (length l.owns) y, front-opened (allocator_by l) r handed.relation _ (lengths_for p (On r handed c)) c z))))
        n
