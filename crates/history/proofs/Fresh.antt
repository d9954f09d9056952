-- How many of a call's sets are fresh, by the ledger: of pairs that join the sets one by one as many as there are wires
-- that the pairs name and the sets don't, since a wire's second pair finds the first among the sets. So one set is fresh
-- exactly where no set of the ledger names its wire; along a list the tallies that are answered are those that the ledger
-- tells; and the ledger goes on the same whatever is fresh. Assumes nothing.
use Prim.Native.Nat.{ℕ, zero, suc, ◌+◌, ◌≤◌, ◌<◌}
use mathlib.Core.Path.{◌≡◌, refl, sym, ap, ap₂, ◌∙◌}
use mathlib.Core.Bool.{Bool, true, false, not, ◌&&◌}
use mathlib.Core.Logic.{◌↔◌}
use mathlib.Core.List.{List, [], ◌∷◌, map}
use native.Mathlib.Omega.{arith}
use borrow.Author.Tests.{eq-eqb, ne_eqb, eqb-true, eqb-false, ltb-true}
use lib.Dec.{eqb}
use lib.ListN.{length}
use Rattle.limits.specs.Questions.{pick, on_yes}
use Rattle.limits.proofs.Questions.{puts, puts-yes}
use Rattle.words.specs.Store.{All}
use Rattle.allocator.specs.Slots.{Pair, pair, SetRun}
use Rattle.permutation.specs.Left.{set_var_left, pair_left, pairs_set}
use Rattle.permutation.proofs.Left.{newly, RunLeft}
use Rattle.instance.specs.Parts.{pair_vars, has}
use Rattle.history.specs.Along.{told_by}
use Rattle.history.specs.Ledger.{Ledger}
use Rattle.history.specs.Calls.{Call, Allocate, Set, SetList, Record, Mint, Equate, Tickets, WithdrawQuery, WithdrawEquation, State, Answer, answer, after, noted, Entry, log}
use Rattle.history.specs.Left.{left_with, set_by, number_of, fresh_count}
use Rattle.history.specs.Demand.{Accepted, Told, AllTold}
use Rattle.history.proofs.Along.{along-shown}
use Rattle.history.proofs.Outcomes.{accepted-no}
use Rattle.history.proofs.Publics.{look-domain}

-- ---- worked: of four wires the pairs name 1 and 2, and 2 twice; the sets name 0 and 1
pub worked : fresh_count 4 (pair 1 7 ∷ pair 0 0 ∷ []) (pair 1 7 ∷ pair 2 9 ∷ pair 2 9 ∷ []) ≡ 1
worked = refl

-- ---- counting wires
-- none passes
none_pass : (i n : ℕ) → number_of (λ x. false) i n ≡ 0
none_pass i zero = refl
none_pass i (suc n) = omega (arith, none_pass (suc i) n)

-- two tests that agree on every wire but y ..
module _ (t u : ℕ → Bool) (y : ℕ) (same : (x : ℕ) → (x ≡ y → ⊥) → t x ≡ u x) where
  -- past y both count the same
  past : (i n : ℕ) → y < i → number_of t i n ≡ number_of u i n
  past i zero h = refl
  past i (suc n) h = ap₂ (λ (b : Bool) (k : ℕ). pick b 1 0 + k) (same i (λ e. omega arith)) (past (suc i) n (omega arith))

  -- .. where the second doesn't pass y: the first counts y besides, or not
  beside : u y ≡ false → (i n : ℕ) → i ≤ y → y < i + n → number_of t i n ≡ pick (t y) 1 0 + number_of u i n
  beside z i zero l h = absurd (omega arith)
  beside z i (suc n) l h = go (eqb i y) refl (λ m. beside z (suc i) n m (omega arith))
    where
      go : (b : Bool) → eqb i y ≡ b → (i < y → number_of t (suc i) n ≡ pick (t y) 1 0 + number_of u (suc i) n)
          → pick (t i) 1 0 + number_of t (suc i) n ≡ pick (t y) 1 0 + (pick (u i) 1 0 + number_of u (suc i) n)
      go true e f = rw (eqb-true i y e) (rw z (omega (arith, past (suc y) n (omega arith))))
      go false e f = let d = eqb-false i y e in rw (same i d) (omega (arith, f (omega (arith, d))))

-- y counts where s doesn't name it, and then s names it
module _ (y : ℕ) (ys s : List ℕ) where
  -- the wires that count before
  abbrev first : ℕ → Bool
  first x = has (y ∷ ys) x && not (has s x)

  -- and after
  abbrev then : ℕ → Bool
  then x = has ys x && not (has (y ∷ s) x)

  not-again : (b : Bool) → b && false ≡ false
  not-again true = refl
  not-again false = refl

  by-has : (b : Bool) → pick {A = ℕ} (not b) 1 0 ≡ pick b 0 1
  by-has true = refl
  by-has false = refl

  one-named : (n : ℕ) → y < n → pick (has s y) 0 1 + number_of then 0 n ≡ number_of first 0 n
  one-named n h =
      let e = eq-eqb y y refl in
      let here : pick {A = ℕ} (first y) 1 0 ≡ pick (has s y) 0 1 = rw e (by-has (has s y)) in
      omega (arith, here, beside first then y (λ x d. rw (ne_eqb x y d)) (rw e (not-again (has ys y))) 0 n (omega arith) (omega arith))

-- ---- pairs that join the sets one by one
none-fresh : (n : ℕ) (sets : List Pair) → fresh_count n sets [] ≡ 0
none-fresh n sets = none_pass 0 n

newly-count : (n : ℕ) (sets ps : List Pair) → All (λ p. p.var < n) ps → newly sets ps ≡ fresh_count n sets ps
newly-count n sets [] a = sym (none-fresh n sets)
newly-count n sets (p ∷ ps) a =
    ap₂ (λ (b : Bool) (k : ℕ). pick b 0 1 + k) (look-domain sets p.var) (newly-count n (p ∷ sets) ps a.1)
    ∙ one-named p.var (pair_vars ps) (pair_vars sets) n a.0

-- ---- the two tallies of an answer, where these pairs are set
pub record Tallies (n : ℕ) (sets ps : List Pair) (a : Answer) : Type 0 where
  pub accepted : a.accepted ≡ length ps
  pub fresh : a.fresh ≡ fresh_count n sets ps

-- none is set
pub no-tallies : (n : ℕ) (sets : List Pair) (a : Answer) → a.accepted ≡ 0 → a.fresh ≡ 0 → Tallies n sets [] a
no-tallies n sets a e f = record { accepted = e; fresh = f ∙ sym (none-fresh n sets) }

-- a run's
pub run-tallies : (n : ℕ) (sets ps : List Pair) (k : ℕ) (r : SetRun) → RunLeft n sets ps k r
    → (a : Answer) → a.accepted ≡ r.accepted → a.fresh ≡ r.fresh → Tallies n sets ps a
run-tallies n sets ps k r l a e f = record { accepted = e ∙ l.accepted; fresh = f ∙ l.fresh ∙ newly-count n sets ps l.below }

-- ---- one set that the ledger lets through: fresh exactly where no set of the ledger names its wire
module _ (n : ℕ) (sets : List Pair) (p : Pair) (z : pair_left n sets p ≡ 0) (f : ℕ) (e : f ≡ fresh_count n sets (pairs_set n sets (p ∷ []))) where
  one-fresh : f ≡ pick (has (pair_vars sets) p.var) 0 1
  one-fresh =
      let below : p.var < n = ltb-true _ _ (puts-yes (set_var_left n sets p) z 7 _ tt (search puts depth 20)) in
      let one = one-named p.var [] (pair_vars sets) n below in
      e ∙ ap (λ (k : ℕ). fresh_count n sets (on_yes k (p ∷ []) [])) z ∙ omega (arith, one, none_pass 0 n)

  pub one-unnamed : (f ≡ 1) ↔ (has (pair_vars sets) p.var ≡ false)
  one-unnamed =
      let b = by (has (pair_vars sets) p.var) in
      ((λ u. b.0 (sym one-fresh ∙ u)), (λ u. one-fresh ∙ b.1 u))
    where
      by : (b : Bool) → (pick {A = ℕ} b 0 1 ≡ 1) ↔ (b ≡ false)
      by true = ((λ u. absurd (omega (arith, u))), (λ u. cc))
      by false = ((λ u. refl), (λ u. refl))

-- along the list
pub fresh-unnamed : (w : ℕ) (s : State) (l : Ledger) (p : Pair) → Told w s l (Set p) → Accepted (answer s (Set p)).outcome
    → ((answer s (Set p)).fresh ≡ 1) ↔ (has (pair_vars l.sets) p.var ≡ false)
unfolding left_with set_by
fresh-unnamed w s l p t a =
    one-unnamed l.count l.sets p (accepted-no _ (sym t.answers.by-ledger ∙ a)) _ t.fresh

-- ---- the two tallies along a list: those that are answered are those that the ledger tells
abbrev pub tally : Answer → ℕ × ℕ
tally a = (a.accepted, a.fresh)

abbrev pub tally_by : Ledger → Call → ℕ × ℕ
tally_by l c = (length (set_by l c), fresh_count l.count l.sets (set_by l c))

pub all-tallied : (w : ℕ) (s : State) (l : Ledger) (cs : List Call) → AllTold w s l cs
    → map (λ (e : Entry). tally e.answered) (log s cs) ≡ told_by (noted w) tally_by l (log s cs)
all-tallied w s l cs = along-shown answer after (noted w) (Told w) tally tally_by (λ s l c t. λ j. (t.accepted j, t.fresh j)) cs s l

-- ---- whatever number is answered as fresh, the ledger is the same
pub fresh-unnoted : (w : ℕ) (l : Ledger) (c : Call) (a : Answer) (f : ℕ)
    → noted w l c (record { outcome = a.outcome; first = a.first; accepted = a.accepted; fresh = f }) ≡ noted w l c a
unfolding noted
fresh-unnoted w l (Allocate n) a f = refl
fresh-unnoted w l (Set p) a f = refl
fresh-unnoted w l (SetList vars values) a f = refl
fresh-unnoted w l (Record input output) a f = refl
fresh-unnoted w l (Mint input) a f = refl
fresh-unnoted w l (Equate terms image) a f = refl
fresh-unnoted w l (Tickets text) a f = refl
fresh-unnoted w l (WithdrawQuery i) a f = refl
fresh-unnoted w l (WithdrawEquation i) a f = refl
