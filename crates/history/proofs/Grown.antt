-- What the tallies come to along a list: the pairs that a call sets by the ledger are those that join the ledger's sets, and
-- each fresh one makes one wire more public. So after any list there are as many publics as fresh sets, and wire 0.
-- Assumes nothing.
use Prim.Native.Nat.{ℕ, zero, suc, ◌+◌, ◌≤◌}
use mathlib.Core.Path.{◌≡◌, refl, sym, ap, ap₂, ◌∙◌}
use mathlib.Core.Bool.{Bool, true, false, not, ◌&&◌, ◌||◌}
use mathlib.Core.List.{List, [], ◌∷◌, map, map-id}
use native.Mathlib.Omega.{arith}
use lib.Dec.{eqb}
use lib.ListN.{length, take, get_or-eq_default}
use lib.Seq.{length-take-le}
use Rattle.limits.specs.Numbers.{unassigned}
use Rattle.limits.specs.Questions.{Question, pick, on_yes}
use Rattle.limits.specs.Outcome.{outcome_of, outcome_number, is_accepted, Outcome}
use Rattle.allocator.specs.Slots.{Pair, pairs}
use Rattle.allocator.specs.Values.{joins, is_some, slot_unit}
use Rattle.permutation.specs.Sharing.{nothing}
use Rattle.permutation.specs.Answers.{new_relation}
use Rattle.permutation.specs.Left.{items_set, pair_left, pairs_set, lists_left}
use Rattle.tickets.specs.Lines.{lines_of, line_pair}
use Rattle.tickets.specs.Left.{line_left}
use Rattle.instance.specs.Parts.{pair_vars, has}
use Rattle.history.specs.Ledger.{Ledger}
use Rattle.history.specs.Calls.{Call, Allocate, Set, SetList, Record, Mint, Equate, Tickets, WithdrawQuery, WithdrawEquation, State, Lengths, lengths_of, Answer, answer, after, ledger, noted, Entry, log, ledger_of}
use Rattle.history.specs.Left.{left_with, set_by, number_of, fresh_count, public_count}
use Rattle.history.specs.Demand.{Accepted, Told}
use Rattle.history.specs.Whole.{begin, last_ledger}
use Rattle.history.proofs.Publics.{look-domain}
use Rattle.history.proofs.Keeps.{Agrees, fresh-agrees, keeps}
use Rattle.history.proofs.Told.{told}

-- ---- the pairs that a call sets join the ledger's sets
-- as many of the first items as pairs are set
items-taken : {A : Type 0} (left_of : List Pair → A → ℕ) (pair_of : A → Pair) (items : List A) (sets : List Pair)
    → map pair_of (take (length (items_set left_of pair_of sets items)) items) ≡ items_set left_of pair_of sets items
items-taken left_of pair_of [] sets = refl
items-taken left_of pair_of (a ∷ items) sets =
    go (left_of sets a) (items_set left_of pair_of (pair_of a ∷ sets) items) (items-taken left_of pair_of items (pair_of a ∷ sets))
  where
    go : (k : ℕ) (ps : List Pair) → map pair_of (take (length ps) items) ≡ ps
        → map pair_of (take (length (on_yes k (pair_of a ∷ ps) [])) (a ∷ items)) ≡ on_yes k (pair_of a ∷ ps) []
    go zero ps e = ap (λ (q : List Pair). pair_of a ∷ q) e
    go (suc k) ps e = refl

-- behind a number
taken-by : (k : ℕ) (ps qs : List Pair) → take (length ps) qs ≡ ps → take (length (on_yes k ps [])) qs ≡ on_yes k ps []
taken-by zero ps qs e = e
taken-by (suc k) ps qs e = refl

-- by any answer that has the number and the tally that the ledger tells
module _ (w : ℕ) (l : Ledger) where
  -- sets that are the same either way
  same-sets : (b : Bool) (new : Ledger) → new.sets ≡ l.sets → (pick b new l).sets ≡ l.sets
  same-sets true new e = e
  same-sets false new e = refl

  one-joins : (p : Pair) (k : ℕ) (o : Outcome) → o ≡ outcome_of k
      → (pick (is_accepted o) (ledger l.count (p ∷ l.sets) l.queries l.equations) l).sets ≡ joins l.sets (on_yes k (p ∷ []) [])
  one-joins p zero o e = rw e
  one-joins p (suc k) o e = rw e

  pub joined_by : (within : ℕ → List Question) (lengths : Lengths) (c : Call) (a : Answer)
      → a.outcome ≡ outcome_of (left_with within w lengths l c) → a.accepted ≡ length (set_by l c)
      → (noted w l c a).sets ≡ joins l.sets (set_by l c)
  unfolding noted set_by left_with
  joined_by within lengths (Allocate n) a o e = same-sets (is_accepted a.outcome) _ refl
  joined_by within lengths (Set p) a o e = one-joins p (pair_left l.count l.sets p) a.outcome o
  joined_by within lengths (SetList vars values) a o e =
      let ps = pairs_set l.count l.sets (pairs vars values) in
      ap (joins l.sets)
      (ap (λ (k : ℕ). take k (pairs vars values)) e
      ∙ taken-by (lists_left vars values) ps (pairs vars values)
      (sym (map-id (take (length ps) (pairs vars values))) ∙ items-taken (pair_left l.count) (λ p. p) (pairs vars values) l.sets))
  joined_by within lengths (Record input output) a o e = same-sets (is_accepted a.outcome) _ refl
  joined_by within lengths (Mint input) a o e = same-sets (is_accepted a.outcome) _ refl
  joined_by within lengths (Equate terms image) a o e = same-sets (is_accepted a.outcome) _ refl
  joined_by within lengths (Tickets text) a o e =
      ap (joins l.sets)
      (ap (λ (k : ℕ). map line_pair (take k (lines_of text))) e ∙ items-taken (line_left l.count) line_pair (lines_of text) l.sets)
  joined_by within lengths (WithdrawQuery i) a o e = same-sets (is_accepted a.outcome) _ refl
  joined_by within lengths (WithdrawEquation i) a o e = same-sets (is_accepted a.outcome) _ refl

  -- a refused one that sets nothing
  pub none-joined : (c : Call) (a : Answer) → is_accepted a.outcome ≡ false → a.accepted ≡ 0 → (noted w l c a).sets ≡ l.sets
  unfolding noted
  none-joined (Allocate n) a o e = same-sets (is_accepted a.outcome) _ refl
  none-joined (Set p) a o e = rw o
  none-joined (SetList vars values) a o e = rw e
  none-joined (Record input output) a o e = same-sets (is_accepted a.outcome) _ refl
  none-joined (Mint input) a o e = same-sets (is_accepted a.outcome) _ refl
  none-joined (Equate terms image) a o e = same-sets (is_accepted a.outcome) _ refl
  none-joined (Tickets text) a o e = rw e
  none-joined (WithdrawQuery i) a o e = same-sets (is_accepted a.outcome) _ refl
  none-joined (WithdrawEquation i) a o e = same-sets (is_accepted a.outcome) _ refl

-- along the list
pub joined : (w : ℕ) (s : State) (l : Ledger) (c : Call) → Told w s l c → (noted w l c (answer s c)).sets ≡ joins l.sets (set_by l c)
joined w s l c t = joined_by w l nothing (lengths_of s) c (answer s c) t.answers.by-ledger t.accepted

-- ---- counting wires
-- tests that agree everywhere
same_number : (t u : ℕ → Bool) → ((x : ℕ) → t x ≡ u x) → (i n : ℕ) → number_of t i n ≡ number_of u i n
same_number t u e i zero = refl
same_number t u e i (suc n) = ap₂ (λ (b : Bool) (k : ℕ). pick b 1 0 + k) (e i) (same_number t u e (suc i) n)

-- either test passes: the second, or the first alone
either_number : (t u : ℕ → Bool) (i n : ℕ) → number_of (λ x. t x || u x) i n ≡ number_of u i n + number_of (λ x. t x && not (u x)) i n
either_number t u i zero = refl
either_number t u i (suc n) = go (t i) (u i) (either_number t u (suc i) n)
  where
    go : (b c : Bool) → number_of (λ x. t x || u x) (suc i) n ≡ number_of u (suc i) n + number_of (λ x. t x && not (u x)) (suc i) n
        → pick (b || c) 1 0 + number_of (λ x. t x || u x) (suc i) n
        ≡ (pick c 1 0 + number_of u (suc i) n) + (pick (b && not c) 1 0 + number_of (λ x. t x && not (u x)) (suc i) n)
    go true true e = omega (arith, e)
    go true false e = omega (arith, e)
    go false true e = omega (arith, e)
    go false false e = omega (arith, e)

-- wires that don't pass, behind the others
none-behind : (t : ℕ → Bool) (i a : ℕ) → ((x : ℕ) → i ≤ x → t x ≡ false) → number_of t i a ≡ 0
none-behind t i zero f = refl
none-behind t i (suc a) f = rw (f i (omega arith)) (omega (arith, none-behind t (suc i) a (λ x h. f x (omega arith))))

more-wires : (t : ℕ → Bool) (i n a : ℕ) → ((x : ℕ) → i + n ≤ x → t x ≡ false) → number_of t i (n + a) ≡ number_of t i n
more-wires t i zero a f =
    let e : 0 + a ≡ a = omega arith in
    rw e (none-behind t i a (λ x h. f x (omega arith)))
more-wires t i (suc n) a f =
    let e : suc n + a ≡ suc (n + a) = omega arith in
    rw e (ap (λ (k : ℕ). pick (t i) 1 0 + k) (more-wires t (suc i) n a (λ x h. f x (omega arith))))

-- ---- each fresh set makes one wire more public
-- joined sets name what the pairs name and what the sets do
joins-has : (ps sets : List Pair) (x : ℕ) → has (pair_vars (joins sets ps)) x ≡ (has (pair_vars ps) x || has (pair_vars sets) x)
joins-has [] sets x = refl
joins-has (p ∷ ps) sets x = joins-has ps (p ∷ sets) x ∙ go (eqb x p.var) (has (pair_vars ps) x) (has (pair_vars sets) x)
  where
    go : (b c d : Bool) → (c || (b || d)) ≡ ((b || c) || d)
    go true true d = refl
    go true false d = refl
    go false c d = refl

joins-publics : (n : ℕ) (sets ps : List Pair) → number_of (has (pair_vars (joins sets ps))) 0 n ≡ number_of (has (pair_vars sets)) 0 n + fresh_count n sets ps
joins-publics n sets ps = same_number _ _ (joins-has ps sets) 0 n ∙ either_number (has (pair_vars ps)) (has (pair_vars sets)) 0 n

module _ (w : ℕ) (s : State) (l : Ledger) (i : Agrees w s l) where
  -- the sets name no wire beyond the count
  named-below : (x : ℕ) → l.count ≤ x → has (pair_vars l.sets) x ≡ false
  named-below x h =
      let o = i.in_slots in
      let n = length-take-le s.relation.vars s.slots o.room in
      let past : length (take s.relation.vars s.slots) ≤ x = omega (arith, n, i.count) in
      let d = get_or-eq_default (take s.relation.vars s.slots) unassigned past in
      sym (look-domain l.sets x) ∙ ap is_some (sym (o.held x) ∙ ap slot_unit d)

  -- where the count stays
  by-joined : (c : Call) → (noted w l c (answer s c)).count ≡ l.count → public_count (noted w l c (answer s c)) ≡ public_count l + (answer s c).fresh
  by-joined c e =
      let t = told w s l i c in
      ap₂ (λ (n : ℕ) (sets : List Pair). number_of (has (pair_vars sets)) 0 n) e (joined w s l c t)
      ∙ joins-publics l.count l.sets (set_by l c)
      ∙ ap (λ (k : ℕ). public_count l + k) (sym t.fresh)

  -- by an outcome: the count stays, or grows by a
  same_count : (b : Bool) (new : Ledger) → new.count ≡ l.count → (pick b new l).count ≡ l.count
  same_count true new e = e
  same_count false new e = refl

  count-grows : (b : Bool) (new : Ledger) (a : ℕ) → new.count ≡ l.count + a → new.sets ≡ l.sets → public_count (pick b new l) ≡ public_count l + 0
  count-grows true new a e f =
      ap₂ (λ (n : ℕ) (sets : List Pair). number_of (has (pair_vars sets)) 0 n) e f
      ∙ more-wires (has (pair_vars l.sets)) 0 l.count a (λ x h. named-below x (omega arith))
      ∙ omega arith
  count-grows false new a e f = omega arith

  pub grows : (c : Call) → public_count (noted w l c (answer s c)) ≡ public_count l + (answer s c).fresh
  unfolding noted answer
  grows (Allocate n) = count-grows (is_accepted (answer s (Allocate n)).outcome) _ n refl refl
  grows (Set p) = by-joined (Set p) (same_count (is_accepted (answer s (Set p)).outcome) _ refl)
  grows (SetList vars values) = by-joined (SetList vars values) refl
  grows (Record input output) = by-joined (Record input output) (same_count (is_accepted (answer s (Record input output)).outcome) _ refl)
  grows (Mint input) = count-grows (is_accepted (answer s (Mint input)).outcome) _ w refl refl
  grows (Equate terms image) = by-joined (Equate terms image) (same_count (is_accepted (answer s (Equate terms image)).outcome) _ refl)
  grows (Tickets text) = by-joined (Tickets text) refl
  grows (WithdrawQuery k) = by-joined (WithdrawQuery k) (same_count (is_accepted (answer s (WithdrawQuery k)).outcome) _ refl)
  grows (WithdrawEquation k) = by-joined (WithdrawEquation k) (same_count (is_accepted (answer s (WithdrawEquation k)).outcome) _ refl)

-- ---- along a list
-- the fresh sets that it answers
abbrev pub fresh_in : List Entry → ℕ
fresh_in [] = 0
fresh_in (e ∷ es) = e.answered.fresh + fresh_in es

grows_all : (w : ℕ) (cs : List Call) (s : State) (l : Ledger) → Agrees w s l
    → public_count (ledger_of w l (log s cs)) ≡ public_count l + fresh_in (log s cs)
grows_all w [] s l i = omega arith
grows_all w (c ∷ cs) s l i =
    grows_all w cs (after s c) (noted w l c (answer s c)) (keeps w s l i c) ∙ omega (arith, grows w s l i c)

-- after any list: wire 0, and a public for each fresh set
pub publics-are : (w : ℕ) (slots queries equations uses : List ℕ) → Accepted (new_relation w slots uses).outcome → (cs : List Call)
    → public_count (last_ledger w slots queries equations uses cs) ≡ 1 + fresh_in (log (begin w slots queries equations uses cs) cs)
publics-are w slots queries equations uses a cs = grows_all w cs _ _ (fresh-agrees w slots queries equations uses (ap outcome_number a))
