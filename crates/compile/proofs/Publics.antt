-- The publics of a relation: the assigned wires in index order, and no others. Assumes nothing.
use Prim.Native.Nat.{ℕ, zero, suc, ◌+◌, ◌*◌, ◌-◌, ◌≤◌, ◌<◌}
use mathlib.Core.Path.{◌≡◌, refl, ap, ◌∙◌}
use mathlib.Core.Bool.{Bool, true, false, not}
use mathlib.Core.List.{List, [], ◌∷◌, ◌++◌}
use native.Mathlib.Omega.{arith}
use native.Mathlib.Numerals.{add-one}
use native.Mathlib.Nat.{min-le_left}
use borrow.Author.Tests.{eq-eqb, ne_eqb}
use lib.Dec.{eqb}
use lib.ListN.{length, take, drop, get_or, set, replicate, length-take, drop_of_length-le}
use lib.Seq.{drop-cons, sets}
use Rattle.limits.specs.Numbers.{unassigned}
use Rattle.limits.specs.Questions.{pick}
use Rattle.words.specs.Store.{put_words}
use Rattle.words.proofs.Written.{sets-put}
use Rattle.allocator.specs.Slots.{Pair, pair}
use Rattle.instance.specs.Parts.{pair_words, pair_vars, has}
use Rattle.instance.proofs.Parts.{pair_words-length}
use Rattle.compile.specs.Gate.{publics_from, publics_store}

-- ---- from wire i on
unfoldable pub publics_at : List ℕ → ℕ → List Pair
publics_at slots i = publics_from i (drop i slots)

module _ (slots : List ℕ) where
  pub publics-whole : publics_at slots 0 ≡ publics_from 0 slots
  unfolding publics_at
  publics-whole = refl

  module _ (i : ℕ) where
    pub publics-done : length slots ≤ i → publics_at slots i ≡ []
    unfolding publics_at
    publics-done h = rw (drop_of_length-le slots h)

    module _ (h : i < length slots) where
      pub publics-skip : get_or slots i 0 ≡ unassigned → publics_at slots i ≡ publics_at slots (i + 1)
      unfolding publics_at
      publics-skip u = rw (drop-cons slots i 0 h, add-one) (simp (eq-eqb (get_or slots i 0) unassigned u))

      pub publics-take : (get_or slots i 0 ≡ unassigned → ⊥) → publics_at slots i ≡ pair i (get_or slots i 0) ∷ publics_at slots (i + 1)
      unfolding publics_at
      publics-take u = rw (drop-cons slots i 0 h, add-one) (simp (ne_eqb (get_or slots i 0) unassigned u))

-- ---- a wire is public exactly where its slot is assigned
before : (i : ℕ) (slots : List ℕ) (x : ℕ) → x < i → has (pair_vars (publics_from i slots)) x ≡ false
before i [] x h = refl
before i (s ∷ slots) x h = go (eqb s unassigned) (before (suc i) slots x (omega arith))
  where
    go : (b : Bool) → has (pair_vars (publics_from (suc i) slots)) x ≡ false
        → has (pair_vars (pick b (publics_from (suc i) slots) (pair i s ∷ publics_from (suc i) slots))) x ≡ false
    go true e = e
    go false e = rw (ne_eqb x i (λ z. omega arith)) e

publics-from : (i : ℕ) (slots : List ℕ) (k : ℕ)
    → has (pair_vars (publics_from i slots)) (i + k) ≡ not (eqb (get_or slots k unassigned) unassigned)
publics-from i [] k = refl
publics-from i (s ∷ slots) zero = go (eqb s unassigned)
  where
    z : i + 0 ≡ i
    z = omega arith

    go : (b : Bool) → has (pair_vars (pick b (publics_from (suc i) slots) (pair i s ∷ publics_from (suc i) slots))) (i + 0) ≡ not b
    go true = before (suc i) slots (i + 0) (omega arith)
    go false = rw (eq-eqb (i + 0) i z)
publics-from i (s ∷ slots) (suc k) = go (eqb s unassigned) (publics-from (suc i) slots k)
  where
    z : i + suc k ≡ suc i + k
    z = omega arith

    go : (b : Bool) → has (pair_vars (publics_from (suc i) slots)) (suc i + k) ≡ not (eqb (get_or slots k unassigned) unassigned)
        → has (pair_vars (pick b (publics_from (suc i) slots) (pair i s ∷ publics_from (suc i) slots))) (i + suc k)
        ≡ not (eqb (get_or slots k unassigned) unassigned)
    go true e = rw z e
    go false e = rw (z, ne_eqb (suc i + k) i (λ w. omega arith)) e

pub publics-has : (slots : List ℕ) (x : ℕ) → has (pair_vars (publics_from 0 slots)) x ≡ not (eqb (get_or slots x unassigned) unassigned)
publics-has slots x = let z : x ≡ 0 + x = omega arith in ap (has (pair_vars (publics_from 0 slots))) z ∙ publics-from 0 slots x

-- ---- no more slots than wires
pub take-few : (n : ℕ) (slots : List ℕ) → length (take n slots) ≤ n
take-few n slots = simp length-take (min-le_left n (length slots))

-- ---- pairs stored one by one, from place `to` on
unfoldable pub stored : List ℕ → ℕ → List Pair → List ℕ
stored out to ps = sets out to (pair_words ps)

pub store_pair : (out : List ℕ) (to : ℕ) (p : Pair) (ps : List Pair)
    → stored (set (set out to p.var) (to + 1) p.value) (to + 2) ps ≡ stored out to (p ∷ ps)
unfolding stored
store_pair out to p ps =
    let a : to + 1 ≡ suc to = omega arith in
    let b : to + 2 ≡ suc (suc to) = omega arith in
    rw (a, b)

pub stored-none : (out : List ℕ) (to : ℕ) → stored out to [] ≡ out
unfolding stored
stored-none out to = refl

pub stored-put : (out : List ℕ) (ps : List Pair) → 2 * length ps ≤ length out → stored out 0 ps ≡ put_words 0 (pair_words ps) out
unfolding stored
stored-put out ps h = let n = pair_words-length ps in sets-put 0 (pair_words ps) out (omega arith)

-- ---- on a store of zeros
drop-replicate : (n k v : ℕ) → drop k (replicate n v) ≡ replicate (n - k) v
drop-replicate n zero v = let e : n - 0 ≡ n = omega arith in rw e
drop-replicate zero (suc k) v = let e : 0 - suc k ≡ 0 = omega arith in rw e
drop-replicate (suc n) (suc k) v = let e : suc n - suc k ≡ n - k = omega arith in rw e (drop-replicate n k v)

pub put-zeros : (len : ℕ) (ps : List Pair) → put_words 0 (pair_words ps) (replicate len 0) ≡ publics_store len ps
put-zeros len ps =
    let n : 0 + length (pair_words ps) ≡ 2 * length ps = omega (arith, pair_words-length ps) in
    ap (λ (k : ℕ). pair_words ps ++ drop k (replicate len 0)) n ∙ ap (λ (l : List ℕ). pair_words ps ++ l) (drop-replicate len (2 * length ps) 0)
