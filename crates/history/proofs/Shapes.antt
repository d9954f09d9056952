-- Queries and a trace beside one another: the cells' wires are the queries', their units the trace's.
-- Assumes nothing.
use Prim.Native.Nat.{ℕ, ◌+◌, ◌<◌}
use mathlib.Core.Path.{◌≡◌, refl, sym, ap, ap₂, ◌∙◌}
use mathlib.Core.List.{List, [], ◌∷◌, ◌++◌}
use native.Mathlib.Omega.{arith}
use lib.ListN.{length}
use Rattle.limits.specs.Numbers.{prime}
use Rattle.words.specs.Store.{All}
use Rattle.words.specs.Pieces.{flat}
use Rattle.words.proofs.Lists.{all_append}
use Rattle.allocator.specs.Slots.{Pair, pairs}
use Rattle.instance.specs.Parts.{pair_vars}
use Rattle.validity.specs.Values.{cells}

-- a trace at width w: 2w units to a step
pub record IsTrace (w : ℕ) (trace : List (List ℕ)) : Type 0 where
  pub lengths : All (λ s. length s ≡ w + w) trace
  pub units : All (λ s. All (λ v. v < prime) s) trace

-- ---- a fact of every item of a list in two parts
pub all_left : {A : Type 0} (P : A → Type 0) (l r : List A) → All P (l ++ r) → All P l
all_left P [] r a = tt
all_left P (x ∷ l) r a = (a.0, all_left P l r a.1)

pub all_right : {A : Type 0} (P : A → Type 0) (l r : List A) → All P (l ++ r) → All P r
all_right P [] r a = a
all_right P (x ∷ l) r a = all_right P l r a.1

-- ---- queries and steps
pair_vars-append : (ps qs : List Pair) → pair_vars (ps ++ qs) ≡ pair_vars ps ++ pair_vars qs
pair_vars-append [] qs = refl
pair_vars-append (p ∷ ps) qs = ap (λ (l : List ℕ). p.var ∷ l) (pair_vars-append ps qs)

wires-pairs : (q s : List ℕ) → length s ≡ length q → pair_vars (pairs q s) ≡ q
wires-pairs [] s l = refl
wires-pairs (x ∷ q) [] l = absurd (let z : ⊥ = omega arith in z)
wires-pairs (x ∷ q) (v ∷ s) l = ap (λ (l : List ℕ). x ∷ l) (wires-pairs q s (omega arith))

pub wires-cells : (k : ℕ) (qs ss : List (List ℕ)) → length ss ≡ length qs → All (λ q. length q ≡ k) qs → All (λ s. length s ≡ k) ss
    → pair_vars (cells qs ss) ≡ flat qs
wires-cells k [] ss l a b = refl
wires-cells k (q ∷ qs) [] l a b = absurd (let z : ⊥ = omega arith in z)
wires-cells k (q ∷ qs) (s ∷ ss) l a b =
    pair_vars-append (pairs q s) (cells qs ss)
    ∙ ap₂ (λ (u v : List ℕ). u ++ v) (wires-pairs q s (b.0 ∙ sym a.0)) (wires-cells k qs ss (omega arith) a.1 b.1)

pub below-pairs : (P : ℕ → Type 0) (q s : List ℕ) → All P q → All (λ (p : Pair). P p.var) (pairs q s)
below-pairs P [] s a = tt
below-pairs P (x ∷ q) [] a = tt
below-pairs P (x ∷ q) (v ∷ s) a = (a.0, below-pairs P q s a.1)

pub below-cells : (P : ℕ → Type 0) (qs ss : List (List ℕ)) → All P (flat qs) → All (λ (p : Pair). P p.var) (cells qs ss)
below-cells P [] ss a = tt
below-cells P (q ∷ qs) [] a = tt
below-cells P (q ∷ qs) (s ∷ ss) a =
    all_append _ (pairs q s) (cells qs ss) (below-pairs P q s (all_left P q (flat qs) a)) (below-cells P qs ss (all_right P q (flat qs) a))

units-pairs : (P : ℕ → Type 0) (q s : List ℕ) → All P s → All (λ (p : Pair). P p.value) (pairs q s)
units-pairs P [] s a = tt
units-pairs P (x ∷ q) [] a = tt
units-pairs P (x ∷ q) (v ∷ s) a = (a.0, units-pairs P q s a.1)

pub units-cells : (P : ℕ → Type 0) (qs ss : List (List ℕ)) → All (λ s. All P s) ss → All (λ (p : Pair). P p.value) (cells qs ss)
units-cells P [] ss a = tt
units-cells P (q ∷ qs) [] a = tt
units-cells P (q ∷ qs) (s ∷ ss) a = all_append _ (pairs q s) (cells qs ss) (units-pairs P q s a.0) (units-cells P qs ss a.1)
