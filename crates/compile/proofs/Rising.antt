-- The publics that the gate makes: their wires strictly increase and are below the wire count, and their units
-- are below p where the slots are sound. Assumes nothing.
use Prim.Native.Nat.{ℕ, suc, ◌+◌, ◌≤◌, ◌<◌}
use mathlib.Core.Path.{◌≡◌, refl}
use mathlib.Core.Bool.{Bool, true, false}
use mathlib.Core.List.{List, [], ◌∷◌}
use mathlib.Core.Logic.{inl, inr}
use native.Mathlib.Omega.{arith}
use borrow.Author.Tests.{eqb-false}
use lib.Dec.{eqb}
use lib.ListN.{length, take}
use Rattle.limits.specs.Numbers.{prime, unassigned}
use Rattle.limits.specs.Questions.{pick}
use Rattle.words.specs.Store.{All}
use Rattle.words.proofs.Lists.{all_map}
use Rattle.allocator.specs.Slots.{Pair, pair}
use Rattle.permutation.specs.declared.PermutationRelation.{PermutationRelation}
use Rattle.instance.specs.Parts.{pair_vars, pair_values}
use Rattle.held.proofs.Facts.{Below, SoundSlot}
use Rattle.compile.specs.Gate.{publics_from, publics_of}
use Rattle.compile.proofs.Publics.{take-few}

-- ---- the wires strictly increase, from a lowest one on
abbrev pub Rising : ℕ → List Pair → Type 0
Rising low [] = Unit {0}
Rising low (p ∷ ps) = (low ≤ p.var) × Rising (suc p.var) ps

lower : (a b : ℕ) (ps : List Pair) → a ≤ b → Rising b ps → Rising a ps
lower a b [] h r = tt
lower a b (p ∷ ps) h r = let k = r.0 in (omega arith, r.1)

pub publics_from-rising : (i : ℕ) (s : List ℕ) → Rising i (publics_from i s)
publics_from-rising i [] = tt
publics_from-rising i (x ∷ s) = go (eqb x unassigned) (publics_from-rising (suc i) s)
  where
    go : (b : Bool) → Rising (suc i) (publics_from (suc i) s)
        → Rising i (pick b (publics_from (suc i) s) (pair i x ∷ publics_from (suc i) s))
    go true r = lower i (suc i) (publics_from (suc i) s) (omega arith) r
    go false r = (omega arith, r)

-- ---- and are below the count
pub publics_from-below : (i : ℕ) (s : List ℕ) → Below (i + length s) (pair_vars (publics_from i s))
publics_from-below i [] = tt
publics_from-below i (x ∷ s) =
    let e : suc i + length s ≡ i + suc (length s) = omega arith in
    go (eqb x unassigned) (rw e at (publics_from-below (suc i) s))
  where
    go : (b : Bool) → Below (i + suc (length s)) (pair_vars (publics_from (suc i) s))
        → Below (i + suc (length s)) (pair_vars (pick b (publics_from (suc i) s) (pair i x ∷ publics_from (suc i) s)))
    go true r = r
    go false r = (omega arith, r)

pub within : (a b : ℕ) (l : List ℕ) → a ≤ b → Below a l → Below b l
within a b l h r = all_map (λ (x : ℕ). x < a) (λ (x : ℕ). x < b) l (λ x k. omega arith) r

pub publics_of-below : (rel : PermutationRelation) (slots : List ℕ) → Below rel.vars (pair_vars (publics_of rel slots))
unfolding publics_of
publics_of-below rel slots =
    within (0 + length (take rel.vars slots)) rel.vars (pair_vars (publics_from 0 (take rel.vars slots))) (omega (arith, take-few rel.vars slots))
    (publics_from-below 0 (take rel.vars slots))

-- ---- the units of sound slots are below p
unit-of : (x : ℕ) → SoundSlot x → (x ≡ unassigned → ⊥) → x < prime
unit-of x (inl h) u = h
unit-of x (inr e) u = absurd (u e)

pub publics_from-values : (i : ℕ) (s : List ℕ) → All SoundSlot s → Below prime (pair_values (publics_from i s))
publics_from-values i [] a = tt
publics_from-values i (x ∷ s) a = go (eqb x unassigned) refl (publics_from-values (suc i) s a.1)
  where
    go : (b : Bool) → eqb x unassigned ≡ b → Below prime (pair_values (publics_from (suc i) s))
        → Below prime (pair_values (pick b (publics_from (suc i) s) (pair i x ∷ publics_from (suc i) s)))
    go true e r = r
    go false e r = (unit-of x a.0 (eqb-false x unassigned e), r)

pub publics_of-values : (rel : PermutationRelation) (slots : List ℕ) → All SoundSlot (take rel.vars slots)
    → Below prime (pair_values (publics_of rel slots))
unfolding publics_of
publics_of-values rel slots a = publics_from-values 0 (take rel.vars slots) a
