-- The publics that the gate makes carry what the slots hold: wire x carries its slot's value, by the place in
-- the list of slots. And which wires the sets give a value. Assumes nothing.
use Prim.Native.Nat.{ℕ, zero, suc, ◌+◌, ◌<◌}
use mathlib.Core.Path.{◌≡◌, refl, ap, ◌∙◌}
use mathlib.Core.Bool.{Bool, true, false, ◌||◌}
use mathlib.Core.List.{List, [], ◌∷◌}
use mathlib.Core.Option.{Option, none, some}
use native.Mathlib.Omega.{arith}
use borrow.Author.Tests.{ne_eqb}
use lib.Dec.{eqb}
use lib.ListN.{get_or}
use Rattle.limits.specs.Numbers.{unassigned}
use Rattle.limits.specs.Questions.{pick}
use Rattle.allocator.specs.Slots.{Pair, pair}
use Rattle.allocator.specs.Values.{Values, is_some, nothing, put, put_all, slot_unit, look}
use Rattle.allocator.proofs.Values.{put_same}
use Rattle.instance.specs.Parts.{pair_vars, has}
use Rattle.compile.specs.Gate.{publics_from}

put_other : (p : Pair) (g : Values) (x : ℕ) → (x ≡ p.var → ⊥) → put p g x ≡ g x
put_other p g x h = rw (ne_eqb x p.var h)

-- a wire before the first is left alone
low : (g : Values) (i : ℕ) (l : List ℕ) (x : ℕ) → x < i → put_all g (publics_from i l) x ≡ g x
low g i [] x h = refl
low g i (s ∷ ss) x h = go (eqb s unassigned) (low g (suc i) ss x (omega arith)) (low (put (pair i s) g) (suc i) ss x (omega arith))
  where
    go : (b : Bool) → put_all g (publics_from (suc i) ss) x ≡ g x → put_all (put (pair i s) g) (publics_from (suc i) ss) x ≡ put (pair i s) g x
        → put_all g (pick b (publics_from (suc i) ss) (pair i s ∷ publics_from (suc i) ss)) x ≡ g x
    go true a e = a
    go false a e = e ∙ put_other (pair i s) g x (λ z. omega arith)

-- the wires from the first on carry their slots
high : (g : Values) (i : ℕ) (l : List ℕ) → ((k : ℕ) → g (i + k) ≡ none) → (k : ℕ) → put_all g (publics_from i l) (i + k) ≡ slot_unit (get_or l k unassigned)
high g i [] n k = n k
high g i (s ∷ ss) n zero = go (eqb s unassigned)
  where
    go : (b : Bool) → put_all g (pick b (publics_from (suc i) ss) (pair i s ∷ publics_from (suc i) ss)) (i + 0) ≡ pick b none (some s)
    go true = low g (suc i) ss (i + 0) (omega arith) ∙ n 0
    go false =
        let z : i + 0 ≡ i = omega arith in
        low (put (pair i s) g) (suc i) ss (i + 0) (omega arith) ∙ ap (put (pair i s) g) z ∙ put_same (pair i s) g
high g i (s ∷ ss) n (suc k) =
    go (eqb s unassigned) (high g (suc i) ss left k) (high (put (pair i s) g) (suc i) ss (λ j. put_other (pair i s) g (suc i + j) (λ z. omega arith) ∙ left j) k)
  where
    left : (j : ℕ) → g (suc i + j) ≡ none
    left j = let z : suc i + j ≡ i + suc j = omega arith in ap g z ∙ n (suc j)

    go : (b : Bool) → put_all g (publics_from (suc i) ss) (suc i + k) ≡ slot_unit (get_or ss k unassigned)
        → put_all (put (pair i s) g) (publics_from (suc i) ss) (suc i + k) ≡ slot_unit (get_or ss k unassigned)
        → put_all g (pick b (publics_from (suc i) ss) (pair i s ∷ publics_from (suc i) ss)) (i + suc k) ≡ slot_unit (get_or ss k unassigned)
    go true a e = let z : i + suc k ≡ suc i + k = omega arith in ap (put_all g (publics_from (suc i) ss)) z ∙ a
    go false a e = let z : i + suc k ≡ suc i + k = omega arith in ap (put_all (put (pair i s) g) (publics_from (suc i) ss)) z ∙ e

pub publics-carry : (l : List ℕ) (x : ℕ) → put_all nothing (publics_from 0 l) x ≡ slot_unit (get_or l x unassigned)
publics-carry l x = let z : x ≡ 0 + x = omega arith in ap (put_all nothing (publics_from 0 l)) z ∙ high nothing 0 l (λ k. refl) x

-- the sets give a value exactly to the wires that they name
some-by : (b : Bool) (v : ℕ) (o : Option ℕ) → is_some (pick b (some v) o) ≡ b || is_some o
some-by true v o = refl
some-by false v o = refl

pub look-domain : (sets : List Pair) (x : ℕ) → is_some (look sets x) ≡ has (pair_vars sets) x
look-domain [] x = refl
look-domain (p ∷ ps) x = some-by (eqb x p.var) p.value (look ps x) ∙ ap (λ (t : Bool). eqb x p.var || t) (look-domain ps x)
