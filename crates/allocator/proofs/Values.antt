-- What wires carry after a pair is put: a pair that fits takes nothing away. Assumes nothing.
use Prim.Native.Nat.{ℕ, ◌<◌}
use mathlib.Core.Path.{◌≡◌, refl, sym, ap, ◌∙◌}
use mathlib.Core.Bool.{Bool, true, false, ◌||◌}
use mathlib.Core.Option.{Option, none, some}
use native.Mathlib.Omega.{arith}
use borrow.Author.Tests.{eqb-true, eq-eqb, ne_eqb}
use lib.Dec.{eqb}
use Rattle.limits.specs.Numbers.{prime, unassigned}
use Rattle.limits.specs.Questions.{pick}
use Rattle.allocator.specs.Slots.{Pair}
use Rattle.allocator.specs.Values.{Values, put, fits, Under, Units, slot_unit}

pub put_same : (p : Pair) (g : Values) → put p g p.var ≡ some p.value
put_same p g = rw (eq-eqb p.var p.var refl)

fits-some : (o : Option ℕ) (v u : ℕ) → o ≡ some v → fits o u ≡ true → v ≡ u
fits-some none v u e t = cc
fits-some (some w) v u e t = let h : w ≡ u = eqb-true w u t in cc

-- a pair that fits takes nothing away
pub put-grows : (g : Values) (p : Pair) → fits (g p.var) p.value ≡ true → Under g (put p g)
put-grows g p t x v e = go (eqb x p.var) refl
  where
    go : (b : Bool) → eqb x p.var ≡ b → pick b (some p.value) (g x) ≡ some v
    go true q = ap some (sym (fits-some (g p.var) v p.value (ap g (sym (eqb-true x p.var q)) ∙ e) t))
    go false q = e

-- a unit put leaves only units
pub put-units : (g : Values) (p : Pair) → Units g → p.value < prime → Units (put p g)
put-units g p u h x v = go (eqb x p.var)
  where
    go : (b : Bool) → pick b (some p.value) (g x) ≡ some v → v < prime
    go true e = let z : p.value ≡ v = cc in omega arith
    go false e = u x v e

-- ---- slots
pub slot-some : (v : ℕ) → v < prime → slot_unit v ≡ some v
slot-some v h = rw (ne_eqb v unassigned (λ e. omega arith))

-- a slot takes what fits what it holds
pub slot-fits : (held v : ℕ) → fits (slot_unit held) v ≡ (eqb held unassigned || eqb held v)
slot-fits held v = go (eqb held unassigned)
  where
    go : (b : Bool) → fits (pick b none (some held)) v ≡ (b || eqb held v)
    go true = refl
    go false = refl
