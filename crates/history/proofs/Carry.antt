-- What wires carry after pairs are put: what an assignment says may be put, which wires carry something, and
-- when two that carry are equal. Assumes nothing.
use Prim.Native.Nat.{ℕ, ◌<◌}
use mathlib.Core.Path.{◌≡◌, refl, sym, ap, ◌∙◌}
use mathlib.Core.Bool.{Bool, true, false, ◌||◌}
use mathlib.Core.List.{List, [], ◌∷◌}
use mathlib.Core.Option.{Option, none, some}
use borrow.Author.Tests.{eqb-true, eq-eqb}
use lib.Dec.{eqb}
use Rattle.limits.specs.Numbers.{prime}
use Rattle.limits.specs.Questions.{pick}
use Rattle.words.specs.Store.{All}
use Rattle.allocator.specs.Slots.{Pair}
use Rattle.allocator.specs.Values.{Values, is_some, put, put_all, fits, Under, Agree, Units}
use Rattle.allocator.proofs.Values.{put-units}
use Rattle.instance.specs.Parts.{pair_vars, has}

-- what f says of the wire may be put
pub stays : (g f : Values) (p : Pair) → Under g f → f p.var ≡ some p.value → Under (put p g) f
stays g f p u a x v = go (eqb x p.var) refl
  where
    go : (b : Bool) → eqb x p.var ≡ b → pick b (some p.value) (g x) ≡ some v → f x ≡ some v
    go true q e = ap f (eqb-true x p.var q) ∙ a ∙ e
    go false q e = u x v e

pub fits_under : (g f : Values) (p : Pair) → Under g f → f p.var ≡ some p.value → fits (g p.var) p.value ≡ true
fits_under g f p u a = go (g p.var) refl
  where
    go : (o : Option ℕ) → g p.var ≡ o → fits o p.value ≡ true
    go none q = refl
    go (some w) q = let h : f p.var ≡ some w = u p.var w q in eq-eqb w p.value (cc)

pub stays_all : (g f : Values) (ps : List Pair) → Under g f → Agree f ps → Under (put_all g ps) f
stays_all g f [] u a = u
stays_all g f (p ∷ ps) u a = stays_all (put p g) f ps (stays g f p u a.0) a.1

-- ---- which wires carry something
one_more : (a b : Bool) (v : ℕ) (o : Option ℕ) → a || is_some (pick b (some v) o) ≡ (b || a) || is_some o
one_more true true v o = refl
one_more true false v o = refl
one_more false true v o = refl
one_more false false v o = refl

pub domain : (g : Values) (ps : List Pair) (x : ℕ) → is_some (put_all g ps x) ≡ has (pair_vars ps) x || is_some (g x)
domain g [] x = refl
domain g (p ∷ ps) x = domain (put p g) ps x ∙ one_more (has (pair_vars ps) x) (eqb x p.var) p.value (g x)

same_by : (o q : Option ℕ) → ((v : ℕ) → o ≡ some v → q ≡ some v) → is_some o ≡ is_some q → o ≡ q
same_by none none u d = refl
same_by none (some v) u d = cc
same_by (some v) q u d = sym (u v refl)

-- one under the other, on the same wires: they are equal
pub same : (g f : Values) → Under g f → ((x : ℕ) → is_some (g x) ≡ is_some (f x)) → (x : ℕ) → g x ≡ f x
same g f u d x = same_by (g x) (f x) (u x) (d x)

-- ---- all units below the prime
abbrev pub UnitPairs : List Pair → Type 0
UnitPairs = All (λ (p : Pair). p.value < prime)

pub units-all : (g : Values) (ps : List Pair) → Units g → UnitPairs ps → Units (put_all g ps)
units-all g [] u a = u
units-all g (p ∷ ps) u a = units-all (put p g) ps (put-units g p u a.0) a.1
