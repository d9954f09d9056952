-- What wires carry: a unit or nothing, as a function of the wire; what a list of sets gives them, and what a
-- slot holds. Assumes nothing.
use Rattle.std.specs.Prelude.{ℕ, ◌<◌, ◌≡◌, Bool, true, false, List, [], ◌∷◌, eqb}
use Rattle.std.proofs.Math.Option.{Option, none, some}
use Rattle.limits.specs.Numbers.{prime, unassigned}
use Rattle.limits.specs.Questions.{pick}
use Rattle.words.specs.Store.{All}
use Rattle.allocator.specs.Slots.{Pair}

-- what each wire carries, if anything
abbrev pub Values : Type 0
Values = ℕ → Option ℕ

-- is anything carried?
abbrev pub is_some : Option ℕ → Bool
is_some none = false
is_some (some v) = true

-- no wire carries anything
abbrev pub nothing : Values
nothing x = none

-- a pair written
abbrev pub put : Pair → Values → Values
put p g x = pick (eqb x p.var) (some p.value) (g x)

-- pairs written in order, so that the later counts
abbrev pub put_all : Values → List Pair → Values
put_all g [] = g
put_all g (p ∷ ps) = put_all (put p g) ps

-- what sets give the wires, the newest first
abbrev pub look : List Pair → Values
look [] = nothing
look (p ∷ ps) = put p (look ps)

-- sets joined by pairs in order, each in front of those before it
abbrev pub joins : List Pair → List Pair → List Pair
joins sets [] = sets
joins sets (p ∷ ps) = joins (p ∷ sets) ps

-- nothing is carried, or that unit
abbrev pub fits : Option ℕ → ℕ → Bool
fits none v = true
fits (some u) v = eqb u v

-- what g carries, f carries too
abbrev pub Under : Values → Values → Type 0
Under g f = (x v : ℕ) → g x ≡ some v → f x ≡ some v

-- each pair's wire carries its unit
abbrev pub Agree : Values → List Pair → Type 0
Agree f = All (λ (p : Pair). f p.var ≡ some p.value)

-- only units are carried
abbrev pub Units : Values → Type 0
Units g = (x v : ℕ) → g x ≡ some v → v < prime

-- what a slot holds
abbrev pub slot_unit : ℕ → Option ℕ
slot_unit held = pick (eqb held unassigned) none (some held)
