-- What the cells of a trace give the wires. Assumes nothing.
use Rattle.std.specs.Prelude.{ℕ, List, [], ◌∷◌, ◌++◌}
use Rattle.std.proofs.Math.Option.{Option, none, some}
use Rattle.allocator.specs.Slots.{Pair, pairs}

-- a unit that is carried, or 0
abbrev pub or_zero : Option ℕ → ℕ
or_zero none = 0
or_zero (some v) = v

-- the cells of every query with the units of its step, in order
abbrev pub cells : List (List ℕ) → List (List ℕ) → List Pair
cells [] steps = []
cells (q ∷ qs) [] = []
cells (q ∷ qs) (s ∷ steps) = pairs q s ++ cells qs steps
