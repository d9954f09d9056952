-- What record and slots hold, in the terms of a reader who kept a book of the calls: the wire count and the sets
-- (newest first). What lies in the slots past the count is free. Assumes nothing.
use Rattle.std.specs.Prelude.{ℕ, ◌≤◌, ◌≡◌, List, length, take, get_or}
use Rattle.std.proofs.Math.Option.{some}
use Rattle.limits.specs.Numbers.{unassigned, max_count}
use Rattle.allocator.specs.Slots.{Pair}
use Rattle.allocator.specs.Values.{look, Agree, Units, slot_unit}

-- slots and sets agree: on every wire, allocated or not
pub record HoldsSlots (count : ℕ) (store : List ℕ) (sets : List Pair) : Type 0 where
  pub least : 1 ≤ count
  pub room : count ≤ length store
  pub most : length store ≤ max_count
  -- a slot holds what the sets give its wire; beyond the count they give nothing
  pub held : (x : ℕ) → slot_unit (get_or (take count store) x unassigned) ≡ look sets x
  -- no wire has two values
  pub agree : Agree (look sets) sets
  pub units : Units (look sets)
  pub zeroth : look sets 0 ≡ some 0
