use mathlib.Core.Path.{◌≡◌}
use Prim.Native.Nat.{◌≤◌}
use lib.ListN.{take}
use Rattle.uses.specs.Uses.{strays}
use Rattle.uses.proofs.Room.{Upto}
use Rattle.uses.proofs.move_cells.Given as goal

abbrev pub invariant-loop-i : goal.invariant-loop-i
invariant-loop-i l =
    Upto l.strike l.most l.end l.initial.uses l.cells l.i l.uses × (l.strays ≡ strays l.len (take l.i l.cells)) × (l.strays ≤ l.i)
