use Prim.Native.Nat.{◌-◌}
use mathlib.Core.Path.{◌≡◌}
use mathlib.Core.List.{◌++◌}
use lib.ListN.{length, take}
use Rattle.permute.specs.Permute.{times_matrix}
use Rattle.permute.specs.Columns.{turned_rows}
use Rattle.permute.proofs.matrix.times_matrix.Given as goal

abbrev pub invariant-loop-i : goal.invariant-loop-i
invariant-loop-i l =
    let w = length l.x in
    take l.i l.out ++ times_matrix (turned_rows w (w - l.i) l.i l.columns) l.x ≡ times_matrix (turned_rows w w 0 l.columns) l.x
