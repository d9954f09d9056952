use mathlib.Core.Path.{◌≡◌}
use mathlib.Core.List.{◌++◌}
use lib.ListN.{take, drop}
use Rattle.matrix_inverse.specs.Rows.{add_row}
use Rattle.matrix_inverse.proofs.rows.add_row.Given as goal

abbrev pub invariant-loop-i : goal.invariant-loop-i
invariant-loop-i l = take l.i l.row ++ add_row l.f (drop l.i l.s) (drop l.i l.row) ≡ add_row l.f l.s l.initial.row
