use mathlib.Core.Path.{◌≡◌}
use mathlib.Core.List.{◌++◌, map}
use lib.ListN.{take, drop}
use Rattle.baby_bear.specs.Field.{mul_unit}
use Rattle.matrix_inverse.proofs.rows.scale_row.Given as goal

abbrev pub invariant-loop-x : goal.invariant-loop-x
invariant-loop-x l = take l.x-index l.row ++ map (mul_unit l.f.0) (drop l.x-index l.row) ≡ map (mul_unit l.f.0) l.initial.row
