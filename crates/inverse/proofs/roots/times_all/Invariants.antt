use mathlib.Core.Path.{◌≡◌}
use mathlib.Core.List.{◌++◌}
use lib.ListN.{take, drop}
use Rattle.baby_bear.specs.Field.{mul_unit}
use Rattle.permute.specs.Permute.{pairwise}
use Rattle.inverse.proofs.roots.times_all.Given as goal

abbrev pub invariant-loop-i : goal.invariant-loop-i
invariant-loop-i l = take l.i l.by ++ pairwise mul_unit (drop l.i l.a) (drop l.i l.by) ≡ pairwise mul_unit l.a l.initial.by
