use mathlib.Core.Path.{◌≡◌}
use mathlib.Core.List.{◌++◌, map}
use lib.ListN.{take, drop}
use Rattle.baby_bear.specs.Field.{seventh}
use Rattle.permute.proofs.rounds.raise_all.Given as goal

abbrev pub invariant-loop-a : goal.invariant-loop-a
invariant-loop-a l = l.x ≡ map seventh (take l.a-index l.initial.x) ++ drop l.a-index l.initial.x
