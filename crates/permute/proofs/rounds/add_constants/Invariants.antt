use mathlib.Core.Path.{◌≡◌}
use mathlib.Core.List.{◌++◌}
use lib.ListN.{take, drop}
use Rattle.permute.specs.Permute.{add_constants}
use Rattle.permute.proofs.rounds.add_constants.Given as goal

abbrev pub invariant-loop-i : goal.invariant-loop-i
invariant-loop-i l = take l.i l.out ++ add_constants (drop l.i l.constants) (drop l.i l.x) ≡ add_constants l.constants l.x
