use mathlib.Core.Path.{◌≡◌}
use mathlib.Core.List.{◌++◌}
use lib.ListN.{take, drop}
use Rattle.inverse.specs.Inverse.{sub_constants}
use Rattle.inverse.proofs.rounds.sub_constants.Given as goal

abbrev pub invariant-loop-i : goal.invariant-loop-i
invariant-loop-i l = take l.i l.out ++ sub_constants (drop l.i l.constants) (drop l.i l.x) ≡ sub_constants l.constants l.x
