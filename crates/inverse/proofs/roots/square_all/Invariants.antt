use mathlib.Core.Path.{◌≡◌}
use mathlib.Core.List.{◌++◌}
use lib.ListN.{take, drop}
use Rattle.inverse.proofs.Lanes.{squares}
use Rattle.inverse.proofs.roots.square_all.Given as goal

abbrev pub invariant-loop-x : goal.invariant-loop-x
invariant-loop-x l = take l.x-index l.a ++ squares (drop l.x-index l.a) ≡ squares l.initial.a
