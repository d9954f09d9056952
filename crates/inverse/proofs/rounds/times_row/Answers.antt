-- `inverse::rounds::times_row` meets its contract. The invariant is `RowSum`. Assumes nothing.
use native.Mathlib.Omega.{arith}
use mathlib.Core.Path.{refl}
use Rattle.inverse.proofs.Walk.{sum-turn, sum_done}
use Rattle.inverse.proofs.rounds.times_row.Goals as goal

pub loop-i-preserved : goal.loop-i-preserved
loop-i-preserved c = sum-turn c.requires c.loop-i.invariant _ refl (omega arith)

pub returns : goal.returns
returns c = sum_done c.requires c.loop-i.invariant (omega arith)
