-- `slots_sound` meets its contract: what the slots so far say and what is left of them say together what all of them
-- say.
-- Assumes nothing.
use native.Mathlib.Omega.{arith}
use Rattle.held.proofs.Sound.{slots-more, slots-all}
use Rattle.held.proofs.slots_sound.Goals as goal

pub loop-x-preserved : goal.loop-x-preserved
loop-x-preserved c = let l = c.loop-x in slots-more _ l.sound l.x-index l.invariant (omega arith)

pub returns : goal.returns
returns c = let l = c.loop-x in slots-all _ _ l.x-index l.invariant (omega arith)
