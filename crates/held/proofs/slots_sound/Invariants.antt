use mathlib.Core.Bool.{◌&&◌}
use Rattle.std.proofs.Common.{◌≡◌, drop}
use Rattle.held.specs.Held.{slots_sound}
use Rattle.held.proofs.slots_sound.Given as goal

abbrev pub invariant-loop-x : goal.invariant-loop-x
invariant-loop-x l = (l.sound && slots_sound (drop l.x-index l.held)) ≡ slots_sound l.held
