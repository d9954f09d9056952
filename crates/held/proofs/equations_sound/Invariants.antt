use Rattle.std.proofs.Common.{◌≡◌, ◌≤◌, ◌-◌, length}
use Rattle.held.specs.Held.{equations_sound}
use Rattle.held.proofs.Sound.{rest_sound}
use Rattle.held.proofs.equations_sound.Given as goal

abbrev pub invariant-loop : goal.invariant-loop
invariant-loop l = (l.at ≤ length l.held) × (rest_sound (l.n - l.counter) l.at l.held ≡ equations_sound l.n l.held)
