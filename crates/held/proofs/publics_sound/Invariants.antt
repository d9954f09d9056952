use Prim.Native.Nat.{◌*◌, ◌-◌}
use mathlib.Core.Path.{◌≡◌}
use lib.ListN.{drop}
use Rattle.held.specs.Held.{publics_sound}
use Rattle.held.proofs.publics_sound.Given as goal

abbrev pub invariant-loop-i : goal.invariant-loop-i
invariant-loop-i l = publics_sound (l.n - l.i) (drop (2 * l.i) l.held) ≡ publics_sound l.n l.held
