use Prim.Native.Nat.{◌≤◌, ◌+◌, ◌*◌}
use mathlib.Core.Path.{◌≡◌}
use lib.ListN.{length}
use Rattle.compile.specs.Gate.{publics_from}
use Rattle.compile.proofs.Publics.{publics_at, stored}
use Rattle.compile.proofs.put_publics.Given as goal

abbrev pub invariant-loop-i : goal.invariant-loop-i
invariant-loop-i l =
    (l.n + length (publics_at l.slots l.i) ≡ length (publics_from 0 l.slots))
    × (l.n ≤ l.i)
    × (l.to ≤ length l.initial.out)
    × (2 * length (publics_from 0 l.slots) ≤ length l.initial.out
    → (l.to ≡ 2 * l.n) × (stored l.out l.to (publics_at l.slots l.i) ≡ stored l.initial.out 0 (publics_from 0 l.slots)))
