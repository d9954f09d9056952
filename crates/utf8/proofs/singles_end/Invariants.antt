use mathlib.Core.Path.{◌≡◌}
use Rattle.utf8.specs.Scan.{byte_before, Fit}
use Rattle.utf8.proofs.singles_end.Given as goal

abbrev pub invariant-loop-i : goal.invariant-loop-i
invariant-loop-i l =
    (l.a ≡ byte_before l.bytes l.i 3) × (l.b ≡ byte_before l.bytes l.i 2) × (l.c ≡ byte_before l.bytes l.i 1) × Fit l.bytes l.at l.i
