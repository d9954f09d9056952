use mathlib.Core.Bool.{◌&&◌}
use Rattle.std.proofs.Common.{◌≡◌, ◌/◌, length, drop}
use Rattle.held.specs.Held.{publics_sound}
use Rattle.held.proofs.terms_sound.Given as goal

abbrev pub invariant-loop-term : goal.invariant-loop-term
invariant-loop-term l =
    let rest = l.term-iterator.rest.now in
    (l.term-iterator.size ≡ 2) × ((l.sound && publics_sound (length rest / 2) rest) ≡ publics_sound l.n (drop l.at l.s))
