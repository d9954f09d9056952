use Rattle.std.proofs.Common.{◌≡◌, ◌≤◌, ◌-◌, length}
use Rattle.strike.specs.Strike.{end_within}
use Rattle.strike.proofs.Ends.{rest_end}
use Rattle.strike.proofs.end_within.Given as goal

abbrev pub invariant-loop : goal.invariant-loop
invariant-loop l = (l.at ≤ length l.held) × (rest_end (l.n - l.counter) l.at l.held ≡ end_within l.n l.held)
