use Rattle.std.proofs.Common.{◌≡◌}
use Rattle.instance.proofs.Looks.{value_of}
use Rattle.instance.proofs.last_value.Given as goal

abbrev pub invariant-loop-i : goal.invariant-loop-i
invariant-loop-i l = value_of l.i l.publics l.x ≡ value_of l.n l.publics l.x
