use Prim.Native.Nat.{◌-◌}
use lib.ListN.{get_or}
use Rattle.validity.proofs.Sums.{SumLeft}
use Rattle.validity.proofs.ask_equation.Given as goal

abbrev pub invariant-loop : goal.invariant-loop
invariant-loop l = SumLeft l.scratch l.words l.at (get_or l.words l.at 0 - l.counter) l.i l.sum
