use Prim.Native.Nat.{◌-◌}
use mathlib.Core.Path.{◌≡◌}
use Rattle.validated.proofs.Terms.{termwise_no}
use Rattle.validated.specs.Validated.{bound_by}
use Rattle.validated.proofs.ask_equations.Given as goal

abbrev pub invariant-loop : goal.invariant-loop
invariant-loop l =
    termwise_no l.vars (bound_by l.slots l.uses) (l.n - l.counter) l.at l.s ≡ termwise_no l.vars (bound_by l.slots l.uses) l.n 0 l.s
