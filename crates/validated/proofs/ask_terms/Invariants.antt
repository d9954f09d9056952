use Prim.Native.Nat.{◌-◌}
use mathlib.Core.Path.{◌≡◌}
use Rattle.validated.proofs.Terms.{terms_no}
use Rattle.validated.specs.Validated.{bound_by}
use Rattle.validated.proofs.ask_terms.Given as goal

abbrev pub invariant-loop : goal.invariant-loop
invariant-loop l =
    terms_no l.vars (bound_by l.slots l.uses) (l.t - l.counter) l.i l.s ≡ terms_no l.vars (bound_by l.slots l.uses) l.t l.at l.s
