use Prim.Native.Nat.{◌-◌}
use Rattle.expr.specs.Equation.{equations_at}
use Rattle.validity.specs.Check.{equations_no}
use Rattle.validity.specs.Scratch.{value_at}
use Rattle.validity.proofs.Equations.{EquationsLeft}
use Rattle.validity.proofs.ask_equations.Given as goal

abbrev pub invariant-loop : goal.invariant-loop
invariant-loop l =
    EquationsLeft (value_at l.scratch) l.words (equations_no (value_at l.scratch) (equations_at l.count l.words)) l.at (l.count - l.counter)
