use Rattle.expr.specs.Equation.{equation_words}
use Rattle.items.specs.Read.{read_equation, size_of}
use Rattle.items.proofs.Run.{Run}
use Rattle.items.proofs.into.read_equations.Given as goal

abbrev pub invariant-loop : goal.invariant-loop
invariant-loop l =
    Run read_equation size_of equation_words l.bytes l.initial.next.at l.n l.initial.out l.out l.next.at l.to l.counter
