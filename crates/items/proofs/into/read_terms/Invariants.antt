use Rattle.items.proofs.Equations.{TermsRun}
use Rattle.items.proofs.into.read_terms.Given as goal

abbrev pub invariant-loop : goal.invariant-loop
invariant-loop l =
    TermsRun l.bytes l.initial.next.at l.t l.initial.out l.place l.out l.next.at l.to l.counter
