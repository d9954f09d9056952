use Rattle.items.specs.Read.{read_pair, pair_size}
use Rattle.items.proofs.Run.{Run}
use Rattle.items.proofs.Equations.{two_words}
use Rattle.items.proofs.into.read_pairs.Given as goal

abbrev pub invariant-loop : goal.invariant-loop
invariant-loop l =
    Run read_pair pair_size two_words l.bytes l.initial.next.at l.n l.initial.out l.out l.next.at l.to l.counter
