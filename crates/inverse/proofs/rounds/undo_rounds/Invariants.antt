use lib.ListN.{length}
use Rattle.std.specs.Slice.Exact.{rchunks_exact_rest, rchunks_exact_size}
use Rattle.inverse.proofs.Back.{Undoing}
use Rattle.inverse.proofs.rounds.undo_rounds.Given as goal

abbrev pub invariant-loop-round : goal.invariant-loop-round
invariant-loop-round l =
    Undoing l.params l.inverse l.rounds l.initial.state l.state l.mixed (rchunks_exact_rest l.round-iterator) (rchunks_exact_size l.round-iterator) (length l.yielded)
