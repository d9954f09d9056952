use Prim.Native.Nat.{◌+◌}
use mathlib.Core.Path.{◌≡◌}
use lib.ListN.{length}
use Rattle.std.specs.Iterator.Adapters.{take_source, take_count}
use Rattle.std.specs.Slice.Iter.{chunks_exact_rest, chunks_exact_size}
use Rattle.permute.proofs.Run.{Running}
use Rattle.permute.proofs.rounds.run_turned.Given as goal

abbrev pub invariant-loop-round : goal.invariant-loop-round
invariant-loop-round l =
    let chunks = take_source l.round-iterator in
    Running l.params l.rounds l.initial.state l.state l.mixed (take_count l.round-iterator) (chunks_exact_rest chunks) × (chunks_exact_size chunks ≡ length l.initial.state + 1)
