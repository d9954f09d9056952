use Prim.Native.Nat.{◌+◌}
use mathlib.Core.Path.{◌≡◌}
use lib.ListN.{length}
use Rattle.std.specs.Iterator.Adapters.{take_source, take_count}
use Rattle.std.specs.Slice.Iter.{chunks_exact_rest, chunks_exact_size}
use Rattle.permute.proofs.Trace.{Leading}
use Rattle.permute.proofs.leading.Given as goal

abbrev pub invariant-loop-step : goal.invariant-loop-step
invariant-loop-step l =
    let chunks = take_source l.step-iterator in
    Leading l.rounds l.params l.trace l.steps l.initial.state l.state l.found (take_count l.step-iterator) (chunks_exact_rest chunks)
    × (chunks_exact_size chunks ≡ length l.initial.state + length l.initial.state)
