use Prim.Native.Nat.{◌≤◌, ◌+◌}
use mathlib.Core.Path.{◌≡◌}
use lib.ListN.{length}
use Rattle.std.specs.Slice.Iter.{chunks_rest, chunks_size}
use Rattle.allocator.proofs.Run.{counted}
use Rattle.tickets.specs.Lines.{set_lines}
use Rattle.tickets.proofs.set_lines.Given as goal

abbrev pub invariant-loop-line : goal.invariant-loop-line
invariant-loop-line l =
    (chunks_size l.line-iterator ≡ 24)
    × (l.accepted + length (chunks_rest l.line-iterator) ≤ length l.text)
    × (l.fresh ≤ l.accepted)
    × (counted l.accepted l.fresh (set_lines l.count l.slots (chunks_rest l.line-iterator)) ≡ set_lines l.count l.initial.slots l.text)
