use Prim.Native.Nat.{ℕ}
use mathlib.Core.List.{List}
use Rattle.narg.specs.Reader.{below, times}
use Rattle.items.proofs.Run.{Run}
use Rattle.items.proofs.into.read_pieces.Given as goal

abbrev pub invariant-loop : goal.invariant-loop
invariant-loop l =
    Run (times (below l.bound l.k) l.size) (λ (q : List ℕ). l.size) (λ (q : List ℕ). q) l.bytes l.initial.next.at l.n l.initial.out l.out l.next.at l.to l.counter
