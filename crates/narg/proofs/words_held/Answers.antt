-- `narg::words_held` meets its contract: as many of the whole words as are asked for.
-- Assumes nothing.
use mathlib.Core.Path.{ap, ◌∙◌}
use mathlib.Core.List.{List}
use Prim.Native.Nat.{ℕ, ◌/◌}
use lib.ListN.{length}
use Rattle.std.specs.Simd.{first_chunks}
use Rattle.narg.proofs.Words.{chunks_held-take}
use Rattle.narg.proofs.words_held.Goals as goal

pub returns : goal.returns
returns c =
    let e = c.as_chunks.ensures.front ∙ ap (λ (l : List ℕ). first_chunks 4 (length l / 4) l) c.behind.ensures in
    chunks_held-take c.args.bytes.now c.args.at c.args.n _ _ e c.min.ensures
