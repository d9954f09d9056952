-- `permute::sound::sound_kinds` meets its contract: the chunks are the rounds, and each has a first word.
-- Assumes nothing.
use Prim.Native.Nat.{◌+◌}
use mathlib.Core.Path.{◌≡◌, ◌∙◌}
use native.Mathlib.Omega.{arith}
use lib.Dec.{ltb}
use borrow.Author.Rules.{rules}
use borrow.Author.Tests.{tests}
use Rattle.std.specs.Iterator.Adapters.{take_source}
use Rattle.std.specs.Slice.Iter.{chunks_exact_size}
use Rattle.std.proofs.lemmas.Iterator.Search.{all_from_yields_List}
use Rattle.permute.proofs.Chunks.{size_stays}
use Rattle.permute.proofs.Parameters.{chunks_are, kinds_are}
use Rattle.permute.proofs.sound.sound_kinds.Goals as goal

pub all-requires-clause-callable : goal.all-requires-clause-callable
all-requires-clause-callable c =
    let z : chunks_exact_size (take_source c.take.result) ≡ c.args.width + 1 = search rules in
    record { at = λ xs t q x u y f s _ _ _ _ _ _. omega (arith, s.0.1.1, size_stays xs _ t y, z) }

pub returns : goal.returns
returns c =
    all_from_yields_List (λ r. ltb r.kind 2) _ _ _ c.all.ensures.ran
    (chunks_are c.args.width _ c.args.rounds c.args.params.now (search rules) (search rules) (search rules) c.requires)
    (λ x b q k. search (rules, tests))
    ∙ kinds_are _
