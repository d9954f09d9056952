-- `permute::rounds::raise_all` meets its contract. The invariant: the elements before the index are raised, and
-- the others as they were. Assumes nothing.
use Rattle.std.proofs.Common.{arith}
use Rattle.std.proofs.lemmas.Grind.{common_steps}
use Rattle.std.proofs.lemmas.List.Edits.{map_over_more}
use Rattle.baby_bear.specs.Field.{seventh}
use Rattle.permute.proofs.rounds.raise_all.Goals as goal

pub loop-a-preserved : goal.loop-a-preserved
loop-a-preserved c = grind (arith, common_steps, map_over_more seventh)
