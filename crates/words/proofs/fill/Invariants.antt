use Rattle.std.proofs.Common.{◌≡◌, take, replicate}
use Rattle.words.proofs.fill.Given as goal

-- the first words are v
abbrev pub invariant-loop-x : goal.invariant-loop-x
invariant-loop-x l = take l.x-index l.s ≡ replicate l.x-index l.v
