-- `reader::part_at` meets its contract: the part lies within the bytes, or is empty.
-- Assumes nothing.
use native.Mathlib.Omega.{arith}
use Rattle.reader.proofs.Found.{part_at-none, part_at-cut, place_at-none, place_at-some}
use Rattle.reader.proofs.part_at.Goals as goal

pub returns-then-bytes-from : goal.returns-then-bytes-from
returns-then-bytes-from c = (part_at-none _ _ _ (omega arith), place_at-none _ _ _ _ (omega arith))

pub returns-then-bytes-from-2 : goal.returns-then-bytes-from-2
returns-then-bytes-from-2 c = (part_at-none _ _ _ (omega arith), place_at-none _ _ _ _ (omega arith))

pub returns : goal.returns
returns c = (part_at-cut _ _ _ (omega arith), place_at-some _ _ _ _ (omega arith))
