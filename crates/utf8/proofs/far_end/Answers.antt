-- `utf8::far_end` meets its contract: what single bytes, blocks and the last block tell goes from one end to the next.
-- Assumes nothing.
use native.Mathlib.Omega.{arith}
use Rattle.utf8.proofs.Scan.{each-join}
use Rattle.utf8.proofs.far_end.Goals as goal

pub returns-then-block_fits : goal.returns-then-block_fits
returns-then-block_fits c =
    let head = c.singles_end-head.ensures in
    let end = c.blocks_end-end.ensures in
    let last = c.block_fits.ensures c.if-block_fits.true in (
      omega arith,
      omega arith,
      each-join _ _ _ _ head.2 (each-join _ _ _ _ end.2 (λ k p q. last k (omega arith) (omega arith))),
    )

pub returns-else-block_fits : goal.returns-else-block_fits
returns-else-block_fits c =
    let head = c.singles_end-head.ensures in
    let end = c.blocks_end-end.ensures in
    (omega (arith, head.0, end.0), end.1, each-join _ _ _ _ head.2 end.2)

pub returns-else-bytes-end-lt-BLOCK : goal.returns-else-bytes-end-lt-BLOCK
returns-else-bytes-end-lt-BLOCK c =
    let head = c.singles_end-head.ensures in
    let end = c.blocks_end-end.ensures in
    (omega (arith, head.0, end.0), end.1, each-join _ _ _ _ head.2 end.2)
