-- `narg::put_u32` meets its contract: the output holds four bytes at the cursor, or not.
-- Assumes nothing.
use native.Mathlib.Omega.{arith}
use Rattle.narg.proofs.At.{put_full, put_written}
use Rattle.narg.proofs.Fields.{length-u32_bytes}
use Rattle.narg.proofs.put_u32.Goals as goal

pub returns-then-out-at : goal.returns-then-out-at
returns-then-out-at c = put_full _ _ _ (length-u32_bytes _) (omega arith)

pub returns-then-out-at-lt-WORD : goal.returns-then-out-at-lt-WORD
returns-then-out-at-lt-WORD c = put_full _ _ _ (length-u32_bytes _) (omega arith)

pub returns : goal.returns
returns c = put_written _ _ _ (length-u32_bytes _) _ (omega arith) c.store_u32.ensures
