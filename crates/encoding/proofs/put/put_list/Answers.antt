-- `put::put_list` meets its contract: the count, and the words behind it.
-- Assumes nothing.
use Prim.Native.Nat.{◌+◌}
use native.Mathlib.Omega.{arith}
use Rattle.narg.specs.Bytes.{u32_bytes}
use Rattle.narg.specs.Reader.{each}
use Rattle.encoding.proofs.Stored.{put_then, put_word, put-words}
use Rattle.encoding.proofs.put.put_list.Goals as goal

pub returns : goal.returns
returns c =
    let a = c.args in
    put_then a.at (u32_bytes a.count) (each u32_bytes a.words.now) a.out.now
    (put_word a.at a.out.now a.count (omega arith) c.put_u32.ensures.1)
    (put-words (a.at + 4) c.put_u32.new.out a.words.now (omega arith) c.put_words.ensures.1)
    (omega arith)
