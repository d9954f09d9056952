-- `sfri::put_label` meets its contract: the length, and the bytes behind it.
-- Assumes nothing.
use mathlib.Core.Path.{refl}
use native.Mathlib.Omega.{arith}
use lib.ListN.{length}
use Rattle.narg.specs.Bytes.{u32_bytes}
use Rattle.encoding.proofs.Stored.{put_then, put_word}
use Rattle.encoding.proofs.sfri.put_label.Goals as goal

pub returns : goal.returns
returns c =
    let a = c.args in
    put_then a.at (u32_bytes (length a.label.now)) a.label.now a.out.now
    (put_word a.at a.out.now (length a.label.now) (omega arith) c.put_u32.ensures.1)
    (record { past = refl; out = c.put_bytes.ensures })
    (omega arith)
