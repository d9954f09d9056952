-- `narg::put_words` meets its contract: after i turns the bytes of the first i words stand at the cursor and the
-- rest of the output is as it was.
-- Assumes nothing.
use Prim.Native.Nat.{ℕ, ◌+◌, ◌*◌}
use mathlib.Core.Path.{◌≡◌, ap, ◌∙◌}
use mathlib.Core.List.{List}
use native.Mathlib.Omega.{arith}
use lib.ListN.{length, get_or}
use lib.Seq.{take-length}
use Rattle.words.specs.Store.{put_words}
use Rattle.narg.specs.Bytes.{u32_bytes}
use Rattle.narg.specs.Reader.{each}
use Rattle.narg.proofs.At.{put_full, put_written}
use Rattle.narg.proofs.Words.{length-words}
use Rattle.narg.proofs.Stores.{put-word-more}
use Rattle.narg.proofs.put_words.Goals as goal

pub returns-then-out-at : goal.returns-then-out-at
returns-then-out-at c = put_full _ _ _ (length-words c.args.words.now) (omega arith)

pub returns-then-out-at-2 : goal.returns-then-out-at-2
returns-then-out-at-2 c = put_full _ _ _ (length-words c.args.words.now) (omega arith)

pub loop-i-preserved : goal.loop-i-preserved
loop-i-preserved c =
    let l = c.loop-i in
    let a = c.args in (
      c.store_u32.ensures
          ∙ ap (λ (s : List ℕ). put_words (a.c.at + 4 * l.i) (u32_bytes (get_or a.words.now l.i 0)) s) l.invariant.0
          ∙ put-word-more a.c.at a.words.now l.i a.out.now (omega arith) l.invariant.1,
      l.invariant.1,
    )

pub returns : goal.returns
returns c =
    let l = c.loop-i in
    let a = c.args in
    let ws = a.words.now in
    let e : l.i ≡ length ws = omega arith in
    put_written a.out.now a.c.at (each u32_bytes ws) (length-words ws) l.out l.invariant.1 (l.invariant.0 ∙ rw (e, take-length ws))
