-- `narg::store_u32` meets its contract: the four bytes are one written part.
-- Assumes nothing.
use mathlib.Core.Path.{ap, ◌∙◌}
use mathlib.Core.List.{List}
use Prim.Native.Nat.{ℕ}
use native.Mathlib.Omega.{arith}
use Rattle.words.specs.Store.{put_words}
use Rattle.narg.proofs.Words.{u32_bytes-le}
use Rattle.narg.proofs.Stores.{put_words-mid}
use Rattle.narg.proofs.store_u32.Goals as goal

pub returns : goal.returns
returns c =
    let a = c.args in
    let e = c.copy_from_slice.ensures.after ∙ c.to_le_bytes.ensures ∙ u32_bytes-le a.value in
    put_words-mid a.at _ _ a.out.now (omega (arith, c.copy_from_slice.ensures.len)) ∙ ap (λ (l : List ℕ). put_words a.at l a.out.now) e
