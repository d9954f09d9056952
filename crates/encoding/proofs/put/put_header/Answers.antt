-- `put::put_header` meets its contract: five bytes, then two words behind them.
-- Assumes nothing.
use mathlib.Core.Path.{ap, ◌∙◌}
use mathlib.Core.List.{List}
use Prim.Native.Nat.{ℕ}
use native.Mathlib.Omega.{arith}
use Rattle.words.specs.Store.{fit_words}
use Rattle.narg.specs.Bytes.{u32_bytes}
use Rattle.encoding.proofs.Stored.{header-stored}
use Rattle.encoding.proofs.put.put_header.Goals as goal

pub returns : goal.returns
returns c =
    let a = c.args in
    c.put_u32-2.ensures.1
    ∙ ap (λ (t : List ℕ). fit_words 9 (u32_bytes 4) t) c.put_u32.ensures.1
    ∙ header-stored a.out.now a.last a.version a.width _ c.copy_from_slice.ensures.after (omega arith)
