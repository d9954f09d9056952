-- `narg::read_u32` meets its contract: the bytes hold four more at the cursor, or not.
-- Assumes nothing.
use mathlib.Core.Path.{ap, ◌∙◌}
use Prim.Native.Nat.{◌+◌, ◌≤◌}
use native.Mathlib.Omega.{arith}
use lib.ListN.{length, take, length-drop}
use Rattle.narg.proofs.At.{read_u32-short, read_u32-long}
use Rattle.narg.proofs.Words.{word_in-cut}
use Rattle.narg.proofs.read_u32.Goals as goal

pub returns-in_err-word : goal.returns-in_err-word
returns-in_err-word c =
    let a = c.args in
    let l = ap length c.behind.ensures ∙ length-drop a.c.at a.bytes.now in
    c.from_residual.ensures ∙ read_u32-short a.bytes.now a.c.at (omega (arith, c.in_err-word.ensures.cases))

pub returns : goal.returns
returns c =
    let a = c.args in
    let h = c.in_ok-word.ensures.cases in
    let l = ap length c.behind.ensures ∙ length-drop a.c.at a.bytes.now in
    let cut = h.same ∙ ap (take 4) c.behind.ensures in
    let fits : a.c.at + 4 ≤ length a.bytes.now = omega (arith, h.enough) in
    read_u32-long a.bytes.now a.c.at _ fits (c.from_le_bytes.ensures ∙ word_in-cut a.bytes.now a.c.at _ cut fits)
