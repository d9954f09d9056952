-- `narg::read_words` meets its contract: the answer to the words' questions stands, but for the store's own; and
-- the words are stored where both say yes.
-- Assumes nothing.
use mathlib.Core.Path.{◌≡◌, ◌∙◌}
use Rattle.std.proofs.Common.{rules}
use Rattle.std.specs.Prelude.{Err}
use native.Mathlib.Omega.{arith}
use Rattle.narg.proofs.Items.{words-refused, words-full, words-fit, words-read}
use Rattle.narg.proofs.read_words.Goals as goal

pub returns-in_err-next : goal.returns-in_err-next
returns-in_err-next c =
    let w = words-refused _ _ _ _ _ _ _ _ c.ask_words.ensures _ c.in_err-next.was in
    let r : c.from_residual.result ≡ Err c.in_err-next.field-0.0 = search rules in
    (r ∙ w.0, w.1)

pub returns-then-out-place : goal.returns-then-out-place
returns-then-out-place c = words-full _ _ _ _ _ _ _ _ c.ask_words.ensures _ c.in_ok-next.was (omega arith)

pub returns-then-out-place-2 : goal.returns-then-out-place-2
returns-then-out-place-2 c = words-full _ _ _ _ _ _ _ _ c.ask_words.ensures _ c.in_ok-next.was (omega arith)

pub store_words-requires : goal.store_words-requires
store_words-requires c =
    let a = c.args in
    (words-fit a.bytes.now a.c.at a.out.now a.place a.n a.bound a.k _ c.ask_words.ensures _ c.in_ok-next.was, omega arith)

pub returns : goal.returns
returns c = words-read _ _ _ _ _ _ _ _ c.ask_words.ensures _ c.in_ok-next.was _ (omega arith) c.store_words.ensures
