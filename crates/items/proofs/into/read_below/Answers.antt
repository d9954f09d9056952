-- `into::read_below` meets its contract: a word, and its bound.
-- Assumes nothing.
use mathlib.Core.Path.{◌≡◌, sym, ◌∙◌}
use native.Mathlib.Omega.{arith}
use borrow.Author.Tests.{ltb-true, ltb-false}
use Rattle.std.proofs.Common.{rules}
use Rattle.std.specs.Prelude.{Some, None, Err}
use Rattle.limits.specs.Outcome.{refusal}
use Rattle.header.proofs.Magic.{asked-yes, asked-no}
use Rattle.narg.proofs.Fields.{below-short, below-not, below-yes}
use Rattle.narg.proofs.At.{read_u32-read, read_u32-stop, word_next}
use Rattle.items.proofs.Told.{tell-on, tell-got}
use Rattle.items.proofs.into.read_below.Goals as goal

pub returns-in_err-value : goal.returns-in_err-value
returns-in_err-value c =
    let r : c.from_residual.result ≡ Err (refusal 20) = search rules in
    let e : c.read_u32.result ≡ None = grind arith in
    tell-on _ _ _ _ _ r (below-short _ _ _ (read_u32-stop _ _ (sym c.read_u32.ensures ∙ e)))

pub returns-in_err-ask : goal.returns-in_err-ask
returns-in_err-ask c =
    let r : c.from_residual-in_err-ask.result ≡ Err c.in_err-ask.field-0.0 = search rules in
    let e : c.read_u32.result ≡ Some (c.in_ok-value.value, c.in_ok-value.next) = grind arith in
    let no = asked-no _ _ c.ask.ensures c.in_err-ask.was in
    tell-on _ _ _ _ _ (rw no.1 at r) (below-not _ _ _ _ _ (word_next _ _ _ _ (sym c.read_u32.ensures ∙ e)) (ltb-false _ _ no.0))

pub returns : goal.returns
returns c =
    let e : c.read_u32.result ≡ Some (c.in_ok-value.value, c.in_ok-value.next) = grind arith in
    let w = sym c.read_u32.ensures ∙ e in
    tell-got _ _ _ _ _ _ (below-yes _ _ _ _ _ (word_next _ _ _ _ w) (ltb-true _ _ (asked-yes _ _ c.ask.ensures c.in_ok-ask.was))) (read_u32-read _ _ _ _ w).past
