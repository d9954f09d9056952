-- `into::read_equation` meets its contract: count, terms and image, then 10; and the words as they were stored.
-- Assumes nothing.
use mathlib.Core.Path.{◌≡◌, sym, ◌∙◌}
use native.Mathlib.Omega.{arith}
use Rattle.std.proofs.Common.{rules}
use Rattle.std.specs.Prelude.{Some, None, Err}
use Rattle.limits.specs.Outcome.{refusal}
use Rattle.header.proofs.Magic.{asked-yes, asked-no}
use Rattle.items.proofs.Equations.{equation-short, equation-terms-stop, equation-image-stop, equation-no-room, equation-given}
use Rattle.items.proofs.Told.{told-stop, told-got, terms-told-stop, terms-told, tell-equation-on, tell-equation}
use Rattle.items.proofs.into.read_equation.Goals as goal

pub returns-in_err-t : goal.returns-in_err-t
returns-in_err-t c =
    let r : c.from_residual.result ≡ Err (refusal 20) = search rules in
    let e : c.read_u32.result ≡ None = grind arith in
    tell-equation-on _ _ _ _ _ _ _ r (equation-short _ _ _ _ (sym c.read_u32.ensures ∙ e))

pub returns-in_err-terms : goal.returns-in_err-terms
returns-in_err-terms c =
    let r : c.from_residual-in_err-terms.result ≡ Err c.in_err-terms.field-0.0 = search rules in
    let w : c.read_u32.result ≡ Some (c.in_ok-t.t, c.in_ok-t.first) = grind arith in
    tell-equation-on _ _ _ _ _ _ _ r
    (equation-terms-stop _ _ _ _ _ _ (sym c.read_u32.ensures ∙ w) _ (terms-told-stop _ _ _ _ _ _ _ _ c.in_err-terms.was c.read_terms.ensures))

pub returns-in_err-image : goal.returns-in_err-image
returns-in_err-image c =
    let r : c.from_residual-in_err-image.result ≡ Err c.in_err-image.field-0.0 = search rules in
    let w : c.read_u32.result ≡ Some (c.in_ok-t.t, c.in_ok-t.first) = grind arith in
    let g = terms-told _ _ _ _ _ _ _ _ c.in_ok-terms.was c.read_terms.ensures in
    tell-equation-on _ _ _ _ _ _ _ r
    (equation-image-stop _ _ _ _ _ _ (sym c.read_u32.ensures ∙ w) _ _ g.reads _ (told-stop _ _ _ _ _ c.in_err-image.was c.read_below.ensures))

pub returns-in_err-ask : goal.returns-in_err-ask
returns-in_err-ask c =
    let a = c.args in
    let r : c.from_residual-in_err-ask.result ≡ Err c.in_err-ask.field-0.0 = search rules in
    let no = asked-no _ _ c.ask.ensures c.in_err-ask.was in
    let w : c.read_u32.result ≡ Some (c.in_ok-t.t, c.in_ok-t.first) = grind arith in
    let g = terms-told _ _ _ _ _ _ _ _ c.in_ok-terms.was c.read_terms.ensures in
    let ei = told-got _ _ _ _ _ c.in_ok-image.was c.read_below.ensures in
    let el = c.put_word-2.auto.out ∙ c.read_terms.auto.out ∙ c.put_word.auto.out in
    tell-equation-on _ _ _ _ _ _ _ (rw no.1 at r)
    (equation-no-room _ _ a.out.now _ _ _ (sym c.read_u32.ensures ∙ w) _ c.put_word.ensures _ _ g _ c.in_ok-image.image.next ei.0 ei.1 _ el
    (sym c.equation_fits.ensures ∙ no.0))

pub returns : goal.returns
returns c =
    let a = c.args in
    let w : c.read_u32.result ≡ Some (c.in_ok-t.t, c.in_ok-t.first) = grind arith in
    let g = terms-told _ _ _ _ _ _ _ _ c.in_ok-terms.was c.read_terms.ensures in
    let ei = told-got _ _ _ _ _ c.in_ok-image.was c.read_below.ensures in
    let el = c.put_word-2.auto.out ∙ c.read_terms.auto.out ∙ c.put_word.auto.out in
    tell-equation _ _ _ _ _ _ _ _
    (equation-given _ _ a.out.now _ _ _ (sym c.read_u32.ensures ∙ w) _ c.put_word.ensures _ _ g _ c.in_ok-image.image.next ei.0 ei.1 _ el
    (sym c.equation_fits.ensures ∙ asked-yes _ _ c.ask.ensures c.in_ok-ask.was) _ c.put_word-2.ensures)
