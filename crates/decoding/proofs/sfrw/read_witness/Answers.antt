-- `sfrw::read_witness` meets its contract: 1 and 2, header, steps, and 28.
-- Assumes nothing.
use mathlib.Core.Path.{◌≡◌, refl, sym, ◌∙◌}
use Rattle.std.proofs.Common.{rules}
use Rattle.std.specs.Prelude.{Err}
use Rattle.limits.proofs.Answered.{accepted-zero, refused-number, refused-some}
use Rattle.header.proofs.Got.{field-stop, field-got}
use Rattle.items.proofs.Lists.{list-refused, list-got}
use Rattle.decoding.proofs.Steps.{asked-no, whole_is, header-no, steps-no, steps-left, steps-told, told-no}
use Rattle.decoding.proofs.sfrw.read_witness.Goals as goal

pub returns-in_err-ask_pieces : goal.returns-in_err-ask_pieces
returns-in_err-ask_pieces c =
    let a = c.args in
    let r : c.from_residual.result ≡ Err c.in_err-ask_pieces.field-0.0 = search rules in
    let no = sym (refused-number _ _ c.ask_pieces.ensures c.in_err-ask_pieces.was) in
    told-no a.width a.bytes.now a.trace.now _ _ _ r (asked-no a.width a.bytes.now a.trace.now _ no (λ z. refused-some _ _ c.ask_pieces.ensures c.in_err-ask_pieces.was (sym no ∙ z)))

pub returns-in_err-header : goal.returns-in_err-header
returns-in_err-header c =
    let a = c.args in
    let r : c.from_residual-in_err-header.result ≡ Err c.in_err-header.field-0.0 = search rules in
    let z = accepted-zero _ _ c.ask_pieces.ensures c.in_ok-ask_pieces.was in
    told-no a.width a.bytes.now a.trace.now _ _ _ r (whole_is a.width a.bytes.now a.trace.now z ∙ header-no a.width a.bytes.now a.trace.now z _ (field-stop _ _ _ _ _ c.read_header.ensures _ c.in_err-header.was))

pub returns-in_err-steps : goal.returns-in_err-steps
returns-in_err-steps c =
    let a = c.args in
    let r : c.from_residual-in_err-steps.result ≡ Err c.in_err-steps.field-0.0 = search rules in
    let z = accepted-zero _ _ c.ask_pieces.ensures c.in_ok-ask_pieces.was in
    let eh = field-got _ _ _ _ _ c.read_header.ensures _ c.in_ok-header.was in
    told-no a.width a.bytes.now a.trace.now _ _ _ r (whole_is a.width a.bytes.now a.trace.now z ∙ steps-no a.width a.bytes.now a.trace.now z _ eh _ (list-refused _ _ _ _ _ _ c.read_pieces.ensures _ c.in_err-steps.was))

pub returns-then-steps-bytes : goal.returns-then-steps-bytes
returns-then-steps-bytes c =
    let a = c.args in
    let z = accepted-zero _ _ c.ask_pieces.ensures c.in_ok-ask_pieces.was in
    let eh = field-got _ _ _ _ _ c.read_header.ensures _ c.in_ok-header.was in
    let lr = c.read_pieces.ensures in
    let g = list-got _ _ _ _ _ _ lr _ c.in_ok-steps.was in
    told-no a.width a.bytes.now a.trace.now _ _ _ refl (whole_is a.width a.bytes.now a.trace.now z ∙ steps-left a.width a.bytes.now a.trace.now z _ eh _ _ lr _ _ _ g c.if-steps-bytes.true)

pub returns : goal.returns
returns c =
    let a = c.args in
    let z = accepted-zero _ _ c.ask_pieces.ensures c.in_ok-ask_pieces.was in
    let eh = field-got _ _ _ _ _ c.read_header.ensures _ c.in_ok-header.was in
    let lr = c.read_pieces.ensures in
    let g = list-got _ _ _ _ _ _ lr _ c.in_ok-steps.was in
    steps-told a.width a.bytes.now a.trace.now z _ eh _ _ lr _ _ _ g c.if-steps-bytes.false
