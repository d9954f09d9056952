-- `sfri::read_file` meets its contract: header, label, parts, and 27 of the pairs that the store holds.
-- Assumes nothing.
use mathlib.Core.Path.{◌≡◌, refl, sym, ◌∙◌}
use Rattle.std.proofs.Common.{rules}
use Rattle.std.specs.Prelude.{Err}
use Rattle.limits.proofs.Answered.{accepted-zero, refused-number, refused-some, asked-is}
use Rattle.header.proofs.Got.{field-stop, field-got}
use Rattle.parts.proofs.Label.{label-refused, label-told}
use Rattle.parts.proofs.Parts.{read-refused, read-got}
use Rattle.decoding.proofs.Files.{header-past, header-no, label-no, parts-no, order-no, label-fits, file-told, file-no}
use Rattle.decoding.proofs.sfri.read_file.Goals as goal

pub returns-in_err-header : goal.returns-in_err-header
returns-in_err-header c =
    let a = c.args in
    let r : c.from_residual.result ≡ Err c.in_err-header.field-0.0 = search rules in
    file-no a.width a.bytes.now a.publics.now a.queries.now a.equations.now _ _ _ _ _ r
    (header-no a.width a.bytes.now a.publics.now a.queries.now a.equations.now c.requires _ (field-stop _ _ _ _ _ c.read_header.ensures _ c.in_err-header.was))

pub returns-in_err-label : goal.returns-in_err-label
returns-in_err-label c =
    let a = c.args in
    let r : c.from_residual-in_err-label.result ≡ Err c.in_err-label.field-0.0 = search rules in
    let head = field-got _ _ _ _ _ c.read_header.ensures _ c.in_ok-header.was in
    file-no a.width a.bytes.now a.publics.now a.queries.now a.equations.now _ _ _ _ _ r
    (label-no a.width a.bytes.now a.publics.now a.queries.now a.equations.now c.requires c.in_ok-header.header.next head _
    (label-refused a.bytes.now c.in_ok-header.header.next.at _ c.read_label.ensures _ c.in_err-label.was))

pub returns-in_err-instance : goal.returns-in_err-instance
returns-in_err-instance c =
    let a = c.args in
    let r : c.from_residual-in_err-instance.result ≡ Err c.in_err-instance.field-0.0 = search rules in
    let head = field-got _ _ _ _ _ c.read_header.ensures _ c.in_ok-header.was in
    let label = label-told _ _ _ c.read_label.ensures _ c.in_ok-label.was in
    file-no a.width a.bytes.now a.publics.now a.queries.now a.equations.now _ _ _ _ _ r
    (parts-no a.width a.bytes.now a.publics.now a.queries.now a.equations.now c.requires c.in_ok-header.header.next head _ _ _ c.in_ok-label.label.next label _
    (read-refused a.width a.bytes.now c.in_ok-label.label.next.at a.publics.now a.queries.now a.equations.now _ _ _ _ c.read_parts.ensures _ c.in_err-instance.was))

pub returns-in_err-ask_order : goal.returns-in_err-ask_order
returns-in_err-ask_order c =
    let a = c.args in
    let r : c.from_residual-in_err-ask_order.result ≡ Err c.in_err-ask_order.field-0.0 = search rules in
    let head = field-got _ _ _ _ _ c.read_header.ensures _ c.in_ok-header.was in
    let label = label-told _ _ _ c.read_label.ensures _ c.in_ok-label.was in
    let parts = read-got _ _ _ _ _ _ _ _ _ _ c.read_parts.ensures _ _ c.in_ok-instance.was in
    let asked = c.ask_order.ensures ∙ asked-is 26 _ in
    let no = sym (refused-number _ _ asked c.in_err-ask_order.was) in
    file-no a.width a.bytes.now a.publics.now a.queries.now a.equations.now _ _ _ _ _ r
    (order-no a.width a.bytes.now a.publics.now a.queries.now a.equations.now c.requires c.in_ok-header.header.next head _ _ _ c.in_ok-label.label.next label
    _ _ _ _ _ _ _ parts _ no (λ z. refused-some _ _ asked c.in_err-ask_order.was (sym no ∙ z)))

pub accepted-requires : goal.accepted-requires
accepted-requires c =
    let a = c.args in
    let head = field-got _ _ _ _ _ c.read_header.ensures _ c.in_ok-header.was in
    let label = label-told _ _ _ c.read_label.ensures _ c.in_ok-label.was in
    label-fits a.width a.bytes.now a.publics.now a.queries.now a.equations.now c.requires c.in_ok-header.header.next head _ _ _ c.in_ok-label.label.next label

pub returns : goal.returns
returns c =
    let a = c.args in
    let head = field-got _ _ _ _ _ c.read_header.ensures _ c.in_ok-header.was in
    let label = label-told _ _ _ c.read_label.ensures _ c.in_ok-label.was in
    let parts = read-got _ _ _ _ _ _ _ _ _ _ c.read_parts.ensures _ _ c.in_ok-instance.was in
    let zero = accepted-zero _ _ (c.ask_order.ensures ∙ asked-is 26 _) c.in_ok-ask_order.was in
    file-told a.width a.bytes.now a.publics.now a.queries.now a.equations.now c.requires c.in_ok-header.header.next head _ _ _ c.in_ok-label.label.next label
    _ _ _ _ _ _ _ parts 0 (sym zero) refl
    (header-past _ _ _ _ c.read_header.ensures _ c.in_ok-header.was) _ c.accepted.ensures
