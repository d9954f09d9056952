-- `sfri::read_instance` meets its contract: 1 and 2, the file, what the rule asks and the gate on what the stores hold,
-- and 28. Assumes nothing.
use mathlib.Core.Path.{◌≡◌, refl, sym, ◌∙◌}
use Rattle.std.proofs.Common.{rules}
use Rattle.std.specs.Prelude.{Err}
use Rattle.limits.proofs.Answered.{accepted-zero, refused-number, refused-some}
use Rattle.decoding.specs.Answers.{stores}
use Rattle.decoding.specs.Given.{rule_of, rule_no}
use Rattle.decoding.proofs.Files.{rule-is, file-refused, file-got, whole-refused, rule-refused, gate-refused, end_refused, whole-yes, asked-no, asked-parts, whole_is, tell_no, tell_yes}
use Rattle.decoding.proofs.sfri.read_instance.Goals as goal

pub returns-in_err-ask_read : goal.returns-in_err-ask_read
returns-in_err-ask_read c =
    let a = c.args in
    let before = stores a.publics.now a.queries.now a.equations.now a.scratch.now in
    let r : c.from_residual.result ≡ Err c.in_err-ask_read.field-0.0 = search rules in
    let no = sym (refused-number _ _ c.ask_read.ensures c.in_err-ask_read.was) in
    tell_no (rule_of a.strict) a.width a.bytes.now before _ _ _ r (asked-no (rule_of a.strict) a.width a.bytes.now before _ no (λ z. refused-some _ _ c.ask_read.ensures c.in_err-ask_read.was (sym no ∙ z)))

pub read_file-requires : goal.read_file-requires
read_file-requires c =
    let a = c.args in
    let before = stores a.publics.now a.queries.now a.equations.now a.scratch.now in
    asked-parts (rule_of a.strict) a.width a.bytes.now before (accepted-zero _ _ c.ask_read.ensures c.in_ok-ask_read.was)

pub returns-in_err-read : goal.returns-in_err-read
returns-in_err-read c =
    let a = c.args in
    let before = stores a.publics.now a.queries.now a.equations.now a.scratch.now in
    let r : c.from_residual-in_err-read.result ≡ Err c.in_err-read.field-0.0 = search rules in
    let z = accepted-zero _ _ c.ask_read.ensures c.in_ok-ask_read.was in
    tell_no (rule_of a.strict) a.width a.bytes.now before _ _ _ r
    (whole_is (rule_of a.strict) a.width a.bytes.now before z ∙ whole-refused (rule_of a.strict) a.width a.bytes.now before _ (file-refused _ _ _ _ _ _ _ _ _ c.read_file.ensures _ c.in_err-read.was))

pub returns-in_err-ask_rule : goal.returns-in_err-ask_rule
returns-in_err-ask_rule c =
    let a = c.args in
    let before = stores a.publics.now a.queries.now a.equations.now a.scratch.now in
    let r : c.from_residual-in_err-ask_rule.result ≡ Err c.in_err-ask_rule.field-0.0 = search rules in
    let z = accepted-zero _ _ c.ask_read.ensures c.in_ok-ask_read.was in
    let g = file-got _ _ _ _ _ _ _ _ _ c.read_file.ensures _ _ c.in_ok-read.was in
    let named = (λ j. rule_no a.strict (g.is j).instance.vars (g.pairs j)) ∙ rule-is a.strict g.file.parts g.order in
    let no = sym (refused-number _ _ c.ask_rule.ensures c.in_err-ask_rule.was) in
    tell_no (rule_of a.strict) a.width a.bytes.now before _ _ _ r
    (whole_is (rule_of a.strict) a.width a.bytes.now before z ∙ rule-refused (rule_of a.strict) a.width a.bytes.now before g.file c.in_ok-read.end.at g.reads _ (no ∙ named)
    (λ y. refused-some _ _ c.ask_rule.ensures c.in_err-ask_rule.was (sym no ∙ y)))

pub returns-in_err-ask_validated : goal.returns-in_err-ask_validated
returns-in_err-ask_validated c =
    let a = c.args in
    let before = stores a.publics.now a.queries.now a.equations.now a.scratch.now in
    let r : c.from_residual-in_err-ask_validated.result ≡ Err c.in_err-ask_validated.field-0.0 = search rules in
    let z = accepted-zero _ _ c.ask_read.ensures c.in_ok-ask_read.was in
    let g = file-got _ _ _ _ _ _ _ _ _ c.read_file.ensures _ _ c.in_ok-read.was in
    let named = (λ j. rule_no a.strict (g.is j).instance.vars (g.pairs j)) ∙ rule-is a.strict g.file.parts g.order in
    let rule = sym (accepted-zero _ _ c.ask_rule.ensures c.in_ok-ask_rule.was) in
    let no = sym (refused-number _ _ c.ask_validated.ensures.answer c.in_err-ask_validated.was) in
    tell_no (rule_of a.strict) a.width a.bytes.now before _ _ _ r
    (whole_is (rule_of a.strict) a.width a.bytes.now before z ∙ gate-refused (rule_of a.strict) a.width a.bytes.now before g.file c.in_ok-read.end.at g.reads 0 (rule ∙ named) refl _ _ g.holds no
    (λ y. refused-some _ _ c.ask_validated.ensures.answer c.in_err-ask_validated.was (sym no ∙ y)))

pub returns-then-end-bytes : goal.returns-then-end-bytes
returns-then-end-bytes c =
    let a = c.args in
    let before = stores a.publics.now a.queries.now a.equations.now a.scratch.now in
    let z = accepted-zero _ _ c.ask_read.ensures c.in_ok-ask_read.was in
    let g = file-got _ _ _ _ _ _ _ _ _ c.read_file.ensures _ _ c.in_ok-read.was in
    let named = (λ j. rule_no a.strict (g.is j).instance.vars (g.pairs j)) ∙ rule-is a.strict g.file.parts g.order in
    let rule = sym (accepted-zero _ _ c.ask_rule.ensures c.in_ok-ask_rule.was) in
    let gate = sym (accepted-zero _ _ c.ask_validated.ensures.answer c.in_ok-ask_validated.was) in
    tell_no (rule_of a.strict) a.width a.bytes.now before _ _ _ refl
    (whole_is (rule_of a.strict) a.width a.bytes.now before z ∙ end_refused (rule_of a.strict) a.width a.bytes.now before g.file c.in_ok-read.end.at g.reads 0 (rule ∙ named) refl 0 _ g.holds gate refl c.if-end-bytes.true)

pub returns : goal.returns
returns c =
    let a = c.args in
    let before = stores a.publics.now a.queries.now a.equations.now a.scratch.now in
    let z = accepted-zero _ _ c.ask_read.ensures c.in_ok-ask_read.was in
    let g = file-got _ _ _ _ _ _ _ _ _ c.read_file.ensures _ _ c.in_ok-read.was in
    let named = (λ j. rule_no a.strict (g.is j).instance.vars (g.pairs j)) ∙ rule-is a.strict g.file.parts g.order in
    let rule = sym (accepted-zero _ _ c.ask_rule.ensures c.in_ok-ask_rule.was) in
    let gate = sym (accepted-zero _ _ c.ask_validated.ensures.answer c.in_ok-ask_validated.was) in
    tell_yes (rule_of a.strict) a.width a.bytes.now before _ g.file _
    (whole_is (rule_of a.strict) a.width a.bytes.now before z ∙ whole-yes (rule_of a.strict) a.width a.bytes.now before g.file c.in_ok-read.end.at g.reads 0 (rule ∙ named) refl 0 _ g.holds gate refl c.if-end-bytes.false)
    _ g.is g.stored c.ask_validated.ensures.scratch
