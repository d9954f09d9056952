-- `read_header` meets its contract: magic and version, then two words, each with its own question.
-- Assumes nothing.
use mathlib.Core.Path.{◌≡◌, sym, ap, ◌∙◌}
use native.Mathlib.Omega.{arith}
use borrow.Author.Tests.{eqb-true, eqb-false}
use lib.ListN.{drop}
use Rattle.std.proofs.Common.{rules}
use Rattle.std.specs.Prelude.{Some, None, Result, Err}
use Rattle.limits.specs.Outcome.{Outcome, refusal}
use Rattle.limits.specs.declared.Refused.{Refused}
use Rattle.narg.specs.Reader.{Got, stop}
use Rattle.narg.specs.Cursor.{read_u32}
use Rattle.reader.specs.At.{part_at}
use Rattle.header.specs.Form.{version_at, width_at, unit_length_at}
use Rattle.header.specs.Told.{answered}
use Rattle.header.specs.Answers.{header_field}
use Rattle.header.specs.declared.Field.{Field}
use Rattle.header.proofs.Magic.{header-stop, width-short, width-no, unit-short, unit-no, header-yes, asked-yes, asked-no}
use Rattle.header.proofs.read_header.Goals as goal

-- a refusal
told : {g : Got (Unit {0})} {e : Refused} {r : Result Field Refused} → r ≡ Err e → g ≡ stop e.0 → r ≡ header_field g
told was e = was ∙ sym (ap header_field e)

pub returns-in_err-ask_magic : goal.returns-in_err-ask_magic
returns-in_err-ask_magic c =
    let s = c.args.bytes.now in
    let ef : c.take-magic.result.now ≡ part_at s 0 version_at = grind arith in
    let em : c.take-mark.result.now ≡ part_at s version_at 1 = grind arith in
    let r : c.from_residual.result ≡ Err c.in_err-ask_magic.field-0.0 = search rules in
    told r (header-stop _ _ _ s _ (c.ask_magic.ensures s ef em ∙ ap (λ (r : Outcome). answered r (drop width_at s)) c.in_err-ask_magic.was))

pub returns-in_err-n : goal.returns-in_err-n
returns-in_err-n c =
    let s = c.args.bytes.now in
    let ef : c.take-magic.result.now ≡ part_at s 0 version_at = grind arith in
    let em : c.take-mark.result.now ≡ part_at s version_at 1 = grind arith in
    let front = c.ask_magic.ensures s ef em ∙ ap (λ (r : Outcome). answered r (drop width_at s)) c.in_ok-ask_magic.was in
    let r : c.from_residual-in_err-n.result ≡ Err (refusal 20) = search rules in
    let none : read_u32 s width_at ≡ None = grind arith in
    told r (width-short _ _ _ s front none)

pub returns-in_err-ask : goal.returns-in_err-ask
returns-in_err-ask c =
    let s = c.args.bytes.now in
    let ef : c.take-magic.result.now ≡ part_at s 0 version_at = grind arith in
    let em : c.take-mark.result.now ≡ part_at s version_at 1 = grind arith in
    let front = c.ask_magic.ensures s ef em ∙ ap (λ (r : Outcome). answered r (drop width_at s)) c.in_ok-ask_magic.was in
    let r : c.from_residual-in_err-ask.result ≡ Err c.in_err-ask.field-0.0 = search rules in
    let w : read_u32 s width_at ≡ Some (c.in_ok-n.n, c.in_ok-n.field-0-1) = grind arith in
    let no = asked-no _ _ c.ask.ensures c.in_err-ask.was in
    told (r ∙ ap (λ (e : Refused). Err e) no.1) (width-no _ _ _ s front _ _ w (eqb-false _ _ no.0))

pub returns-in_err-len : goal.returns-in_err-len
returns-in_err-len c =
    let s = c.args.bytes.now in
    let ef : c.take-magic.result.now ≡ part_at s 0 version_at = grind arith in
    let em : c.take-mark.result.now ≡ part_at s version_at 1 = grind arith in
    let front = c.ask_magic.ensures s ef em ∙ ap (λ (r : Outcome). answered r (drop width_at s)) c.in_ok-ask_magic.was in
    let r : c.from_residual-in_err-len.result ≡ Err (refusal 20) = search rules in
    let w : read_u32 s width_at ≡ Some (c.in_ok-n.n, c.in_ok-n.field-0-1) = grind arith in
    let none : read_u32 s unit_length_at ≡ None = grind arith in
    told r (unit-short _ _ _ s front _ _ w (eqb-true _ _ (asked-yes _ _ c.ask.ensures c.in_ok-ask.was)) none)

pub returns-in_err-ask-2 : goal.returns-in_err-ask-2
returns-in_err-ask-2 c =
    let s = c.args.bytes.now in
    let ef : c.take-magic.result.now ≡ part_at s 0 version_at = grind arith in
    let em : c.take-mark.result.now ≡ part_at s version_at 1 = grind arith in
    let front = c.ask_magic.ensures s ef em ∙ ap (λ (r : Outcome). answered r (drop width_at s)) c.in_ok-ask_magic.was in
    let r : c.from_residual-in_err-ask-2.result ≡ Err c.in_err-ask-2.field-0.0 = search rules in
    let w : read_u32 s width_at ≡ Some (c.in_ok-n.n, c.in_ok-n.field-0-1) = grind arith in
    let u : read_u32 s unit_length_at ≡ Some (c.in_ok-len.len, c.in_ok-len.next) = grind arith in
    let no = asked-no _ _ c.ask-2.ensures c.in_err-ask-2.was in
    told (r ∙ ap (λ (e : Refused). Err e) no.1) (unit-no _ _ _ s front _ _ w (eqb-true _ _ (asked-yes _ _ c.ask.ensures c.in_ok-ask.was)) _ _ u (eqb-false _ _ no.0))

pub returns : goal.returns
returns c =
    let s = c.args.bytes.now in
    let ef : c.take-magic.result.now ≡ part_at s 0 version_at = grind arith in
    let em : c.take-mark.result.now ≡ part_at s version_at 1 = grind arith in
    let front = c.ask_magic.ensures s ef em ∙ ap (λ (r : Outcome). answered r (drop width_at s)) c.in_ok-ask_magic.was in
    let w : read_u32 s width_at ≡ Some (c.in_ok-n.n, c.in_ok-n.field-0-1) = grind arith in
    let u : read_u32 s unit_length_at ≡ Some (c.in_ok-len.len, c.in_ok-len.next) = grind arith in
    header-yes _ _ _ s front _ _ w (eqb-true _ _ (asked-yes _ _ c.ask.ensures c.in_ok-ask.was)) _ _ u (eqb-true _ _ (asked-yes _ _ c.ask-2.ensures c.in_ok-ask-2.was))
