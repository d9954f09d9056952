-- `read_label` meets its contract: a length, as many bytes behind it, and the scan. Assumes nothing.
use mathlib.Core.Path.{◌≡◌, sym, ◌∙◌}
use native.Mathlib.Omega.{arith}
use Rattle.std.proofs.Common.{rules}
use Rattle.std.specs.Prelude.{Some, None, Err}
use Rattle.limits.specs.Outcome.{refusal}
use Rattle.narg.specs.Cursor.{read_u32}
use Rattle.reader.specs.At.{part_at}
use Rattle.parts.proofs.Label.{label-none, label-few, label-not, label-got, first_fits}
use Rattle.parts.proofs.read_label.Goals as goal

pub returns-in_err-n : goal.returns-in_err-n
returns-in_err-n c =
    let a = c.args in
    let r : c.from_residual.result ≡ Err (refusal 20) = search rules in
    let e : read_u32 a.bytes.now a.c.at ≡ None = grind arith in
    r ∙ label-none _ _ e

pub returns-then-part-count : goal.returns-then-part-count
returns-then-part-count c =
    let a = c.args in
    let e : read_u32 a.bytes.now a.c.at ≡ Some (c.in_ok-n.n, c.in_ok-n.first) = grind arith in
    let p : c.take-part.result.now ≡ part_at a.bytes.now c.in_ok-n.first.at c.in_ok-n.n = grind arith in
    label-few _ _ _ _ e _ p c.if-part-count.true

pub returns-then-not-is_utf8 : goal.returns-then-not-is_utf8
returns-then-not-is_utf8 c =
    let a = c.args in
    let e : read_u32 a.bytes.now a.c.at ≡ Some (c.in_ok-n.n, c.in_ok-n.first) = grind arith in
    let p : c.take-part.result.now ≡ part_at a.bytes.now c.in_ok-n.first.at c.in_ok-n.n = grind arith in
    label-not _ _ _ _ e _ p c.if-part-count.false (sym c.is_utf8.ensures.0 ∙ c.if-not-is_utf8.true)

pub overflow_add-result : goal.overflow_add-result
overflow_add-result c =
    let a = c.args in
    let e : read_u32 a.bytes.now a.c.at ≡ Some (c.in_ok-n.n, c.in_ok-n.first) = grind arith in
    let p : c.take-part.result.now ≡ part_at a.bytes.now c.in_ok-n.first.at c.in_ok-n.n = grind arith in
    record { fits = first_fits _ _ _ _ e _ p c.if-part-count.false (omega arith) }

pub returns : goal.returns
returns c =
    let a = c.args in
    let e : read_u32 a.bytes.now a.c.at ≡ Some (c.in_ok-n.n, c.in_ok-n.first) = grind arith in
    let p : c.take-part.result.now ≡ part_at a.bytes.now c.in_ok-n.first.at c.in_ok-n.n = grind arith in
    label-got _ _ _ _ e _ p c.if-part-count.false (sym c.is_utf8.ensures.0 ∙ c.if-not-is_utf8.false)
