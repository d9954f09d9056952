-- `witness::evaluate_step` meets its contract: the questions before the parameters, then 17 and 10 where the
-- trace is full, and where it has room the evaluation, which answers 17 or writes the step. Assumes nothing.
use mathlib.Core.Path.{◌≡◌, refl, sym, ap, ◌∙◌}
use native.Mathlib.Omega.{arith}
use lib.ListN.{length}
use Rattle.std.proofs.Common.{rules}
use Rattle.std.specs.Prelude.{Err}
use Rattle.limits.specs.Questions.{on_yes}
use Rattle.limits.proofs.Questions.{zero-▸, stays, goes_on, on_yes-yes}
use Rattle.limits.proofs.Answered.{accepted-zero, refused-number, refused-some, refused-own, stays_by}
use Rattle.witness.specs.Trace.{evaluate_step_no, traced_of, trace_with, evaluated_step, traced, EvaluatesStep}
use Rattle.witness.proofs.Accepted.{input-yes, evaluate_step-yes}
use Rattle.witness.proofs.Evaluated.{input-refused, room-asked, full-number, full-refused, room-number, step-refused, step-evaluated}
use Rattle.witness.proofs.evaluate_step.Goals as goal

pub returns-in_err-ask_input : goal.returns-in_err-ask_input
returns-in_err-ask_input c =
    let e = c.ask_input.ensures in
    let was = c.in_err-ask_input.was in
    let n = refused-number _ _ e was in
    let h = refused-own _ _ e was in
    step-refused _ _ _ _ _ (search rules) (input-refused _ _ _ _ _ _ (sym n) h) h

pub returns-in_err-ask_parameters-in-Err : goal.returns-in_err-ask_parameters-in-Err
returns-in_err-ask_parameters-in-Err c =
    let y = accepted-zero _ _ c.ask_input.ensures c.in_ok-ask_input.was in
    let e = c.ask_parameters.ensures in
    let was = c.in_err-ask_parameters-in-Err.was in
    let n = refused-number _ _ e was in
    step-refused _ _ _ _ _ (search rules)
    (full-number _ _ _ _ _ y _ _ (sym (zero-▸ _)) (sym n ∙ sym (stays _ _ (refused-some _ _ e was)))) (refused-own _ _ e was)

pub returns-in_ok-ask_parameters-in-Err : goal.returns-in_ok-ask_parameters-in-Err
returns-in_ok-ask_parameters-in-Err c =
    let y = accepted-zero _ _ c.ask_input.ensures c.in_ok-ask_input.was in
    let z = accepted-zero _ _ c.ask_parameters.ensures c.in_ok-ask_parameters-in-Err.was in
    let e = c.ask_one_more.ensures in
    let n = refused-number _ _ e c.in-Err.is in
    step-refused _ _ _ _ _ refl (full-number _ _ _ _ _ y _ _ (sym (zero-▸ _)) (sym n ∙ sym (goes_on _ _ z))) (refused-own _ _ e c.in-Err.is)

pub slice_bounds-state-end : goal.slice_bounds-state-end
slice_bounds-state-end c =
    let y = input-yes _ _ _ _ (accepted-zero _ _ c.ask_input.ensures c.in_ok-ask_input.was) in
    search rules

pub put_evaluation-requires : goal.put_evaluation-requires
put_evaluation-requires c =
    let y = input-yes _ _ _ _ (accepted-zero _ _ c.ask_input.ensures c.in_ok-ask_input.was) in
    let r = room-asked c.args.wit.now (length c.args.trace.now) 0 (sym (zero-▸ _ ∙ accepted-zero _ _ c.ask_one_more.ensures c.in-Ok.is)) refl in
    search rules

pub returns-in_err-put_evaluation-in-Ok : goal.returns-in_err-put_evaluation-in-Ok
returns-in_err-put_evaluation-in-Ok c =
    let y = accepted-zero _ _ c.ask_input.ensures c.in_ok-ask_input.was in
    let r = room-asked c.args.wit.now (length c.args.trace.now) 0 (sym (zero-▸ _ ∙ accepted-zero _ _ c.ask_one_more.ensures c.in-Ok.is)) refl in
    let e = c.put_evaluation.ensures in
    let was = c.in_err-put_evaluation-in-Ok.was in
    let same : c.from_residual-in_err-put_evaluation-in-Ok.result ≡ c.put_evaluation.result = search rules in
    step-evaluated _ _ _ _ _ y r (same ∙ e.0) (stays_by _ _ _ (refused-some _ _ e.0 was)) e.1

pub overflow_add-wit : goal.overflow_add-wit
overflow_add-wit c =
    let y = accepted-zero _ _ c.ask_input.ensures c.in_ok-ask_input.was in
    let r = room-asked c.args.wit.now (length c.args.trace.now) 0 (sym (zero-▸ _ ∙ accepted-zero _ _ c.ask_one_more.ensures c.in-Ok.is)) refl in
    let z = sym (room-number _ _ _ _ _ y r) ∙ accepted-zero _ _ c.put_evaluation.ensures.0 c.in_ok-put_evaluation-in-Ok.was in
    omega (arith, (evaluate_step-yes _ _ _ _ _ z).few)

pub returns-in_ok-put_evaluation-in-Ok : goal.returns-in_ok-put_evaluation-in-Ok
returns-in_ok-put_evaluation-in-Ok c =
    let y = accepted-zero _ _ c.ask_input.ensures c.in_ok-ask_input.was in
    let r = room-asked c.args.wit.now (length c.args.trace.now) 0 (sym (zero-▸ _ ∙ accepted-zero _ _ c.ask_one_more.ensures c.in-Ok.is)) refl in
    let e = c.put_evaluation.ensures in
    let was = c.in_ok-put_evaluation-in-Ok.was in
    step-evaluated _ _ _ _ _ y r (sym was ∙ e.0) (sym (on_yes-yes _ _ _ (accepted-zero _ _ e.0 was))) e.1
