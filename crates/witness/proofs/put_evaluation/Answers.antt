-- `witness::put_evaluation` meets its contract: the inputs are copied and turned, and where 17 says yes both are
-- written as a step. Assumes nothing.
use mathlib.Core.Path.{sym, ap, ◌∙◌}
use mathlib.Core.List.{◌++◌}
use Rattle.limits.proofs.Questions.{on_yes-yes}
use Rattle.limits.proofs.Answered.{accepted-zero, outcome-accepted}
use Rattle.permute.specs.Parameters.{permute_no, permuted}
use Rattle.permute.proofs.Laws.{permuted-yes}
use Rattle.witness.specs.Trace.{trace_with, evaluated_step}
use Rattle.witness.proofs.Written.{copied}
use Rattle.witness.proofs.put_evaluation.Goals as goal

pub returns : goal.returns
returns c =
    let a = c.args in
    let p = c.requires in
    let w = a.wit.now.width in
    let input = a.input.now in
    let first = c.put.ensures ∙ copied input a.state.now (p.0 ∙ sym p.1) in
    let z = ap (permute_no w a.rounds a.params.now) (sym first) ∙ accepted-zero _ _ c.permute.ensures.0 c.in_ok-permute.was in
    let last = c.permute.ensures.1 ∙ ap (permuted w a.rounds a.params.now) first ∙ permuted-yes w a.rounds a.params.now input z in (
      outcome-accepted _ z,
      c.put_step.ensures
          ∙ ap (λ out. trace_with a.wit.now (input ++ out) a.trace.now) last
          ∙ sym (on_yes-yes _ (trace_with a.wit.now (evaluated_step a.wit.now input a.rounds a.params.now) a.trace.now) a.trace.now z),
    )
