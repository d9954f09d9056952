-- `ask_terms` meets its contract: each turn asks one term more, and at the end all are asked. Assumes nothing.
use Rattle.std.proofs.Common.{◌∙◌, arith, rules}
use Rattle.limits.specs.Questions.{ask, first_of_two}
use Rattle.expr.proofs.Terms.{asked-one, asked-all}
use Rattle.expr.proofs.ask_terms.Goals as goal

pub loop-t-preserved : goal.loop-t-preserved
loop-t-preserved c =
    let l = c.loop-t in
    let e = asked-one c.args.terms.now l.t-index l.wires l.weights c.loop-t-test.true in
    (l.invariant.0 ∙ e.0, l.invariant.1 ∙ e.1)

pub returns : goal.returns
unfolding ask first_of_two
returns c =
    let l = c.loop-t in
    let w = l.invariant.0 ∙ (asked-all c.args.terms.now l.t-index l.wires (omega arith)).0 in
    let v = l.invariant.1 ∙ (asked-all c.args.terms.now l.t-index l.weights (omega arith)).1 in
    rw (w, v) (search rules)
