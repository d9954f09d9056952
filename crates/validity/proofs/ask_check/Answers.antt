-- `validity::ask_check` meets its contract: 31, then what the publics and the steps answer, then the equations
-- on the words that these left.
-- Assumes nothing.
use mathlib.Core.Path.{◌≡◌, ap}
use Rattle.std.proofs.Common.{rules}
use Rattle.limits.specs.Outcome.{outcome_of}
use Rattle.limits.proofs.Answered.{accepted-zero, refused-some}
use Rattle.permute.specs.Parameters.{is_evaluation}
use Rattle.validity.proofs.Checked.{check-31, check-stops, check-equations}
use Rattle.validity.proofs.ask_check.Goals as goal

pub returns-then-counts-ins : goal.returns-then-counts-ins
returns-then-counts-ins c =
    let a = c.args in
    ap outcome_of (check-31 _ a.counts.ins a.publics.now a.queries.now a.equations.now a.counts.steps a.trace.now c.if-counts-ins.true)

pub returns-in_err-put_all : goal.returns-in_err-put_all
returns-in_err-put_all c =
    let a = c.args in
    let same : c.from_residual.result ≡ c.put_all.result = search rules in
    check-stops (is_evaluation a.counts.ins.width a.counts.rounds a.params.now) a.counts.ins a.publics.now a.queries.now
    a.equations.now a.counts.steps a.trace.now c.if-counts-ins.false c.put_all.ensures same (refused-some _ _ c.put_all.ensures.answer c.in_err-put_all.was)

pub ask_equations-requires : goal.ask_equations-requires
ask_equations-requires c = (rw c.held_words-words.ensures c.requires.1, c.put_all.ensures.units)

pub returns : goal.returns
returns c =
    let a = c.args in
    check-equations (is_evaluation a.counts.ins.width a.counts.rounds a.params.now) a.counts.ins a.publics.now a.queries.now
    a.equations.now a.counts.steps a.trace.now c.if-counts-ins.false c.put_all.ensures
    (accepted-zero _ _ c.put_all.ensures.answer c.in_ok-put_all.was) c.held_words-words.ensures c.ask_equations.ensures
