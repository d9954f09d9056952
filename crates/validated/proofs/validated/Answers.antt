-- Publics and queries are marked, so that a mark says what `bound` says. Assumes nothing.
use borrow.Author.Rules.{rules}
use mathlib.Core.Path.{◌≡◌, ap, ◌∙◌}
use Rattle.limits.specs.Outcome.{outcome_of}
use Rattle.words.specs.Pieces.{flat}
use Rattle.instance.specs.Parts.{pair_vars, parts_of}
use Rattle.validated.specs.Marks.{Marking}
use Rattle.instance.proofs.Parts.{flat-held}
use Rattle.validated.proofs.Gate.{gate-16, gate-12, gate-13, gate-terms}
use Rattle.validated.proofs.validated.Goals as goal
use Rattle.validated.proofs.validated.Goals.{After-mark_publics, After-mark_queries}

-- ---- what is known once publics and then queries are marked
publics-marked : (s : After-mark_publics) → let a = s.args in
    Marking a.ins.now.vars (pair_vars (parts_of a.ins.now a.publics.now a.queries.now a.equations.now).publics) a.marks.now s.mark_publics.result s.mark_publics.new.marks
unfolding parts_of
publics-marked s = rw s.held_words-pairs.ensures at s.mark_publics.ensures

queries-marked : (s : After-mark_queries) → let a = s.args in
    Marking a.ins.now.vars (flat (parts_of a.ins.now a.publics.now a.queries.now a.equations.now).queries) s.mark_publics.new.marks s.mark_queries.result s.mark_queries.new.marks
unfolding parts_of
queries-marked s = rw (flat-held, ← s.held_pieces-cells.ensures) s.mark_queries.ensures

pub returns-in_err-ask : goal.returns-in_err-ask
unfolding parts_of
returns-in_err-ask c =
    let a = c.args in
    let same : c.from_residual.result ≡ c.ask.result = search rules in
    same ∙ gate-16 (parts_of a.ins.now a.publics.now a.queries.now a.equations.now) _ c.ask.ensures c.in_err-ask.was

pub returns-in_err-ask-2 : goal.returns-in_err-ask-2
unfolding parts_of
returns-in_err-ask-2 c =
    let a = c.args in
    let same : c.from_residual-in_err-ask-2.result ≡ c.ask-2.result = search rules in
    same
    ∙ gate-12 (parts_of a.ins.now a.publics.now a.queries.now a.equations.now) _ c.ask.ensures c.in_ok-ask.was _ c.requires
    (publics-marked (goal.at.returns-in_err-ask-2 c).After-mark_publics) c.ask-2.ensures c.in_err-ask-2.was

pub returns-in_err-ask-3 : goal.returns-in_err-ask-3
unfolding parts_of
returns-in_err-ask-3 c =
    let a = c.args in
    let same : c.from_residual-in_err-ask-3.result ≡ c.ask-3.result = search rules in
    same
    ∙ gate-13 (parts_of a.ins.now a.publics.now a.queries.now a.equations.now) _ c.ask.ensures c.in_ok-ask.was _ c.requires
    (publics-marked (goal.at.returns-in_err-ask-3 c).After-mark_publics) c.ask-2.ensures c.in_ok-ask-2.was
    (queries-marked (goal.at.returns-in_err-ask-3 c).After-mark_queries) c.ask-3.ensures c.in_err-ask-3.was

pub returns : goal.returns
unfolding parts_of
returns c =
    let a = c.args in
    (rw c.held_words-terms.ensures at c.ask_equations.ensures)
    ∙ ap outcome_of
    (gate-terms (parts_of a.ins.now a.publics.now a.queries.now a.equations.now) _ c.ask.ensures c.in_ok-ask.was _ c.requires
    (publics-marked (goal.at.returns c).After-mark_publics) c.ask-2.ensures c.in_ok-ask-2.was
    (queries-marked (goal.at.returns c).After-mark_queries) c.ask-3.ensures c.in_ok-ask-3.was)
