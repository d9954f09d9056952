-- `validity::put_all` meets its contract: the publics are put to words of 0, and the steps to what they left.
-- Assumes nothing.
use mathlib.Core.Path.{◌≡◌}
use Rattle.std.proofs.Common.{rules}
use Rattle.limits.proofs.Answered.{accepted-zero, refused-some}
use Rattle.permute.specs.Parameters.{is_evaluation}
use Rattle.validity.proofs.Checked.{publics-asked, publics-put, all-stops, steps-asked, all-put}
use Rattle.validity.proofs.put_all.Goals as goal

pub put_publics-requires : goal.put_publics-requires
put_publics-requires c = publics-asked c.requires.0 c.fill.ensures c.held_words.ensures

pub returns-in_err-put_publics : goal.returns-in_err-put_publics
returns-in_err-put_publics c =
    let placed = publics-put c.requires.0 c.fill.ensures c.held_words.ensures c.put_publics.ensures in
    let same : c.from_residual.result ≡ c.put_publics.result = search rules in
    all-stops c.requires.0 (is_evaluation c.args.counts.ins.width c.args.counts.rounds c.args.params.now) c.requires.1 placed same
    (refused-some _ _ placed.answer c.in_err-put_publics.was)

pub put_steps-requires : goal.put_steps-requires
put_steps-requires c =
    steps-asked c.requires.0 c.requires.1 _ c.put_publics.ensures.units c.held_pieces-cells.ensures c.held_pieces-units.ensures

pub returns : goal.returns
returns c =
    let placed = publics-put c.requires.0 c.fill.ensures c.held_words.ensures c.put_publics.ensures in
    all-put c.requires.0 (is_evaluation c.args.counts.ins.width c.args.counts.rounds c.args.params.now) c.requires.1 placed
    c.held_pieces-cells.ensures c.held_pieces-units.ensures (accepted-zero _ _ placed.answer c.in_ok-put_publics.was) c.put_steps.ensures
