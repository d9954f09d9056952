-- `inverse::rounds::undo_round` meets its contract: the matrix, then the roots, then the constants. Assumes nothing.
use mathlib.Core.Path.{ap, ◌∙◌}
use Rattle.inverse.specs.Inverse.{lower}
use Rattle.inverse.proofs.Back.{sub-asked, undone-is}
use Rattle.inverse.proofs.rounds.undo_round.Goals as goal

pub sub_constants-requires : goal.sub_constants-requires
sub_constants-requires c =
    sub-asked c.args.inverse.now _ c.args.state.now _ _ (c.lower.ensures ∙ ap (lower c.args.kind) c.times_rows.ensures) c.requires.0

pub returns : goal.returns
returns c =
    undone-is c.args.inverse.now _ c.args.state.now _ _ (c.lower.ensures ∙ ap (lower c.args.kind) c.times_rows.ensures) _ c.sub_constants.ensures
