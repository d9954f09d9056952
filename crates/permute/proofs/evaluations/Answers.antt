-- `permute::evaluations` meets its contract: for no width, and where 17 says no, no step is an evaluation; else
-- they are counted.
-- Assumes nothing.
use mathlib.Core.Path.{refl, sym, ◌∙◌}
use lib.ListN.{replicate}
use Rattle.permute.proofs.Trace.{no-width, too_wide, not_sound, leading-none, leading-asked, leading-is}
use Rattle.permute.proofs.evaluations.Goals as goal

pub returns-then-width-lt1 : goal.returns-then-width-lt1
returns-then-width-lt1 c = leading-none _ (λ step. no-width _ _ _ step c.if-width-lt1.true) _

pub returns-then-width-gt-MAX_WIDTH : goal.returns-then-width-gt-MAX_WIDTH
returns-then-width-gt-MAX_WIDTH c = leading-none _ (λ step. too_wide _ _ _ step c.if-width-gt-MAX_WIDTH.true) _

pub returns-then-not-sound_parameters : goal.returns-then-not-sound_parameters
returns-then-not-sound_parameters c =
    let s = sym c.sound_parameters.ensures ∙ c.if-not-sound_parameters.true in
    leading-none _ (λ step. not_sound _ _ _ step s) _

pub leading-requires : goal.leading-requires
leading-requires c =
    leading-asked _ _ _ _ refl c.if-width-lt1.false c.if-width-gt-MAX_WIDTH.false (sym c.sound_parameters.ensures ∙ c.if-not-sound_parameters.false)

pub returns : goal.returns
returns c =
    let a = c.args in
    leading-is a.width a.rounds a.params.now (replicate 24 0) refl c.if-width-lt1.false c.if-width-gt-MAX_WIDTH.false a.trace.now a.steps _ c.leading.ensures
