-- `permute::sound::sound_parameters` meets its contract: each refusal is one of question 17's tests, and after
-- them all words decide. Assumes nothing.
use mathlib.Core.Path.{sym, ◌∙◌}
use Rattle.permute.proofs.Parameters.{too_many, wrong_size, rounds-within, wrong-kind, units-decide}
use Rattle.permute.proofs.sound.sound_parameters.Goals as goal

pub returns-then-rounds-gt-MAX_ROUNDS : goal.returns-then-rounds-gt-MAX_ROUNDS
returns-then-rounds-gt-MAX_ROUNDS c = too_many _ _ _ c.if-rounds-gt-MAX_ROUNDS.true

pub returns-then-not-exact_length : goal.returns-then-not-exact_length
returns-then-not-exact_length c = wrong_size _ _ _ (sym c.exact_length.ensures ∙ c.if-not-exact_length.true)

pub sound_kinds-requires : goal.sound_kinds-requires
sound_kinds-requires c =
    rounds-within _ _ c.args.params.now (sym c.exact_length.ensures ∙ c.if-not-exact_length.false)

pub returns-then-not-sound_kinds : goal.returns-then-not-sound_kinds
returns-then-not-sound_kinds c = wrong-kind _ _ _ (sym c.sound_kinds.ensures ∙ c.if-not-sound_kinds.true)

pub returns : goal.returns
returns c =
    c.are_units.ensures
    ∙ units-decide _ _ _ c.if-rounds-gt-MAX_ROUNDS.false (sym c.exact_length.ensures ∙ c.if-not-exact_length.false)
    (sym c.sound_kinds.ensures ∙ c.if-not-sound_kinds.false)
