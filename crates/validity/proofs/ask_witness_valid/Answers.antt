-- `validity::ask_witness_valid` meets its contract: a no of the questions stays; where they all say yes, what is held
-- is sound and scratch has a word per wire, and the number is the check's.
-- Assumes nothing.
use mathlib.Core.Path.{◌≡◌, sym, ap, ◌∙◌}
use lib.Seq.{length-take-le}
use Rattle.std.proofs.Common.{rules}
use Rattle.limits.specs.Outcome.{outcome_of}
use Rattle.limits.proofs.Answered.{accepted-zero, refused-some}
use Rattle.validity.proofs.Asked.{valid-refused, valid-yes, valid-checked}
use Rattle.validity.proofs.ask_witness_valid.Goals as goal

pub returns-in_err-ask_valid : goal.returns-in_err-ask_valid
returns-in_err-ask_valid c =
    let e = c.ask_valid.ensures.answer in
    let same : c.from_residual.result ≡ c.ask_valid.result = search rules in
    same ∙ e ∙ ap outcome_of (valid-refused c.ask_valid.ensures (refused-some _ _ e c.in_err-ask_valid.was))

pub slice_bounds-carried-end : goal.slice_bounds-carried-end
slice_bounds-carried-end c = (valid-yes c.ask_valid.ensures (accepted-zero _ _ c.ask_valid.ensures.answer c.in_ok-ask_valid.was)).words

pub slice_bounds-carried-end-2 : goal.slice_bounds-carried-end-2
slice_bounds-carried-end-2 c =
    sym (length-take-le _ _ (valid-yes c.ask_valid.ensures (accepted-zero _ _ c.ask_valid.ensures.answer c.in_ok-ask_valid.was)).words)

pub ask_check-requires : goal.ask_check-requires
ask_check-requires c =
    let y = valid-yes c.ask_valid.ensures (accepted-zero _ _ c.ask_valid.ensures.answer c.in_ok-ask_valid.was) in
    (y.sound _ (length-take-le _ _ y.words), y.linear)

pub returns : goal.returns
returns c =
    c.ask_check.ensures ∙ ap outcome_of (valid-checked c.ask_valid.ensures (accepted-zero _ _ c.ask_valid.ensures.answer c.in_ok-ask_valid.was))
