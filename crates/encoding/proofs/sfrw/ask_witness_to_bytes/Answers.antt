-- `sfrw::ask_witness_to_bytes` meets its contract: 1, 2 and 11, and 10 by the held words. Assumes nothing.
use mathlib.Core.Path.{refl, sym, ap, ◌∙◌}
use Rattle.std.proofs.Common.{rules}
use Rattle.limits.specs.Outcome.{outcome_of}
use Rattle.limits.proofs.Answered.{accepted-zero, refused-number, refused-own, refused-is, asked-is}
use Rattle.encoding.proofs.Steps.{witness_to_bytes-first, witness_to_bytes-then}
use Rattle.encoding.proofs.sfrw.ask_witness_to_bytes.Goals as goal

pub returns-in_err-ask_steps : goal.returns-in_err-ask_steps
returns-in_err-ask_steps c =
    let a = c.args in
    let e = c.ask_steps.ensures in
    let was = c.in_err-ask_steps.was in
    let h = refused-own _ _ e was in
    refused-is _ _ (search rules) (witness_to_bytes-first a.width a.steps a.trace.now a.room _ (sym (refused-number _ _ e was)) h) h

pub returns : goal.returns
returns c =
    let a = c.args in
    let z = accepted-zero _ _ c.ask_steps.ensures c.in_ok-ask_steps.was in
    c.ask.ensures ∙ asked-is 9 _
    ∙ ap outcome_of (witness_to_bytes-then a.width a.steps a.trace.now a.room 0 (sym z) refl _ (rw c.held_pieces-held.ensures))
