-- `sfri::ask_instance_to_bytes` meets its contract: 1, 2 and 11 are asked in one call, and 10 by the held words.
-- Assumes nothing.
use mathlib.Core.Path.{refl, sym, ap, ◌∙◌}
use native.Mathlib.Omega.{arith}
use Rattle.std.proofs.Common.{rules}
use Rattle.limits.specs.Outcome.{outcome_of}
use Rattle.limits.proofs.Answered.{accepted-zero, refused-number, refused-own, refused-is, asked-is}
use Rattle.held.proofs.Facts.{instance_asks-yes}
use Rattle.encoding.proofs.Held.{Few, few, instance_to_bytes-first, instance_to_bytes-then}
use Rattle.encoding.proofs.sfri.ask_instance_to_bytes.Goals as goal
use Rattle.encoding.proofs.sfri.ask_instance_to_bytes.Goals.{After-held_words-words}

-- where 1, 2 and 11 say yes, what is held is few
held-few : (c : After-held_words-words) →
    Few c.args.label.now c.held_words-pairs.result.now c.held_pieces-pieces.result.now
    c.held_words-words.result.now
held-few c =
    let a = c.args in
    rw (c.held_words-pairs.ensures, c.held_pieces-pieces.ensures, c.held_words-words.ensures)
    (few _ _ _ _ _
    (instance_asks-yes a.ins a.label.now a.publics.now a.queries.now a.equations.now
    (accepted-zero _ _ c.ask_instance.ensures c.in_ok-ask_instance.was)))

pub returns-in_err-ask_instance : goal.returns-in_err-ask_instance
returns-in_err-ask_instance c =
    let a = c.args in
    let e = c.ask_instance.ensures in
    let was = c.in_err-ask_instance.was in
    let h = refused-own _ _ e was in
    refused-is _ _ (search rules)
    (instance_to_bytes-first a.ins a.label.now a.publics.now a.queries.now a.equations.now a.room _ (sym (refused-number _ _ e was)) h) h

pub overflow_add-label-2 : goal.overflow_add-label-2
overflow_add-label-2 c =
    let f = held-few (goal.at.overflow_add-label-2 c).After-held_words-words in
    omega arith

pub returns : goal.returns
returns c =
    let a = c.args in
    let z = accepted-zero _ _ c.ask_instance.ensures c.in_ok-ask_instance.was in
    c.ask.ensures ∙ asked-is 9 _
    ∙ ap outcome_of
    (instance_to_bytes-then a.ins a.label.now a.publics.now a.queries.now a.equations.now a.room 0 (sym z) refl _
    (rw (c.held_words-pairs.ensures, c.held_pieces-pieces.ensures, c.held_words-words.ensures)))
