-- `witness::put_step` meets its contract: two writes, one behind the other, are the step.
-- Assumes nothing.
use Prim.Native.Nat.{◌+◌}
use mathlib.Core.Path.{ap, ◌∙◌}
use Rattle.words.specs.Store.{fit_words}
use Rattle.words.specs.Pieces.{words_of}
use Rattle.words.proofs.Held.{halves-put}
use Rattle.witness.proofs.put_step.Goals as goal

pub returns : goal.returns
returns c =
    let a = c.args in
    let p = c.requires in
    let w = a.wit.now.width in
    c.put-2.ensures
    ∙ ap (fit_words (words_of w a.wit.now.steps + w) a.output.now) c.put.ensures
    ∙ halves-put w a.wit.now.steps a.input.now a.output.now a.trace.now p.0 p.1 p.2
