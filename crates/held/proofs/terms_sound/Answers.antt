-- `terms_sound` meets its contract: what the terms so far say and what is left of them say together what all of them
-- say.
-- Assumes nothing.
use native.Mathlib.Omega.{arith}
use Rattle.held.proofs.Sound.{pairs-more, pairs-all, pairs-held}
use Rattle.held.proofs.terms_sound.Goals as goal

pub loop-term-init : goal.loop-term-init
loop-term-init c = (cc, pairs-held c.args.s.now _ c.args.at c.args.n (cc) c.requires)

pub loop-term-preserved : goal.loop-term-preserved
loop-term-preserved c =
    let l = c.loop-term in
    let e = c.in-Some.ensures.steps in
    (cc, pairs-more l.sound l.term-iterator.rest.now _ l.invariant.1 c.in-Some.term.now c.next.new.self.rest.now e.1.0 (cc))

pub returns : goal.returns
returns c =
    let l = c.loop-term in
    let e = c.in-None.ensures.steps in
    pairs-all l.sound l.term-iterator.rest.now _ l.invariant.1 (omega arith)
