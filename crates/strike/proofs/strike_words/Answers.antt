-- `strike_words` meets its contract: `copy_within` moves words down, and `fill` clears the freed ones.
-- Assumes nothing.
use native.Mathlib.Omega.{arith}
use Prim.Native.Nat.{◌+◌, ◌-◌, ◌≤◌}
use mathlib.Core.Path.{◌≡◌, ◌∙◌}
use lib.ListN.{length}
use Rattle.words.proofs.Mid.{fill-mid}
use Rattle.strike.proofs.Moves.{struck-short, struck-none, moved-struck}
use Rattle.strike.proofs.strike_words.Goals as goal

pub returns-then-s-end : goal.returns-then-s-end
returns-then-s-end c = let a = c.args in struck-short a.at a.n a.end a.s.now c.if-s-end.true

pub returns-then-end-at : goal.returns-then-end-at
returns-then-end-at c = let a = c.args in struck-none a.at a.n a.end a.s.now (omega arith)

pub returns-then-end-at-2 : goal.returns-then-end-at-2
returns-then-end-at-2 c = let a = c.args in struck-none a.at a.n a.end a.s.now (omega arith)

pub returns : goal.returns
returns c =
    let a = c.args in
    let e = c.copy_within.ensures.after in
    let k : a.end - (a.end - a.n) ≡ (a.end - a.n + a.n) - (a.end - a.n) = omega arith in
    let h : a.at + a.n ≤ a.end = omega arith in
    let f : a.end - a.n + a.n ≤ length c.copy_within.new.self = omega arith in
    rw k (fill-mid (a.end - a.n) a.n 0 _ _ f (rw k at c.fill.ensures) ∙ (rw e (moved-struck a.at a.n a.end a.s.now h c.if-s-end.false)))
