-- `allocator::grow_slots` meets its contract: the part that is filled starts at the wire count.
-- Assumes nothing.
use mathlib.Core.Path.{◌∙◌}
use Prim.Native.Nat.{◌+◌, ◌≤◌}
use native.Mathlib.Omega.{arith}
use lib.ListN.{length}
use borrow.Author.Tests.{le-leb, lt-leb}
use Rattle.words.proofs.Mid.{fill-mid}
use Rattle.allocator.proofs.grow_slots.Goals as goal

pub returns-then-slots-end : goal.returns-then-slots-end
returns-then-slots-end c =
    let a = c.args in
    simp (lt-leb (a.count + a.n) (length a.slots.now) (omega arith))

pub returns : goal.returns
returns c =
    let a = c.args in
    let h : a.count + a.n ≤ length a.slots.now = c.if-slots-end.false in
    fill-mid a.count a.n 4294967295 a.slots.now _ h c.fill.ensures
    ∙ simp (le-leb (a.count + a.n) (length a.slots.now) h)
