-- `validity::put_publics` meets its contract: the pairs that are left, put to the words as they are, come to
-- the whole.
-- Assumes nothing.
use Prim.Native.Nat.{◌+◌, ◌-◌, ◌*◌}
use mathlib.Core.Path.{◌≡◌}
use native.Mathlib.Omega.{arith}
use Rattle.validity.proofs.Publics.{publics-start, publics-36, value-below, publics-turn}
use Rattle.validity.proofs.put_publics.Goals as goal

pub loop-i-init : goal.loop-i-init
loop-i-init c =
    let z : c.args.count - 0 ≡ c.args.count = omega arith in
    rw z (publics-start _ _ _ c.requires.0 c.requires.1 c.requires.2)

pub returns-then-scratch-x : goal.returns-then-scratch-x
returns-then-scratch-x c = publics-36 c.loop-i.invariant (omega arith) c.if-scratch-x.true

pub overflow_add-scratch-in-loop-i : goal.overflow_add-scratch-in-loop-i
overflow_add-scratch-in-loop-i c = omega (arith, (value-below c.loop-i.invariant (omega arith)).0)

pub loop-i-preserved : goal.loop-i-preserved
loop-i-preserved c =
    let n = c.args.count in
    let i = c.loop-i.i in
    let l : n - i - 1 ≡ n - (i + 1) = omega arith in
    let a : 2 * i + 2 ≡ 2 * (i + 1) = omega arith in
    rw (l, a) at (publics-turn c.loop-i.invariant (omega arith) c.if-scratch-x.false)
