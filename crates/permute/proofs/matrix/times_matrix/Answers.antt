-- `permute::matrix::times_matrix` meets its contract. The invariant: the rows done and the rows left make the
-- whole product. Assumes nothing.
use Prim.Native.Nat.{◌<◌}
use mathlib.Core.Path.{◌∙◌}
use native.Mathlib.Omega.{arith}
use lib.ListN.{length}
use Rattle.permute.proofs.Times.{times-turn, times-done}
use Rattle.permute.proofs.matrix.times_matrix.Goals as goal

pub loop-i-preserved : goal.loop-i-preserved
loop-i-preserved c =
    let l = c.loop-i in
    let t : l.i < length c.args.x.now = omega (arith, c.requires.1) in
    times-turn _ _ _ _ _ l.invariant (l.auto.out ∙ c.requires.1) _ _ t c.reduced.ensures (c.add_rest.ensures.is l.i t)

pub returns : goal.returns
returns c =
    let l = c.loop-i in
    times-done _ _ _ _ _ l.invariant (l.auto.out ∙ c.requires.1) (omega (arith, c.requires.1))
