-- `permute::matrix::add_fours` meets its contract. The invariant is `Summing`: the sums and the columns that are
-- left make the whole, and the sums fit. Assumes nothing.
use Prim.Native.Nat.{◌+◌, ◌-◌, ◌%◌}
use mathlib.Core.Path.{◌≡◌}
use native.Mathlib.Omega.{arith}
use lib.ListN.{length}
use Rattle.permute.proofs.Columns.{columns-room, sums-asked, four-asked, four-turn, summing-at}
use Rattle.permute.proofs.matrix.add_fours.Goals as goal

pub slice_bounds-add_columns-end : goal.slice_bounds-add_columns-end
slice_bounds-add_columns-end c =
    let i = c.loop-j.invariant in
    let r = columns-room c.requires.0 i.0 4 (omega (arith, c.loop-j-test.true)) in
    omega arith

pub add_columns-requires : goal.add_columns-requires
add_columns-requires c =
    let p = c.requires.0 in
    let i = c.loop-j.invariant in
    (four-asked p i.0 (omega (arith, c.loop-j-test.true)), sums-asked p i.0)

pub loop-j-preserved : goal.loop-j-preserved
loop-j-preserved c =
    let p = c.requires.0 in
    let i = c.loop-j.invariant in
    let d = c.add_columns in
    (summing-at p (four-turn p i.0 (omega (arith, c.loop-j-test.true)) d.auto.low d.auto.high d.ensures), omega arith)

-- after the last four, where no next number is made
pub returns-2 : goal.returns-2
returns-2 c =
    let p = c.requires.0 in
    let i = c.loop-j.invariant in
    let d = c.add_columns in
    let w = length c.args.x.now in
    let e : c.loop-j.j + 4 ≡ w - w % 4 = omega arith in
    rw (← e) (summing-at p (four-turn p i.0 (omega (arith, c.loop-j-test.true)) d.auto.low d.auto.high d.ensures))
