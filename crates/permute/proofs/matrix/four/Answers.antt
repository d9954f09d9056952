-- `permute::matrix::four` meets its contract: no sum of the four products is too large. Assumes nothing.
use Prim.Native.Nat.{◌+◌, ◌*◌}
use native.Mathlib.Omega.{arith}
use Rattle.baby_bear.proofs.Units.{units-at}
use Rattle.permute.proofs.Columns.{products-fit, four_is, four-fits}
use Rattle.permute.proofs.matrix.four.Goals as goal

pub product-requires : goal.product-requires
product-requires c = units-at _ c.requires.units c.args.i

pub product-requires-2 : goal.product-requires-2
product-requires-2 c = units-at _ c.requires.units (c.args.step + c.args.i)

pub overflow_add-s : goal.overflow_add-s
overflow_add-s c =
    let f = products-fit c.requires c.args.i in
    omega (arith, c.product.ensures, c.product-2.ensures)

pub product-requires-3 : goal.product-requires-3
product-requires-3 c = units-at _ c.requires.units (c.args.step * 2 + c.args.i)

pub product-requires-4 : goal.product-requires-4
product-requires-4 c = units-at _ c.requires.units (c.args.step * 3 + c.args.i)

pub overflow_add-t : goal.overflow_add-t
overflow_add-t c =
    let f = products-fit c.requires c.args.i in
    omega (arith, c.product-3.ensures, c.product-4.ensures)

pub overflow_add-result : goal.overflow_add-result
overflow_add-result c =
    let g = c.args in
    let f = four-fits c.requires g.i in
    omega (arith, four_is g.columns.now g.step g.a g.b g.c g.d g.i c.product.ensures c.product-2.ensures c.product-3.ensures c.product-4.ensures, f)

pub returns : goal.returns
returns c = let g = c.args in four_is g.columns.now g.step g.a g.b g.c g.d g.i c.product.ensures c.product-2.ensures c.product-3.ensures c.product-4.ensures
