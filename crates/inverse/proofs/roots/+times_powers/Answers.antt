-- `inverse::roots::times_powers` meets its contract: by halves of the exponent, which is the measure. Assumes nothing.
use mathlib.Core.Path.{◌∙◌}
use native.Mathlib.Omega.{arith}
use Rattle.inverse.proofs.Lanes.{lanes-none, even_is, odd_is, squares-length, products-asked}
use Rattle.inverse.proofs.roots.+times_powers.Goals as goal

pub returns-then-e-eq0 : goal.returns-then-e-eq0
returns-then-e-eq0 t c = lanes-none _ _ _ c.if-e-eq0.true c.requires.1

pub returns-then-e-eq0-2 : goal.returns-then-e-eq0-2
returns-then-e-eq0-2 t c =
    let a = c.args in
    even_is a.e a.a.now a.by.now _ a.by.now _ c.square_all.ensures c.if-e-eq0-2.true c.times_powers.ensures

pub times_powers-requires-2 : goal.times_powers-requires-2
times_powers-requires-2 t c =
    let a = c.args in
    let q = products-asked a.a.now a.by.now _ c.requires.0 c.requires.1 c.times_all.ensures in
    (omega (arith, c.if-e-eq0.false), (squares-length a.a.now _ c.square_all-2.ensures ∙ q.0, q.1))

pub returns : goal.returns
returns t c =
    let a = c.args in
    odd_is a.e a.a.now a.by.now _ _ _ c.square_all-2.ensures c.if-e-eq0-2.false c.times_all.ensures c.times_powers-2.ensures
