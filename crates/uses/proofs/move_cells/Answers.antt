-- `move_cells` meets its contract: after i turns the first i cells are moved and had room (`Upto`), and
-- their strays are counted.
-- Assumes nothing.
use mathlib.Core.Path.{refl}
use mathlib.Core.Bool.{true, false}
use native.Mathlib.Omega.{arith}
use Rattle.uses.proofs.Room.{strays-none, strays-more, upto-none, upto-more, upto-stop}
use Rattle.uses.proofs.move_cells.Goals as goal

pub loop-i-init : goal.loop-i-init
loop-i-init c = let a = c.args in (upto-none a.strike a.most a.end a.uses.now a.cells.now c.requires.0, strays-none a.len a.cells.now, omega arith)

pub returns-in_default : goal.returns-in_default
returns-in_default c =
    let l = c.loop-i in
    let a = c.args in
    (upto-stop a.strike a.most a.end a.uses.now a.cells.now c.requires.0 l.i l.uses _ c.loop-i-test.true l.invariant.0 false refl c.in_default.ensures.0, l.invariant.1, l.invariant.2)

pub loop-i-preserved : goal.loop-i-preserved
loop-i-preserved c =
    let l = c.loop-i in
    let a = c.args in
    let h = c.loop-i-test.true in
    let m = c.in-Some.ensures in
    let u = upto-more a.strike a.most a.end a.uses.now a.cells.now c.requires.0 l.i l.uses _ h l.invariant.0 true refl m.0 in
    let n = strays-more a.len a.cells.now l.i l.strays c.in-Some.stray h l.invariant.1 m.1.0 in
    (u, n, omega (arith, m.1.1))
