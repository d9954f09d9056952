-- `inverse::rounds::times_rows` meets its contract. The invariant is `Rows`: the rows done and the rows left make the
-- whole product. Assumes nothing.
use mathlib.Core.Path.{◌∙◌}
use native.Mathlib.Omega.{arith}
use Rattle.inverse.proofs.Walk.{row-asked, rows-turn, rows-done}
use Rattle.inverse.proofs.rounds.times_rows.Goals as goal

pub times_row-requires : goal.times_row-requires
times_row-requires c = row-asked c.requires c.loop-i.i (omega (arith, c.requires.room))

pub loop-i-preserved : goal.loop-i-preserved
loop-i-preserved c =
    rows-turn c.requires c.loop-i.out c.loop-i.i (c.loop-i.auto.out ∙ c.requires.room) c.loop-i.invariant (omega (arith, c.requires.room)) _ c.times_row.ensures

pub returns : goal.returns
returns c = rows-done c.requires c.loop-i.out c.loop-i.i (c.loop-i.auto.out ∙ c.requires.room) c.loop-i.invariant (omega (arith, c.requires.room))
