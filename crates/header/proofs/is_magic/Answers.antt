-- `is_magic` meets its contract: four tests in a row.
-- Assumes nothing.
use borrow.Author.Tests.{eq-eqb, ne_eqb}
use Rattle.header.proofs.is_magic.Goals as goal

pub returns-then-a-ne83 : goal.returns-then-a-ne83
returns-then-a-ne83 c = simp (ne_eqb _ _ c.if-a-ne83.true)

pub returns-then-b-ne70 : goal.returns-then-b-ne70
returns-then-b-ne70 c = simp (eq-eqb _ _ c.if-a-ne83.false, ne_eqb _ _ c.if-b-ne70.true)

pub returns-then-c-ne82 : goal.returns-then-c-ne82
returns-then-c-ne82 c = simp (eq-eqb _ _ c.if-a-ne83.false, eq-eqb _ _ c.if-b-ne70.false, ne_eqb _ _ c.if-c-ne82.true)

pub returns : goal.returns
returns c = simp (eq-eqb _ _ c.if-a-ne83.false, eq-eqb _ _ c.if-b-ne70.false, eq-eqb _ _ c.if-c-ne82.false)
