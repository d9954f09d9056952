-- `utf8::tail_low` meets its contract: two first bytes have another. Assumes nothing.
use borrow.Author.Tests.{eq-eqb, ne_eqb}
use Rattle.utf8.proofs.tail_low.Goals as goal

pub returns-then-c-eq224 : goal.returns-then-c-eq224
returns-then-c-eq224 c = simp (eq-eqb _ _ c.if-c-eq224.true)

pub returns-then-c-eq240 : goal.returns-then-c-eq240
returns-then-c-eq240 c = simp (ne_eqb _ _ c.if-c-eq224.false, eq-eqb _ _ c.if-c-eq240.true)

pub returns-else-c-eq240 : goal.returns-else-c-eq240
returns-else-c-eq240 c = simp (ne_eqb _ _ c.if-c-eq224.false, ne_eqb _ _ c.if-c-eq240.false)
