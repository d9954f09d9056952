-- `utf8::tail_high` meets its contract: two first bytes have another. Assumes nothing.
use borrow.Author.Tests.{eq-eqb, ne_eqb}
use Rattle.utf8.proofs.tail_high.Goals as goal

pub returns-then-c-eq237 : goal.returns-then-c-eq237
returns-then-c-eq237 c = simp (eq-eqb _ _ c.if-c-eq237.true)

pub returns-then-c-eq244 : goal.returns-then-c-eq244
returns-then-c-eq244 c = simp (ne_eqb _ _ c.if-c-eq237.false, eq-eqb _ _ c.if-c-eq244.true)

pub returns-else-c-eq244 : goal.returns-else-c-eq244
returns-else-c-eq244 c = simp (ne_eqb _ _ c.if-c-eq237.false, ne_eqb _ _ c.if-c-eq244.false)
