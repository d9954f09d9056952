-- `into::read_pieces` meets its contract: what is left of the pieces, after those that stand in the store, comes
-- to the whole.
-- Assumes nothing.
use mathlib.Core.Path.{◌≡◌, refl, sym, ◌∙◌}
use native.Mathlib.Omega.{arith}
use Rattle.std.proofs.Common.{rules}
use Rattle.std.specs.Prelude.{Err}
use Rattle.narg.specs.Reader.{below, times}
use Rattle.items.proofs.Run.{run-listed, run-piece, run-piece-no, each-flat}
use Rattle.items.proofs.Told.{list_on, list-got}
use Rattle.items.proofs.into.read_pieces.Goals as goal

pub returns-in_err-next : goal.returns-in_err-next
returns-in_err-next c =
    let l = c.loop in
    let a = c.args in
    let r : c.from_residual.result ≡ Err c.in_err-next.field-0.0 = search rules in
    list_on _ _ _ _ _ _ _ _ r
    (run-piece-no a.size a.bound a.k a.bytes.now a.c.at a.n a.out.now l.out l.next.at l.to l.counter l.invariant
    c.loop-test.true _ (sym c.read_words.ensures.0 ∙ c.in_err-next.was))

pub loop-preserved : goal.loop-preserved
loop-preserved c =
    let l = c.loop in
    let a = c.args in
    run-piece a.size a.bound a.k a.bytes.now a.c.at a.n a.out.now l.out l.next.at l.to l.counter l.invariant
    c.loop-test.true _ _ (sym c.read_words.ensures.0 ∙ c.in_ok-next.was) c.read_words.ensures.1

pub returns : goal.returns
returns c =
    let l = c.loop in
    let a = c.args in
    list-got _ _ _ _ _ _ _ _ _
    (run-listed (times (below a.bound a.k) a.size) (λ q. a.size) (λ q. q) a.bytes.now a.c.at a.n a.out.now
    l.out l.next.at l.to l.counter l.invariant (omega arith) _ each-flat l.next refl)
