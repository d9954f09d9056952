-- `into::read_pairs` meets its contract: what is left of the pairs, after those that stand in the store, comes to
-- the whole.
-- Assumes nothing.
use mathlib.Core.Path.{◌≡◌, refl}
use native.Mathlib.Omega.{arith}
use Rattle.std.proofs.Common.{rules}
use Rattle.std.specs.Prelude.{Err}
use Rattle.items.specs.Read.{read_pair, pair_size}
use Rattle.items.proofs.Run.{run-listed}
use Rattle.items.proofs.Equations.{two_words, each-pairs, run-pair-stop, run-pair-full, run-pair}
use Rattle.items.proofs.Told.{list-stop, list_on, list-got, pair-told-stop, pair-told}
use Rattle.items.proofs.into.read_pairs.Goals as goal

pub returns-in_err-two : goal.returns-in_err-two
returns-in_err-two c =
    let l = c.loop in
    let a = c.args in
    let r : c.from_residual.result ≡ Err c.in_err-two.field-0.0 = search rules in
    list_on _ _ _ _ _ _ _ _ r (run-pair-stop a.bytes.now a.c.at a.n a.out.now l.out l.next.at l.to l.counter l.invariant c.loop-test.true _ (pair-told-stop _ _ _ _ _ c.in_err-two.was c.read_two.ensures))

pub returns-then-out-to-lt2 : goal.returns-then-out-to-lt2
returns-then-out-to-lt2 c =
    let l = c.loop in
    let a = c.args in
    let t = pair-told _ _ _ _ _ c.in_ok-two.was c.read_two.ensures in
    list-stop _ _ _ _ _ _ _ (run-pair-full a.bytes.now a.c.at a.n a.out.now l.out l.next.at l.to l.counter l.invariant c.loop-test.true _ _ c.in_ok-two.two.next.at t.0 c.if-out-to-lt2.true)

pub loop-preserved : goal.loop-preserved
loop-preserved c =
    let l = c.loop in
    let a = c.args in
    let t = pair-told _ _ _ _ _ c.in_ok-two.was c.read_two.ensures in
    run-pair a.bytes.now a.c.at a.n a.out.now l.out l.next.at l.to l.counter l.invariant c.loop-test.true _ _ c.in_ok-two.two.next.at t.0 t.1 c.if-out-to-lt2.false

pub returns : goal.returns
returns c =
    let l = c.loop in
    let a = c.args in
    list-got _ _ _ _ _ _ _ _ _
    (run-listed read_pair pair_size two_words a.bytes.now a.c.at a.n a.out.now l.out l.next.at l.to l.counter l.invariant (omega arith) _ each-pairs l.next refl)
