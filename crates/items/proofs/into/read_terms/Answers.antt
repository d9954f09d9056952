-- `into::read_terms` meets its contract: what is left of the terms comes to the whole, and those that are done
-- stand in the store as far as it holds them.
-- Assumes nothing.
use mathlib.Core.Path.{◌≡◌, refl}
use Rattle.std.proofs.Common.{rules}
use Rattle.std.specs.Prelude.{Err}
use Rattle.items.proofs.Equations.{terms-start, terms-stop, terms-more, terms-given}
use Rattle.items.proofs.Told.{tell-terms-on, tell-terms, pair-told-stop, pair-told}
use Rattle.items.proofs.into.read_terms.Goals as goal

pub loop-init : goal.loop-init
loop-init c = let a = c.args in terms-start a.bytes.now a.c.at a.t a.out.now a.place

pub returns-in_err-two : goal.returns-in_err-two
returns-in_err-two c =
    let l = c.loop in
    let a = c.args in
    let r : c.from_residual.result ≡ Err c.in_err-two.field-0.0 = search rules in
    tell-terms-on _ _ _ _ _ _ _ _ r (terms-stop a.bytes.now a.c.at a.t a.out.now a.place l.out l.next.at l.to l.counter l.invariant c.loop-test.true _ (pair-told-stop _ _ _ _ _ c.in_err-two.was c.read_two.ensures))

pub loop-preserved : goal.loop-preserved
loop-preserved c =
    let l = c.loop in
    let a = c.args in
    let t = pair-told _ _ _ _ _ c.in_ok-two.was c.read_two.ensures in
    let m = terms-more a.bytes.now a.c.at a.t a.out.now a.place l.out l.next.at l.to l.counter l.invariant c.loop-test.true _ _ c.in_ok-two.two.next.at t.0 t.1 in
    rw (c.put_word-in-loop.ensures, c.put_word.ensures) m

pub returns : goal.returns
returns c =
    let l = c.loop in
    let a = c.args in
    tell-terms _ _ _ _ _ _ _ _ _ (terms-given a.bytes.now a.c.at a.t a.out.now a.place l.out l.next.at l.to l.counter l.invariant c.loop-test.false l.next refl)
