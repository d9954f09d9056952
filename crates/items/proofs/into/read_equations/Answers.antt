-- `into::read_equations` meets its contract: what is left of the equations, after those that stand in the store,
-- comes to the whole.
-- Assumes nothing.
use mathlib.Core.Path.{◌≡◌, refl}
use native.Mathlib.Omega.{arith}
use Rattle.std.proofs.Common.{rules}
use Rattle.std.specs.Prelude.{Err}
use Rattle.expr.specs.Equation.{equation_words}
use Rattle.items.specs.Read.{read_equation, size_of}
use Rattle.items.proofs.Run.{run-listed}
use Rattle.items.proofs.Equations.{each-equations, run-equation-stop, run-equation}
use Rattle.items.proofs.Told.{list_on, list-got, equation-told-stop, equation-told}
use Rattle.items.proofs.into.read_equations.Goals as goal

pub returns-in_err-equation : goal.returns-in_err-equation
returns-in_err-equation c =
    let l = c.loop in
    let a = c.args in
    let r : c.from_residual.result ≡ Err c.in_err-equation.field-0.0 = search rules in
    list_on _ _ _ _ _ _ _ _ r (run-equation-stop a.bytes.now a.c.at a.n a.out.now l.out l.next.at l.to l.counter l.invariant c.loop-test.true _ (equation-told-stop _ _ _ _ _ _ _ c.in_err-equation.was c.read_equation.ensures))

pub loop-preserved : goal.loop-preserved
loop-preserved c =
    let l = c.loop in
    let a = c.args in
    run-equation a.bytes.now a.c.at a.n a.out.now l.out l.next.at l.to l.counter l.invariant c.loop-test.true _ _ _ (equation-told _ _ _ _ _ _ _ c.in_ok-equation.was c.read_equation.ensures)

pub returns : goal.returns
returns c =
    let l = c.loop in
    let a = c.args in
    list-got _ _ _ _ _ _ _ _ _
    (run-listed read_equation size_of equation_words a.bytes.now a.c.at a.n a.out.now l.out l.next.at l.to l.counter l.invariant (omega arith) _ each-equations l.next refl)
