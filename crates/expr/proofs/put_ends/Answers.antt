-- `expr::put_ends` meets its contract: each return is a case of the test.
-- Assumes nothing.
use Prim.Native.Nat.{◌+◌, ◌≤◌}
use mathlib.Core.Path.{refl, sym, ◌∙◌}
use native.Mathlib.Omega.{arith}
use borrow.Author.Tests.{lt-ltb, le-ltb, leb-true}
use lib.ListN.{length}
use Rattle.limits.specs.Numbers.{word_end}
use Rattle.expr.specs.Equation.{equation_size}
use Rattle.expr.proofs.put_ends.Goals as goal

pub returns-then-n-ge-WORD_END : goal.returns-then-n-ge-WORD_END
returns-then-n-ge-WORD_END c = (simp (le-ltb c.args.n word_end (omega arith)), refl)

pub returns-then-not-equation_fits : goal.returns-then-not-equation_fits
returns-then-not-equation_fits c =
    let a = c.args in
    let f = sym c.equation_fits.ensures ∙ c.if-not-equation_fits.true in
    (simp (lt-ltb a.n word_end (omega arith)) (sym f), refl)

pub write_ends-requires : goal.write_ends-requires
write_ends-requires c =
    let a = c.args in
    let f : a.at + equation_size a.n ≤ length a.out.now = leb-true _ _ (sym c.equation_fits.ensures ∙ c.if-not-equation_fits.false) in
    (omega arith, f)

pub returns : goal.returns
returns c =
    let a = c.args in
    let f = sym c.equation_fits.ensures ∙ c.if-not-equation_fits.false in
    (simp (lt-ltb a.n word_end (omega arith)) (sym f), c.write_ends.ensures)
