-- `into::read_two` meets its contract: a wire, then a unit.
-- Assumes nothing.
use mathlib.Core.Path.{◌≡◌}
use native.Mathlib.Omega.{arith}
use Rattle.std.proofs.Common.{rules}
use Rattle.std.specs.Prelude.{Err}
use Rattle.items.proofs.Equations.{pair-stop, value-stop, pair-yes}
use Rattle.items.proofs.Told.{told-stop, told-got, tell-pair-on, tell-pair}
use Rattle.items.proofs.into.read_two.Goals as goal

pub returns-in_err-var : goal.returns-in_err-var
returns-in_err-var c =
    let r : c.from_residual.result ≡ Err c.in_err-var.field-0.0 = search rules in
    tell-pair-on _ _ _ _ _ r (pair-stop _ _ (told-stop _ _ _ _ _ c.in_err-var.was c.read_below.ensures))

pub returns-in_err-unit : goal.returns-in_err-unit
returns-in_err-unit c =
    let f = told-got _ _ _ _ _ c.in_ok-var.was c.read_below.ensures in
    let r : c.from_residual-in_err-unit.result ≡ Err c.in_err-unit.field-0.0 = search rules in
    tell-pair-on _ _ _ _ _ r (value-stop _ _ _ f.0 _ (told-stop _ _ _ _ _ c.in_err-unit.was c.read_below-2.ensures))

pub returns : goal.returns
returns c =
    let f = told-got _ _ _ _ _ c.in_ok-var.was c.read_below.ensures in
    let g = told-got _ _ _ _ _ c.in_ok-unit.was c.read_below-2.ensures in
    tell-pair _ _ _ _ _ _ (pair-yes _ _ _ f.0 _ _ g.0) (omega (arith, f.1, g.1))
