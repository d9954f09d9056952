-- `expr::equation_fits` meets its contract: the terms are compared with half of the room.
-- Assumes nothing.
use Prim.Native.Nat.{◌+◌}
use mathlib.Core.Path.{sym}
use native.Mathlib.Omega.{arith}
use borrow.Author.Tests.{lt-leb}
use Rattle.expr.specs.Equation.{equation_size}
use Rattle.expr.proofs.Write.{fits-half}
use Rattle.expr.proofs.equation_fits.Goals as goal

pub returns-then-len-at : goal.returns-then-len-at
returns-then-len-at c =
    let a = c.args in
    sym (lt-leb (a.at + equation_size a.n) a.len (omega arith))

pub returns-then-len-at-lt2 : goal.returns-then-len-at-lt2
returns-then-len-at-lt2 c =
    let a = c.args in
    sym (lt-leb (a.at + equation_size a.n) a.len (omega arith))

pub returns : goal.returns
returns c =
    let a = c.args in
    fits-half a.at a.n a.len (omega arith) (omega arith)
