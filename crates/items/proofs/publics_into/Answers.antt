-- `publics_into` meets its contract: a count, and as many pairs.
-- Assumes nothing.
use mathlib.Core.Path.{◌≡◌, sym, ◌∙◌}
use native.Mathlib.Omega.{arith}
use Rattle.std.proofs.Common.{rules}
use Rattle.std.specs.Prelude.{Some, None, Err}
use Rattle.limits.specs.Outcome.{refusal}
use Rattle.narg.proofs.At.{read_u32-read}
use Rattle.items.specs.Read.{read_publics}
use Rattle.items.proofs.Lists.{count-short, count-on}
use Rattle.items.proofs.Told.{list_on, list_same}
use Rattle.items.proofs.publics_into.Goals as goal

pub returns-in_err-n : goal.returns-in_err-n
unfolding read_publics
returns-in_err-n c =
    let r : c.from_residual.result ≡ Err (refusal 20) = search rules in
    let e : c.read_u32.result ≡ None = grind arith in
    list_on _ _ _ _ _ _ _ _ r (count-short _ _ _ _ _ (sym c.read_u32.ensures ∙ e))

pub returns : goal.returns
unfolding read_publics
returns c =
    let w : c.read_u32.result ≡ Some (c.in_ok-n.n, c.in_ok-n.next) = grind arith in
    let e = sym c.read_u32.ensures ∙ w in
    list_same _ _ _ _ _ _ _ _ _ (count-on _ _ _ _ _ _ _ e) (read_u32-read _ _ _ _ e).past c.read_pairs.ensures
