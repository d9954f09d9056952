-- `utf8::ascii` meets its contract: the fold says of all bytes of the part what it asks of each. Assumes nothing.
use Prim.Native.Nat.{ℕ, ◌+◌, ◌-◌}
use mathlib.Core.Bool.{true, ◌&&◌}
use mathlib.Core.Path.{sym, ◌∙◌}
use native.Mathlib.Omega.{arith}
use lib.Dec.{ltb}
use Rattle.std.proofs.Common.{rules, tests}
use Rattle.std.specs.List.{between}
use Rattle.std.proofs.lemmas.List.Edits.{get_or-between, length-between}
use Rattle.std.proofs.lemmas.Iterator.{YieldsList-from_slice}
use Rattle.std.proofs.lemmas.Iterator.Consumers.{fold_from_yields_List}
use Rattle.utf8.proofs.Scan.{ascii-folded}
use Rattle.utf8.proofs.ascii.Goals as goal

pub returns : goal.returns
returns c e k p q =
    let a = c.args in
    let s = between a.at (a.at + a.n) a.bytes.now in
    let t = fold_from_yields_List _ (λ all b. all && ltb b 0x80) true _ c.fold.ensures.ran (YieldsList-from_slice s cc) (λ p x b q k. search (rules, tests)) in
    let f = (ascii-folded s true (sym t ∙ e)).1 (k - a.at) (omega arith) in
    grind (arith, get_or-between {X = ℕ}, length-between {X = ℕ}, f)
