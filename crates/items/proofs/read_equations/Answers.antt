-- `read_equations` meets its contract: the store is all 0 before the equations are read into it, and again where they are refused.
-- Assumes nothing.
use Prim.Native.Nat.{ℕ}
use mathlib.Core.Path.{◌≡◌, refl, sym, ap, ◌∙◌}
use native.Mathlib.Omega.{arith}
use lib.ListN.{length, drop}
use Rattle.std.proofs.Common.{rules}
use Rattle.std.specs.Prelude.{Err}
use Rattle.limits.proofs.Answered.{accepted-zero, refused-number, refused-some}
use Rattle.expr.specs.Equation.{equations_words}
use Rattle.items.specs.Read.{read_equations}
use Rattle.items.specs.Answers.{equations_got}
use Rattle.items.proofs.Lists.{store-no, store-fits, after-no, after-yes, list-no, list-reads}
use Rattle.items.proofs.read_equations.Goals as goal

pub returns-in_err-ask_store : goal.returns-in_err-ask_store
unfolding equations_got
returns-in_err-ask_store c =
    let a = c.args in
    let r : c.from_residual.result ≡ Err c.in_err-ask_store.field-0.0 = search rules in
    let some = refused-some _ _ c.ask_store.ensures c.in_err-ask_store.was in
    let no = refused-number _ _ c.ask_store.ensures c.in_err-ask_store.was in
    list-no equations_words (equations_got (length a.out.now) a.bytes.now a.c.at) a.c.at a.out.now _ _ _ r
    (after-no _ _ _ (store-no _ (length a.out.now) _ no c.fill.auto.s) (λ z. some (no ∙ z))) c.fill.ensures

pub equations_into-requires : goal.equations_into-requires
equations_into-requires c =
    let a = c.args in
    let l : length c.fill.new.s ≡ length a.out.now = c.fill.auto.s in
    let no = store-no _ (length a.out.now) 0 (accepted-zero _ _ c.ask_store.ensures c.in_ok-ask_store.was) l in
    let z = store-fits (length a.out.now) 0 no refl in
    omega arith

pub returns : goal.returns
unfolding equations_got
returns c =
    let a = c.args in
    let l : length c.fill.new.s ≡ length a.out.now = c.fill.auto.s in
    let no = store-no _ (length a.out.now) 0 (accepted-zero _ _ c.ask_store.ensures c.in_ok-ask_store.was) l in
    let same = after-yes _ (read_equations (length a.out.now) (drop a.c.at a.bytes.now)) 0 no refl ∙ ap (λ (m : ℕ). read_equations m (drop a.c.at a.bytes.now)) (sym l) in
    list-reads equations_words (equations_got (length a.out.now) a.bytes.now a.c.at) a.c.at a.out.now _ same _ _ _ _ _ _ c.fill.ensures (c.equations_into.auto.out ∙ l) c.equations_into.ensures c.kept.ensures.0 c.kept.ensures.1
