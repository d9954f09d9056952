-- `read_publics` meets its contract: the store is all 0 before the pairs are read into it, and again where they are refused.
-- Assumes nothing.
use Prim.Native.Nat.{ℕ}
use mathlib.Core.Path.{◌≡◌, refl, sym, ap, ◌∙◌}
use native.Mathlib.Omega.{arith}
use lib.ListN.{length, drop}
use Rattle.std.proofs.Common.{rules}
use Rattle.std.specs.Prelude.{Err}
use Rattle.limits.proofs.Answered.{accepted-zero, refused-number, refused-some}
use Rattle.instance.specs.Parts.{pair_words}
use Rattle.items.specs.Read.{read_publics}
use Rattle.items.specs.Answers.{publics_got}
use Rattle.items.proofs.Lists.{store-no, store-fits, after-no, after-yes, list-no, list-reads}
use Rattle.items.proofs.read_publics.Goals as goal

pub returns-in_err-ask_store : goal.returns-in_err-ask_store
unfolding publics_got
returns-in_err-ask_store c =
    let a = c.args in
    let r : c.from_residual.result ≡ Err c.in_err-ask_store.field-0.0 = search rules in
    let some = refused-some _ _ c.ask_store.ensures c.in_err-ask_store.was in
    let no = refused-number _ _ c.ask_store.ensures c.in_err-ask_store.was in
    list-no pair_words (publics_got (length a.out.now) a.bytes.now a.c.at) a.c.at a.out.now _ _ _ r
    (after-no _ _ _ (store-no _ (length a.out.now) _ no c.fill.auto.s) (λ z. some (no ∙ z))) c.fill.ensures

pub publics_into-requires : goal.publics_into-requires
publics_into-requires c =
    let a = c.args in
    let l : length c.fill.new.s ≡ length a.out.now = c.fill.auto.s in
    let no = store-no _ (length a.out.now) 0 (accepted-zero _ _ c.ask_store.ensures c.in_ok-ask_store.was) l in
    let z = store-fits (length a.out.now) 0 no refl in
    omega arith

pub returns : goal.returns
unfolding publics_got
returns c =
    let a = c.args in
    let l : length c.fill.new.s ≡ length a.out.now = c.fill.auto.s in
    let no = store-no _ (length a.out.now) 0 (accepted-zero _ _ c.ask_store.ensures c.in_ok-ask_store.was) l in
    let same = after-yes _ (read_publics (length a.out.now) (drop a.c.at a.bytes.now)) 0 no refl ∙ ap (λ (m : ℕ). read_publics m (drop a.c.at a.bytes.now)) (sym l) in
    list-reads pair_words (publics_got (length a.out.now) a.bytes.now a.c.at) a.c.at a.out.now _ same _ _ _ _ _ _ c.fill.ensures (c.publics_into.auto.out ∙ l) c.publics_into.ensures c.kept.ensures.0 c.kept.ensures.1
