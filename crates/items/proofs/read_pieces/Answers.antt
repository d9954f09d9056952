-- `read_pieces` meets its contract: the store is all 0 before the pieces are read into it, and again where they are refused.
-- Assumes nothing.
use Prim.Native.Nat.{ℕ}
use mathlib.Core.Path.{◌≡◌, refl, sym, ap, ◌∙◌}
use native.Mathlib.Omega.{arith}
use lib.ListN.{length, drop}
use Rattle.std.proofs.Common.{rules}
use Rattle.std.specs.Prelude.{Err}
use Rattle.limits.proofs.Answered.{accepted-zero, refused-number, refused-some}
use Rattle.words.specs.Pieces.{flat}
use Rattle.items.specs.Read.{read_pieces}
use Rattle.items.specs.Answers.{pieces_got}
use Rattle.items.proofs.Lists.{pieces-no, pieces-fit, after-no, after-yes, list-no, list-reads}
use Rattle.items.proofs.read_pieces.Goals as goal

pub returns-in_err-ask_pieces : goal.returns-in_err-ask_pieces
unfolding pieces_got
returns-in_err-ask_pieces c =
    let a = c.args in
    let r : c.from_residual.result ≡ Err c.in_err-ask_pieces.field-0.0 = search rules in
    let some = refused-some _ _ c.ask_pieces.ensures c.in_err-ask_pieces.was in
    let no = refused-number _ _ c.ask_pieces.ensures c.in_err-ask_pieces.was in
    list-no flat (pieces_got a.bound a.k a.width (length a.out.now) a.bytes.now a.c.at) a.c.at a.out.now _ _ _ r
    (after-no _ _ _ (pieces-no _ _ (length a.out.now) _ no c.fill.auto.s) (λ z. some (no ∙ z))) c.fill.ensures

pub pieces_into-requires : goal.pieces_into-requires
pieces_into-requires c =
    let a = c.args in
    let l : length c.fill.new.s ≡ length a.out.now = c.fill.auto.s in
    let no = pieces-no _ _ (length a.out.now) 0 (accepted-zero _ _ c.ask_pieces.ensures c.in_ok-ask_pieces.was) l in
    let z = pieces-fit a.width (length a.out.now) 0 no refl in
    (omega (arith, z.0), z.1)

pub returns : goal.returns
unfolding pieces_got
returns c =
    let a = c.args in
    let l : length c.fill.new.s ≡ length a.out.now = c.fill.auto.s in
    let no = pieces-no _ _ (length a.out.now) 0 (accepted-zero _ _ c.ask_pieces.ensures c.in_ok-ask_pieces.was) l in
    let same = after-yes _ (read_pieces a.bound a.k a.width (length a.out.now) (drop a.c.at a.bytes.now)) 0 no refl ∙ ap (λ (m : ℕ). read_pieces a.bound a.k a.width m (drop a.c.at a.bytes.now)) (sym l) in
    list-reads flat (pieces_got a.bound a.k a.width (length a.out.now) a.bytes.now a.c.at) a.c.at a.out.now _ same _ _ _ _ _ _ c.fill.ensures (c.pieces_into.auto.out ∙ l) c.pieces_into.ensures c.kept.ensures.0 c.kept.ensures.1
