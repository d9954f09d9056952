-- `inverse::permute_inverse` meets its contract: a question before 44 says no, there are no rounds, the matrix has no
-- inverse, or the rounds are undone. Assumes nothing.
use Prim.Native.Nat.{ℕ}
use mathlib.Core.Path.{◌≡◌, refl, sym, ◌∙◌}
use native.Mathlib.Omega.{arith}
use lib.ListN.{length-replicate, replicate}
use Rattle.std.proofs.Common.{rules}
use Rattle.limits.proofs.Answered.{accepted-zero, refused-some, asked-is}
use Rattle.limits.proofs.Questions.{says-yes}
use Rattle.inverse.proofs.Call.{sound, answered-front, answered-none, answered-singular, undo-may, answered-undone}
use Rattle.inverse.proofs.permute_inverse.Goals as goal

pub returns-in_err-ask_permute_inverse : goal.returns-in_err-ask_permute_inverse
returns-in_err-ask_permute_inverse c =
    let e = c.ask_permute_inverse.ensures in
    let same : c.from_residual.result ≡ c.ask_permute_inverse.result = search rules in
    answered-front _ _ _ _ _ _ (same ∙ e) (refused-some _ _ e c.in_err-ask_permute_inverse.was)

pub returns-then-rounds-eq0 : goal.returns-then-rounds-eq0
returns-then-rounds-eq0 c =
    let z = accepted-zero _ _ c.ask_permute_inverse.ensures c.in_ok-ask_permute_inverse.was in
    answered-none _ _ _ _ _ 0 (sym z) refl c.if-rounds-eq0.true _ c.put.ensures

pub slice_bounds-put-count : goal.slice_bounds-put-count
slice_bounds-put-count c =
    let z = accepted-zero _ _ c.ask_permute_inverse.ensures c.in_ok-ask_permute_inverse.was in
    omega (arith, (sound _ _ _ _ _ 0 (sym z) refl).size)

pub slice_bounds-put-start : goal.slice_bounds-put-start
slice_bounds-put-start c =
    let z = accepted-zero _ _ c.ask_permute_inverse.ensures c.in_ok-ask_permute_inverse.was in
    omega (arith, (sound _ _ _ _ _ 0 (sym z) refl).size)

pub returns-in_err-ask : goal.returns-in_err-ask
returns-in_err-ask c =
    let z = accepted-zero _ _ c.ask_permute_inverse.ensures c.in_ok-ask_permute_inverse.was in
    let e = c.ask.ensures ∙ asked-is 43 _ in
    let same : c.from_residual-in_err-ask.result ≡ c.ask.result = search rules in
    answered-singular _ _ _ _ _ 0 (sym z) refl c.if-rounds-eq0.false (replicate 576 0) _ (length-replicate {A = ℕ} 576 0)
    c.put-2.ensures _ c.invert_matrix.ensures.0 _ (same ∙ e) (refused-some _ _ e c.in_err-ask.was)

pub undo_rounds-requires : goal.undo_rounds-requires
undo_rounds-requires c =
    let z = accepted-zero _ _ c.ask_permute_inverse.ensures c.in_ok-ask_permute_inverse.was in
    let e = c.ask.ensures ∙ asked-is 43 _ in
    undo-may _ _ _ _ _ 0 (sym z) refl c.if-rounds-eq0.false (replicate 576 0) _ (length-replicate {A = ℕ} 576 0)
    c.put-2.ensures _ c.invert_matrix.ensures.0 (says-yes 43 _ (accepted-zero _ _ e c.in_ok-ask.was)) _ c.invert_matrix.ensures.1 _ c.put-3.ensures

pub returns : goal.returns
returns c =
    let z = accepted-zero _ _ c.ask_permute_inverse.ensures c.in_ok-ask_permute_inverse.was in
    let e = c.ask.ensures ∙ asked-is 43 _ in
    answered-undone _ _ _ _ _ 0 (sym z) refl c.if-rounds-eq0.false (replicate 576 0) _ (length-replicate {A = ℕ} 576 0)
    c.put-2.ensures _ c.invert_matrix.ensures.0 (says-yes 43 _ (accepted-zero _ _ e c.in_ok-ask.was)) _ c.invert_matrix.ensures.1 _ c.put-3.ensures _ c.undo_rounds.ensures
