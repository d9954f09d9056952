-- `withdraw::ask_place` meets its contract: the walk to the place and the walk from there are one. Assumes nothing.
use native.Mathlib.Omega.{arith}
use mathlib.Core.Path.{◌≡◌, refl, ◌∙◌}
use Rattle.std.proofs.Common.{rules}
use Rattle.std.specs.Prelude.{Err}
use Rattle.withdraw.proofs.Walked.{place-refused, place-found, right-refused, right-accepted}
use Rattle.withdraw.proofs.ask_place.Goals as goal

pub returns-in_err-at : goal.returns-in_err-at
returns-in_err-at c =
    let same : c.from_residual.result ≡ Err c.in_err-at.field-0.0 = search rules in
    same ∙ place-refused _ _ _ c.requires _ c.end_within.ensures _ c.ok_or.ensures.value c.in_err-at.was

pub offset_bounds-held-at : goal.offset_bounds-held-at
offset_bounds-held-at c =
    let p = place-found _ _ _ c.requires _ c.end_within.ensures _ c.ok_or.ensures.value _ c.in_ok-at.was in
    record { fits = omega (arith, p.0, p.1) }

pub slice_bounds-rest-count : goal.slice_bounds-rest-count
slice_bounds-rest-count c =
    let p = place-found _ _ _ c.requires _ c.end_within.ensures _ c.ok_or.ensures.value _ c.in_ok-at.was in
    omega (arith, p.0, p.1)

pub slice_bounds-rest-start : goal.slice_bounds-rest-start
slice_bounds-rest-start c =
    let p = place-found _ _ _ c.requires _ c.end_within.ensures _ c.ok_or.ensures.value _ c.in_ok-at.was in
    omega (arith, p.0, p.1)

pub returns-in_err-ask : goal.returns-in_err-ask
returns-in_err-ask c =
    let same : c.from_residual-in_err-ask.result ≡ Err c.in_err-ask.field-0.0 = search rules in
    same
    ∙ right-refused _ _ _ c.requires _ c.end_within.ensures _ c.ok_or.ensures.value _ c.in_ok-at.was _ refl _ c.end_within-2.ensures _ c.eq.ensures
    c.ask.ensures c.in_err-ask.was

pub returns : goal.returns
returns c =
    right-accepted _ _ _ c.requires _ c.end_within.ensures _ c.ok_or.ensures.value _ c.in_ok-at.was _ refl _ c.end_within-2.ensures _ c.eq.ensures
    c.ask.ensures c.in_ok-ask.was
