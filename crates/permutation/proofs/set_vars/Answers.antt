-- 1 and 2 come first, then what the allocator answers for the pairs, then 9. Assumes nothing.
use mathlib.Core.Path.{refl, sym, ap, ap₂, ◌∙◌}
use native.Mathlib.Omega.{arith}
use Rattle.std.specs.Result.{result_and}
use Rattle.limits.proofs.Answered.{accepted-zero, refused-number, refused-some, and-is, asked-is}
use Rattle.allocator.specs.declared.SetPairs.{SetPairs}
use Rattle.permutation.proofs.Sets.{tallies-fit, list-refused, pairs-told}
use Rattle.permutation.proofs.set_vars.Goals as goal

pub returns-in-Err : goal.returns-in-Err
returns-in-Err c =
    let e = c.ask_set_vars.ensures in
    list-refused _ _ _ _ _ (sym (refused-number _ _ e c.in-Err.is)) (λ z. refused-some _ _ e c.in-Err.is (refused-number _ _ e c.in-Err.is ∙ z))

pub overflow_cast-result : goal.overflow_cast-result
overflow_cast-result c =
    let y = tallies-fit _ _ _ _ 0 (sym (accepted-zero _ _ c.ask_set_vars.ensures c.in-Ok.is)) refl in
    omega (arith, y.0, ap (λ (q : SetPairs). q.accepted) c.set_pairs-run.ensures.answer)

pub overflow_cast-result-in-Ok : goal.overflow_cast-result-in-Ok
overflow_cast-result-in-Ok c =
    let y = tallies-fit _ _ _ _ 0 (sym (accepted-zero _ _ c.ask_set_vars.ensures c.in-Ok.is)) refl in
    omega (arith, y.1, ap (λ (q : SetPairs). q.fresh) c.set_pairs-run.ensures.answer)

pub returns-in-Ok : goal.returns-in-Ok
returns-in-Ok c =
    pairs-told _ _ _ _ 0 (sym (accepted-zero _ _ c.ask_set_vars.ensures c.in-Ok.is)) refl _ _ c.set_pairs-run.ensures _
    (c.and.ensures
    ∙ ap₂ result_and (ap (λ (q : SetPairs). q.outcome) c.set_pairs-run.ensures.answer) (c.ask.ensures ∙ asked-is 8 _)
    ∙ and-is _ _)
