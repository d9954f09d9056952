-- `permute::permute` meets its contract: a refusal leaves the state, and an accepted one runs the rounds.
-- Assumes nothing.
use mathlib.Core.Path.{sym, ◌∙◌}
use native.Mathlib.Omega.{arith}
use Rattle.std.proofs.Common.{rules}
use Rattle.limits.proofs.Answered.{accepted-zero, refused-some}
use Rattle.permute.proofs.Laws.{accepted-is, permuted-yes, permuted-no}
use Rattle.permute.proofs.permute.Goals as goal

pub returns-in_err-ask_permute : goal.returns-in_err-ask_permute
returns-in_err-ask_permute c =
    (search rules, sym (permuted-no _ _ _ _ (refused-some _ _ c.ask_permute.ensures c.in_err-ask_permute.was)))

pub run_rounds-requires : goal.run_rounds-requires
run_rounds-requires c =
    let g = c.args in
    let a = accepted-is g.width g.rounds g.params.now g.state.now (accepted-zero _ _ c.ask_permute.ensures c.in_ok-ask_permute.was) in
    (record { sound = rw a.size a.sound; some = omega (arith, a); most = omega (arith, a) }, a.units)

pub returns : goal.returns
returns c =
    let g = c.args in
    let z = accepted-zero _ _ c.ask_permute.ensures c.in_ok-ask_permute.was in
    let a = accepted-is g.width g.rounds g.params.now g.state.now z in
    (rw z, c.run_rounds.ensures ∙ rw a.size (sym (permuted-yes _ _ _ _ z)))
