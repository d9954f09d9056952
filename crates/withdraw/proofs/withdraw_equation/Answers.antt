-- `withdraw_equation` meets its contract: the walk in two parts answers 11 and the place, and the words are struck there.
-- Assumes nothing.
use native.Mathlib.Omega.{arith}
use Rattle.std.proofs.Common.{rules}
use Rattle.limits.proofs.Answered.{accepted-zero, refused-number, refused-own}
use Rattle.withdraw.proofs.Tallied.{equation-early, equation-some, equation-refused, walked-refused, size_used, equation-withdrawn}
use Rattle.withdraw.proofs.withdraw_equation.Goals as goal

pub returns-in_err-ask_withdraw_equation : goal.returns-in_err-ask_withdraw_equation
returns-in_err-ask_withdraw_equation c =
    let e = c.ask_withdraw_equation.ensures in
    let was = c.in_err-ask_withdraw_equation.was in
    let h = refused-own _ _ e was in
    equation-refused _ _ _ (search rules) (equation-early _ _ _ (refused-number _ _ e was) h) h

pub ask_place-requires : goal.ask_place-requires
ask_place-requires c =
    let g = c.args in
    equation-some g.rel.now g.equations.now g.i (accepted-zero _ _ c.ask_withdraw_equation.ensures c.in_ok-ask_withdraw_equation.was)

pub returns-in_err-at : goal.returns-in_err-at
returns-in_err-at c =
    let z = accepted-zero _ _ c.ask_withdraw_equation.ensures c.in_ok-ask_withdraw_equation.was in
    walked-refused _ _ _ z _ c.held_words-held.ensures _ c.ask_place.ensures (search rules) c.in_err-at.was

pub overflow_cast-rel : goal.overflow_cast-rel
overflow_cast-rel c =
    let z = accepted-zero _ _ c.ask_withdraw_equation.ensures c.in_ok-ask_withdraw_equation.was in
    let f = size_used c.args.rel.now _ _ z _ c.held_words-held.ensures _ c.ask_place.ensures _ c.in_ok-at.was _ c.size_at-size.ensures in
    record { fits = omega (arith, f) }

pub overflow_sub-rel-2 : goal.overflow_sub-rel-2
overflow_sub-rel-2 c =
    let z = accepted-zero _ _ c.ask_withdraw_equation.ensures c.in_ok-ask_withdraw_equation.was in
    size_used c.args.rel.now _ _ z _ c.held_words-held.ensures _ c.ask_place.ensures _ c.in_ok-at.was _ c.size_at-size.ensures

pub returns : goal.returns
returns c =
    let z = accepted-zero _ _ c.ask_withdraw_equation.ensures c.in_ok-ask_withdraw_equation.was in
    equation-withdrawn c.args.rel.now _ _ z _ c.held_words-held.ensures _ c.ask_place.ensures _ c.in_ok-at.was _ c.size_at-size.ensures _ c.strike_words.ensures
