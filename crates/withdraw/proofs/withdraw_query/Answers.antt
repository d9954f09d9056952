-- `withdraw_query` meets its contract: the counts answer what is asked last, and the query's words are struck.
-- Assumes nothing.
use mathlib.Core.Path.{refl}
use native.Mathlib.Omega.{arith}
use Rattle.std.proofs.Common.{rules}
use Rattle.limits.proofs.Answered.{accepted-zero, refused-number, refused-own}
use Rattle.withdraw.proofs.Tallied.{query-in, query-early, query-refused, counted-refused, query-withdrawn}
use Rattle.withdraw.proofs.withdraw_query.Goals as goal

pub returns-in_err-ask_withdraw_query : goal.returns-in_err-ask_withdraw_query
returns-in_err-ask_withdraw_query c =
    let e = c.ask_withdraw_query.ensures in
    let was = c.in_err-ask_withdraw_query.was in
    let h = refused-own _ _ e was in
    query-refused _ _ _ _ _ (search rules) (query-early _ _ _ _ _ (refused-number _ _ e was) h) h

pub slice_bounds-cells-end : goal.slice_bounds-cells-end
slice_bounds-cells-end c =
    let g = c.args in
    let z = accepted-zero _ _ c.ask_withdraw_query.ensures c.in_ok-ask_withdraw_query.was in
    omega (arith, query-in g.rel.now g.slots.now g.queries.now g.uses.now g.i z)

pub returns-in_err-stray : goal.returns-in_err-stray
returns-in_err-stray c =
    let z = accepted-zero _ _ c.ask_withdraw_query.ensures c.in_ok-ask_withdraw_query.was in
    counted-refused _ _ _ _ _ z _ refl _ _ c.count_cells.ensures (search rules) c.in_err-stray.was

pub returns : goal.returns
returns c =
    let z = accepted-zero _ _ c.ask_withdraw_query.ensures c.in_ok-ask_withdraw_query.was in
    query-withdrawn _ _ _ _ _ z _ refl _ _ c.count_cells.ensures _ c.in_ok-stray.was _ c.strike_words.ensures
