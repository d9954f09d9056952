-- `count_cells` meets its contract: its answers are the cases of Asked.
-- Assumes nothing.
use native.Mathlib.Omega.{arith}
use Prim.Native.Nat.{◌+◌}
use mathlib.Core.Bool.{◌&&◌}
use mathlib.Core.Path.{◌≡◌, sym, ap, ap₂, ◌∙◌}
use mathlib.Core.List.{◌++◌}
use lib.Dec.{eqb}
use lib.ListN.{length}
use Rattle.std.specs.Result.{result_and}
use Rattle.limits.specs.Outcome.{Outcome, asked}
use Rattle.uses.proofs.Asked.{Cases, asked-stray, counts-first, counts-second, counts-cases}
use Rattle.uses.proofs.count_cells.Goals as goal
use Rattle.uses.proofs.count_cells.Goals.{After-and-asked}

-- what is said, in order
said : (p : After-and-asked)
    → p.and-asked.result ≡ result_and (result_and (asked 11 (p.stray_fits.result && p.both_at_most.result)) (asked 10 (eqb (length p.move_cells-second.new.uses) p.args.len))) p.args.rest
said p = p.and-asked.ensures ∙ ap (λ (o : Outcome). result_and o p.args.rest) (p.and.ensures ∙ ap₂ result_and p.ask.ensures p.ask-2.ensures)

-- all of both are moved, and then 11, 10 and the rest are asked
cases : (p : After-and-asked) → let o = p.args in
    Cases o.strike o.len o.uses.now o.stray (o.a.now ++ o.b.now) o.rest p.min-end.result p.move_cells-second.new.uses
    (p.move_cells-first.result.strays + p.move_cells-second.result.strays) p.and-asked.result
cases p =
    let o = p.args in
    counts-cases o.strike o.len o.uses.now o.stray o.a.now o.b.now o.rest p.min-end.result (λ x h. omega (arith, p.slice_known-1.given x)) p.min-end.ensures
    p.move_cells-first.result.n _ p.if-n-a.false p.move_cells-first.ensures.0 p.move_cells-second.result.n _
    p.if-m-b.false p.move_cells-second.ensures.0 p.move_cells-first.result.strays p.move_cells-second.result.strays p.move_cells-first.ensures.1
    p.move_cells-second.ensures.1 p.stray_fits.result p.both_at_most.result p.stray_fits.ensures
    p.both_at_most.ensures p.and-asked.result (said p)

pub returns-then-n-a : goal.returns-then-n-a
returns-then-n-a c =
    let o = c.args in
    counts-first o.strike o.len o.uses.now o.stray o.a.now o.b.now o.rest c.min-end.result (λ x h. omega (arith, c.slice_known-1.given x)) c.min-end.ensures
    c.move_cells-first.result.n _ _ c.if-n-a.true c.move_cells-first.ensures.0 c.take_back.ensures

pub returns-then-m-b : goal.returns-then-m-b
returns-then-m-b c =
    let o = c.args in
    counts-second o.strike o.len o.uses.now o.stray o.a.now o.b.now o.rest c.min-end.result (λ x h. omega (arith, c.slice_known-1.given x)) c.min-end.ensures
    c.move_cells-first.result.n _ c.if-n-a.false c.move_cells-first.ensures.0 c.move_cells-second.result.n _ _ _
    c.if-m-b.true c.move_cells-second.ensures.0 c.take_back-then-m-b.ensures
    c.take_back-then-m-b-2.ensures

pub returns-in-Err : goal.returns-in-Err
returns-in-Err c = (cases (goal.at.returns-in-Err c).After-and-asked).refuses _ c.in-Err.is c.take_both_back.ensures

pub returns : goal.returns
returns c = (cases (goal.at.returns c).After-and-asked).accepts c.stray_after.result c.in_default.is c.stray_after.ensures

pub stray_after-requires : goal.stray_after-requires
stray_after-requires c =
    sym c.stray_fits.ensures ∙ asked-stray _ c.both_at_most.result _ _ (sym (said (goal.at.stray_after-requires c).After-and-asked) ∙ c.in_default.is)
