-- What is left of the equations answers the same as all of them. Assumes nothing.
use borrow.Author.Rules.{rules}
use native.Mathlib.Omega.{arith}
use native.Mathlib.Nat.{sub-zero}
use Prim.Native.Nat.{◌+◌, ◌-◌}
use mathlib.Core.Path.{◌≡◌, refl, ap, ◌∙◌}
use Rattle.limits.specs.Outcome.{outcome_of}
use Rattle.held.proofs.Sound.{size_is}
use Rattle.validated.proofs.Terms.{terms_no, termwise_no, equations-done, equations-lacking, equations-no, equations-more}
use Rattle.validated.specs.Validated.{bound_by}
use Rattle.validated.proofs.ask_equations.Goals as goal

pub loop-init : goal.loop-init
loop-init c = rw sub-zero refl

pub returns-then-s-at : goal.returns-then-s-at
unfolding termwise_no
returns-then-s-at c =
    let l = c.loop in
    let a = c.args in
    let f = bound_by a.slots.now a.uses.now in
    ap outcome_of (equations-lacking a.vars f a.s.now l.at _ _ l.invariant c.if-s-at.true)

pub returns-in_err-ask_terms : goal.returns-in_err-ask_terms
unfolding termwise_no terms_no
returns-in_err-ask_terms c =
    let l = c.loop in
    let a = c.args in
    let f = bound_by a.slots.now a.uses.now in
    let same : c.from_residual.result ≡ c.ask_terms.result = search rules in
    same ∙ equations-no a.vars f a.s.now l.at _ _ l.invariant (omega arith) c.ask_terms.ensures c.in_err-ask_terms.was

pub overflow_add-at-in-loop : goal.overflow_add-at-in-loop
overflow_add-at-in-loop c =
    let l = c.loop in
    let s = c.args.s.now in
    omega (arith, size_is s l.at, c.type_inv.s l.at)

pub loop-preserved : goal.loop-preserved
unfolding terms_no
loop-preserved c =
    let l = c.loop in
    let a = c.args in
    let f = bound_by a.slots.now a.uses.now in
    let k : a.n - (l.counter + 1) ≡ a.n - l.counter - 1 = omega arith in
    rw (c.size_at-at.ensures, k)
    (equations-more a.vars f a.s.now l.at _ _ l.invariant (omega arith) c.ask_terms.ensures c.in_ok-ask_terms.was)

pub returns : goal.returns
unfolding termwise_no
returns c =
    let l = c.loop in
    let a = c.args in
    ap outcome_of (equations-done a.vars (bound_by a.slots.now a.uses.now) a.s.now l.at _ _ l.invariant (omega arith))
