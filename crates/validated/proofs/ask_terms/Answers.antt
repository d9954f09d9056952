-- What is left of the terms answers the same as all of them. Assumes nothing.
use borrow.Author.Rules.{rules}
use native.Mathlib.Omega.{arith}
use native.Mathlib.Nat.{sub-zero}
use Prim.Native.Nat.{ℕ, ◌+◌, ◌-◌}
use mathlib.Core.Path.{◌≡◌, refl, sym, ap, ◌∙◌}
use mathlib.Core.Bool.{Bool}
use lib.Dec.{ltb}
use lib.ListN.{get_or}
use Rattle.limits.specs.Outcome.{asked, outcome_of}
use Rattle.validated.proofs.Terms.{terms_no, terms-done, terms-beyond, terms-lacking, terms-unbound, terms-zero, terms-bound}
use Rattle.validated.specs.Validated.{bound_by}
use Rattle.validated.proofs.ask_terms.Goals as goal
use Rattle.validated.proofs.ask_terms.Goals.{After-ask, then-word_at-ne0+in_ok-ask-2, else-word_at-ne0}

-- 14 is put of the wire at place i
put-14 : (s : After-ask) → s.ask.result ≡ asked 14 (ltb (get_or s.args.s.now s.loop.i 0) s.args.vars)
put-14 s = s.ask.ensures ∙ ap (λ (x : ℕ). asked 14 (ltb x s.args.vars)) s.word_at-x.ensures

pub loop-init : goal.loop-init
loop-init c = rw sub-zero refl

pub returns-in_err-ask : goal.returns-in_err-ask
unfolding terms_no
returns-in_err-ask c =
    let l = c.loop in
    let a = c.args in
    let f = bound_by a.slots.now a.uses.now in
    let same : c.from_residual.result ≡ c.ask.result = search rules in
    same ∙ terms-beyond a.vars f a.s.now l.i _ _ l.invariant (omega arith) (put-14 (goal.at.returns-in_err-ask c).After-ask) c.in_err-ask.was

pub returns-then-s-i : goal.returns-then-s-i
unfolding terms_no
returns-then-s-i c =
    let l = c.loop in
    let a = c.args in
    let f = bound_by a.slots.now a.uses.now in
    ap outcome_of
    (terms-lacking a.vars f a.s.now l.i _ _ l.invariant (omega arith) (put-14 (goal.at.returns-then-s-i c).After-ask) c.in_ok-ask.was c.if-s-i.true)

pub returns-in_err-ask-2 : goal.returns-in_err-ask-2
unfolding terms_no
returns-in_err-ask-2 c =
    let l = c.loop in
    let a = c.args in
    let f = bound_by a.slots.now a.uses.now in
    let r = c.ask-then-word_at-ne0 in
    let same : c.from_residual-in_err-ask-2.result ≡ r.result = search rules in
    same
    ∙ terms-unbound a.vars f a.s.now l.i _ _ l.invariant (omega arith) (put-14 (goal.at.returns-in_err-ask-2 c).After-ask) c.in_ok-ask.was
    (λ z. c.if-word_at-ne0.true (c.word_at.ensures ∙ z))
    (r.ensures ∙ ap (λ (b : Bool). asked 15 b) (c.is_bound.ensures ∙ ap f c.word_at-x.ensures)) c.in_err-ask-2.was

pub loop-preserved : goal.loop-preserved
loop-preserved c =
    let l = c.loop in
    let a = c.args in
    let f = bound_by a.slots.now a.uses.now in
    let put = put-14 (goal.at.loop-preserved c).After-ask in
    let n : c.args.t - (l.counter + 1) ≡ c.args.t - l.counter - 1 = omega arith in
    rw n
    (elim c.if-word_at-ne0.branch [
      | then-word_at-ne0+in_ok-ask-2 w ↦
          terms-bound a.vars f a.s.now l.i _ _ l.invariant (omega arith) put c.in_ok-ask.was
          (λ z. w.if-word_at-ne0.true (c.word_at.ensures ∙ z))
          (w.ask-then-word_at-ne0.ensures ∙ ap (λ (b : Bool). asked 15 b) (w.is_bound.ensures ∙ ap f c.word_at-x.ensures)) w.in_ok-ask-2.was
      | else-word_at-ne0 w ↦
          terms-zero a.vars f a.s.now l.i _ _ l.invariant (omega arith) put c.in_ok-ask.was (sym c.word_at.ensures ∙ w.if-word_at-ne0.false)
    ])

pub returns : goal.returns
unfolding terms_no
returns c =
    let l = c.loop in
    let a = c.args in
    ap outcome_of (terms-done a.vars (bound_by a.slots.now a.uses.now) a.s.now l.i _ _ l.invariant (omega arith))
