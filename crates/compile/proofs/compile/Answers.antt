-- What is asked first, then the publics, then 10, 16 and 13 to 15 of record, slots, counts and equations. A refusal fills
-- the publics with 0 again, and scratch is cleared at the start. Assumes nothing.
use borrow.Author.Rules.{rules}
use Prim.Native.Nat.{ℕ}
use mathlib.Core.Path.{◌≡◌, ap, ap₂, ◌∙◌}
use lib.ListN.{length, take, replicate}
use Rattle.std.specs.Prelude.{Err, Ok}
use Rattle.limits.specs.Outcome.{outcome_of}
use Rattle.instance.specs.declared.PermutationInstance.{PermutationInstance}
use Rattle.compile.specs.Records.{gated}
use Rattle.compile.specs.Gate.{gate_lent, PutsPublics, prepared_no, asked_made}
use Rattle.compile.proofs.Gate.{code_no, refuses-first, refuses-made, accepts}
use Rattle.compile.proofs.compile.Goals as goal
use Rattle.compile.proofs.compile.Goals.{After-ask_prepared, After-put_publics-count, After-ask_made}

-- 1, 2 and 11, with publics and scratch cleared
first-asked : (s : After-ask_prepared) → let a = s.args in
    s.ask_prepared.result
    ≡ outcome_of (prepared_no (gate_lent a.rel.now a.label.now a.slots.now a.queries.now a.equations.now a.uses.now (length a.publics.now) (length a.scratch.now)))
first-asked s =
    let a = s.args in
    s.ask_prepared.ensures
    ∙ ap₂ (λ (n m : ℕ). outcome_of (prepared_no (gate_lent a.rel.now a.label.now a.slots.now a.queries.now a.equations.now a.uses.now n m))) s.fill.auto.s s.fill-2.auto.s

-- the publics, made of the slots of allocated wires
publics-made : (p : After-put_publics-count) →
    PutsPublics (take p.args.rel.now.vars p.args.slots.now) p.fill.new.s p.put_publics-count.result p.put_publics-count.new.out
publics-made p = rw p.held_words.ensures at p.put_publics-count.ensures

-- 10, 16 and 13 to 15
made-asked : (v : After-ask_made) → let a = v.args in
    v.ask_made.result
    ≡ outcome_of (code_no (gate_lent a.rel.now a.label.now a.slots.now a.queries.now a.equations.now a.uses.now (length a.publics.now) (length a.scratch.now)) v.put_publics-count.result)
made-asked v =
    let a = v.args in
    v.ask_made.ensures
    ∙ ap₂ (λ (n m : ℕ). outcome_of (asked_made a.rel.now a.slots.now a.equations.now a.uses.now v.put_publics-count.result n m)) v.fill.auto.s v.fill-2.auto.s

pub returns-in_err-ask_prepared : goal.returns-in_err-ask_prepared
returns-in_err-ask_prepared c =
    let r = refuses-first _ (first-asked (goal.at.returns-in_err-ask_prepared c).After-ask_prepared) c.in_err-ask_prepared.was in
    let same : c.from_residual.result ≡ Err c.in_err-ask_prepared.field-0.0 = search rules in
    record {
      answer = ap gated same ∙ r.answer;
      publics = c.fill.ensures ∙ r.publics;
      scratch = c.fill-2.ensures;
    }

pub returns-in-Err : goal.returns-in-Err
returns-in-Err c =
    let at = goal.at.returns-in-Err c in
    let r = refuses-made _ (first-asked at.After-ask_prepared) c.in_ok-ask_prepared.was _ c.fill.ensures _ _ (publics-made at.After-put_publics-count)
    (made-asked at.After-ask_made) c.in-Err.is in
    record {
      answer = r.answer;
      publics = c.fill-in-Err.ensures ∙ ap (λ (k : ℕ). replicate {A = ℕ} k 0) (c.put_publics-count.auto.out ∙ c.fill.auto.s) ∙ r.publics;
      scratch = c.fill-2.ensures;
    }

pub returns : goal.returns
returns c =
    let at = goal.at.returns c in
    let r = accepts _ (first-asked at.After-ask_prepared) c.in_ok-ask_prepared.was _ c.fill.ensures _ _ (publics-made at.After-put_publics-count)
    (made-asked at.After-ask_made) c.in_default.is in
    record {
      answer = ap (λ (i : PermutationInstance). gated (Ok i)) c.instance_of.ensures ∙ r.answer;
      publics = r.publics;
      scratch = c.fill-2.ensures;
    }
