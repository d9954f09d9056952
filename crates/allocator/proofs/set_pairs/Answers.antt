-- `allocator::set_pairs` meets its contract: what is left of the pairs, done to the slots as they are and
-- counted from those accepted and the fresh ones, comes to the whole.
-- Assumes nothing.
use Rattle.std.proofs.Common.{◌≡◌, refl, ◌∙◌, ◌+◌, List, ℕ, sym, ap, ap₂, length, arith}
use mathlib.Core.Logic.{inl, inr}
use Rattle.allocator.specs.Slots.{pairs, pair_no, ran, set_run}
use Rattle.allocator.specs.Assign.{set_number, set_fresh}
use Rattle.allocator.proofs.Assign.{set-one, item-number, item-fresh, item-refused}
use Rattle.allocator.proofs.Run.{counted, pairs_end, run-ended, run-refused, run-accepted, item-length, told}
use Rattle.limits.proofs.Answered.{outcome-refused}
use Rattle.allocator.proofs.set_pairs.Goals as goal

pub returns-in-Err : goal.returns-in-Err
returns-in-Err c =
    let l = c.loop-var in
    let split = ap₂ pairs c.in-Some.ensures.steps.0 c.in-Some.ensures.steps.1 in
    let d = c.assign_var.ensures in
    let k = c.in-Err.refused.0 in
    let no = ap set_number (sym c.in-Err.is) ∙ item-number (pair_no c.args.count) (λ p. p) l.slots _ _ _ d in
    let some = item-refused (pair_no c.args.count) (λ p. p) l.slots _ _ _ d c.in-Err.is in
    told (outcome-refused k some)
    (ap (λ (t : List ℕ). ran k l.accepted l.fresh t) d.slots
    ∙ run-refused (pair_no c.args.count) (λ p. p) l.slots l.accepted l.fresh _ _ _ _ split l.invariant.run k no some)

pub loop-var-preserved : goal.loop-var-preserved
loop-var-preserved c =
    let l = c.loop-var in
    let split = ap₂ pairs c.in-Some.ensures.steps.0 c.in-Some.ensures.steps.1 in
    let d = c.assign_var.ensures in
    let g = set_fresh c.assign_var.result in
    let taken = ap set_number c.in-Ok.is in
    let count : c.fresh_of-fresh.result ≡ g = c.fresh_of-fresh.ensures ∙ ap set_fresh (sym c.in-Ok.is) in
    let zero = sym (item-number _ _ _ _ _ _ d) ∙ taken in
    let one = item-fresh _ _ _ _ _ _ d zero in
    let left = pairs c.next.new.self.a.rest.now c.next.new.self.b.rest.now in record {
      can = (tt, tt);
      finite = tt;
      fresh = omega (arith, count, set-one c.assign_var.result);
      accepted = omega (arith, ap length c.in-Some.ensures.steps.0);
      run =
          ap₂ (λ (f : ℕ) (t : List ℕ). counted (l.accepted + 1) f (set_run c.args.count t left)) (ap (λ (n : ℕ). l.fresh + n) count) d.slots
          ∙ run-accepted (pair_no _) (λ p. p) _ l.accepted l.fresh _ _ _ _ split l.invariant.run g one zero;
      slots = ap length d.slots ∙ item-length (pair_no _) (λ p. p) _ _ ∙ l.invariant.slots;
    }

pub returns : goal.returns
returns c =
    let l = c.loop-var in
    let none = pairs_end _ _ 0 (elim c.in-None.ensures.steps [ inl h ↦ inl (omega (arith, h.1.0)) | inr h ↦ inr (omega (arith, h.1.0)) ]) in
    told refl (run-ended (pair_no _) (λ p. p) _ l.accepted l.fresh _ _ none l.invariant.run)
