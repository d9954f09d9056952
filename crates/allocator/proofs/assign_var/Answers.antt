-- Each return is a case of the definition. Assumes nothing.
use mathlib.Core.Path.{◌≡◌, refl, sym, ◌∙◌}
use Rattle.limits.specs.Numbers.{unassigned}
use Rattle.limits.specs.Questions.{first_no}
use Rattle.limits.proofs.Answered.{accepted-zero}
use Rattle.words.proofs.Lists.{get_d_any}
use Rattle.allocator.proofs.Assign.{assign-fresh, assign-out, assign-repeated, assign-conflict}
use Rattle.allocator.proofs.assign_var.Goals as goal

pub returns-then-slots-at : goal.returns-then-slots-at
returns-then-slots-at c = assign-out _ _ _ 0 (sym (accepted-zero _ _ c.ask_wire.ensures c.in_ok-ask_wire.was)) refl c.if-slots-at.true

pub returns-then-held : goal.returns-then-held
returns-then-held c =
    assign-fresh _ _ _ 0 (sym (accepted-zero _ _ c.ask_wire.ensures c.in_ok-ask_wire.was)) refl
    (get_d_any c.args.slots.now c.args.var.0 unassigned 0 c.if-slots-at.false ∙ c.if-held.true)

pub returns-then-held-value : goal.returns-then-held-value
returns-then-held-value c =
    let same = get_d_any c.args.slots.now c.args.var.0 unassigned 0 c.if-slots-at.false in
    assign-repeated _ _ _ 0 (sym (accepted-zero _ _ c.ask_wire.ensures c.in_ok-ask_wire.was)) refl
    (λ u. c.if-held.false (sym same ∙ u)) (same ∙ c.if-held-value.true)

pub returns : goal.returns
returns c =
    let same = get_d_any c.args.slots.now c.args.var.0 unassigned 0 c.if-slots-at.false in
    assign-conflict _ _ _ 0 (sym (accepted-zero _ _ c.ask_wire.ensures c.in_ok-ask_wire.was)) refl
    (λ u. c.if-held.false (sym same ∙ u)) (λ v. c.if-held-value.false (sym same ∙ v))
