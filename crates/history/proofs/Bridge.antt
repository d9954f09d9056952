-- The check's yes is the ledger's yes, on parts whose publics carry the ledger's sets.
--
-- Soundness: what the wires carry at the end is the assignment. Completeness: an assignment that satisfies the
-- ledger is what the wires carry at the end. Assumes nothing.
use Prim.Native.Nat.{ℕ, ◌+◌}
use mathlib.Core.Path.{◌≡◌, refl, sym, ap, ◌∙◌, subst, fun_ext}
use mathlib.Core.Bool.{Bool, true, false, ◌||◌, or_comm}
use mathlib.Core.Logic.{inr, ⊎_elim, ◌↔◌}
use mathlib.Core.List.{List, [], ◌∷◌}
use mathlib.Core.Option.{Option, none, some}
use native.Mathlib.Omega.{arith}
use borrow.Author.Tests.{eqb-true, eq-eqb}
use lib.Dec.{eqb}
use lib.ListN.{length}
use Rattle.limits.specs.Outcome.{outcome_of}
use Rattle.limits.proofs.Questions.{both, join, says-yes, ask-yes}
use Rattle.words.specs.Store.{All}
use Rattle.words.specs.Pieces.{flat}
use Rattle.words.proofs.Lists.{all_map}
use Rattle.allocator.specs.Slots.{Pair}
use Rattle.allocator.specs.Values.{Values, is_some, nothing, put_all, Under, Agree, Units}
use Rattle.expr.specs.Equation.{Term}
use Rattle.instance.specs.Parts.{Parts, pair_vars, has}
use Rattle.validity.specs.Values.{cells}
use Rattle.validity.specs.Check.{equations_no, check_no}
use Rattle.history.specs.Ledger.{Ledger, known}
use Rattle.history.specs.Sat.{Sat}
use Rattle.history.specs.Demand.{Below, At34, Checked}
use Rattle.history.proofs.Outcomes.{accepted-no, refused-no}
use Rattle.history.proofs.Carry.{stays_all, domain, same, units-all}
use Rattle.history.proofs.Walk.{cells-yes, yes-cells, steps-yes, yes-steps, equations-yes, yes-equations}
use Rattle.history.proofs.Shapes.{IsTrace, wires-cells, below-cells, units-cells}
use Rattle.history.proofs.Stops.{Within, among-by, within-then, within-ask, within-zero, widen, outside, either, publics-yes, steps-within, equations-within, equations-34, at_none}

-- the parts of a ledger, with its publics
abbrev pub ledger_parts : Ledger → ℕ → List Pair → Parts
ledger_parts ledger n publics = record { vars = n; publics = publics; queries = ledger.queries; equations = ledger.equations }

-- the publics carry the sets and nothing else, and all is below the count
pub record Carries (w : ℕ) (ledger : Ledger) (n : ℕ) (publics : List Pair) : Type 0 where
  pub agree : Agree (put_all nothing publics) ledger.sets
  pub only : (x : ℕ) → is_some (put_all nothing publics x) ≡ has (pair_vars ledger.sets) x
  pub units : Units (put_all nothing publics)
  pub zeroth : put_all nothing publics 0 ≡ some 0
  pub widths : All (λ q. length q ≡ w + w) ledger.queries
  pub below : Below (ledger_parts ledger n publics)
  pub weights : All (λ e. All (λ t. known ledger t.var ≡ false → t.weight ≡ 0) e.terms) ledger.equations

-- two that agree with the sets agree on the wires of the sets
agree_same : (g f : Values) (ps : List Pair) (x : ℕ) → Agree g ps → Agree f ps → has (pair_vars ps) x ≡ true → g x ≡ f x
agree_same g f [] x a b h = cc
agree_same g f (p ∷ ps) x a b h = go (agree_same g f ps x a.1 b.1) (eqb x p.var) refl h
  where
    go : (has (pair_vars ps) x ≡ true → g x ≡ f x) → (t : Bool) → eqb x p.var ≡ t → t || has (pair_vars ps) x ≡ true → g x ≡ f x
    go r true e k = let z : x ≡ p.var = eqb-true x p.var e in ap g z ∙ a.0 ∙ sym (ap f z ∙ b.0)
    go r false e k = r k

unknown-by : (o : Option ℕ) (t : Bool) → is_some o ≡ t → o ≡ none → t ≡ false
unknown-by o t e z = cc

-- `same-steps`: on this trace the check's test of a step is the evaluation that is meant
module _ (ev : List ℕ → Bool) (w : ℕ) (ledger : Ledger) (n : ℕ) (publics : List Pair) (c : Carries w ledger n publics)
    (trace : List (List ℕ)) (tr : IsTrace w trace)
    (Evaluation : List ℕ → Type 0) (same-steps : All (λ s. ev s ≡ true) trace ↔ All Evaluation trace) where
  abbrev start : Values
  start = put_all nothing publics

  abbrev end : Values
  end = put_all start (cells ledger.queries trace)

  -- exactly the known wires carry something at the end
  end-domain : length trace ≡ length ledger.queries → (x : ℕ) → is_some (end x) ≡ known ledger x
  end-domain l x =
      domain start (cells ledger.queries trace) x
      ∙ ap (λ (ws : List ℕ). has ws x || is_some (start x)) (wires-cells (w + w) ledger.queries trace l c.widths tr.lengths)
      ∙ or_comm (has (flat ledger.queries) x) (is_some (start x))
      ∙ ap (λ (t : Bool). t || has (flat ledger.queries) x) (c.only x)

  pub sound : check_no ev (ledger_parts ledger n publics) trace ≡ 0 → Sat Evaluation ledger trace
  unfolding check_no
  sound e =
      let a0 = both _ _ e in
      let a1 = both _ _ a0.1 in
      let a2 = both _ _ a1.1 in
      let l : length trace ≡ length ledger.queries = eqb-true _ _ (says-yes 30 _ a0.0) in
      let s = steps-yes ev n start ledger.queries trace l a2.0 in
      let r = cells-yes n start (cells ledger.queries trace) s.1 in
      let q = equations-yes end ledger.equations a2.1 in
      record {
        steps = l;
        evaluated = same-steps.0 s.0;
        f = end;
        assignment = record {
          domain = end-domain l;
          units = units-all start (cells ledger.queries trace) c.units (units-cells _ ledger.queries trace tr.units);
        };
        satisfies = record {
          zeroth = r.0 0 0 c.zeroth;
          named = all_map _ _ ledger.equations (λ eq. all_map _ _ eq.terms (λ t h. sym (end-domain l t.var) ∙ h)) q.0;
          sets = all_map _ _ ledger.sets (λ p. r.0 p.var p.value) c.agree;
          traced = r.1;
          holds = q.1;
        };
      }

  -- where there is one, it is what the wires carry at the end
  module _ (s : Sat Evaluation ledger trace) where
    start_under : Under start s.f
    start_under x v e =
        let h : has (pair_vars ledger.sets) x ≡ true = sym (c.only x) ∙ ap is_some e in
        sym (agree_same start s.f ledger.sets x c.agree s.satisfies.sets h) ∙ e

    end_is : end ≡ s.f
    end_is = fun_ext (same end s.f (stays_all start s.f (cells ledger.queries trace) start_under s.satisfies.traced)
        (λ x. end-domain s.steps x ∙ sym (s.assignment.domain x)))

    pub complete : check_no ev (ledger_parts ledger n publics) trace ≡ 0
    unfolding check_no
    complete =
        join _ _ (ask-yes 31 _ (eq-eqb _ _ s.steps))
        (join _ _ (publics-yes n publics c.below.publics)
        (join _ _
        (yes-steps ev n start ledger.queries trace (same-steps.1 s.evaluated)
        (yes-cells n start s.f (cells ledger.queries trace) (below-cells _ ledger.queries trace c.below.queries) start_under s.satisfies.traced))
        (subst (λ (g : Values). equations_no g ledger.equations ≡ 0) (sym end_is)
        (yes-equations s.f ledger.equations
        (all_map _ _ ledger.equations (λ eq. all_map _ _ eq.terms (λ t h. s.assignment.domain t.var ∙ h)) s.satisfies.named)
        s.satisfies.holds))))

  within : Within 31 35 (check_no ev (ledger_parts ledger n publics) trace)
  unfolding check_no
  within =
      within-then 31 35 _ _ (within-ask 31 35 31 _ (omega arith) (omega arith))
      (within-then 31 35 _ _ (within-zero 31 35 _ (publics-yes n publics c.below.publics))
      (within-then 31 35 _ _ (widen 32 33 31 35 _ (omega arith) (omega arith) (steps-within ev n start ledger.queries trace c.below.queries))
      (widen 34 35 31 35 _ (omega arith) (omega arith) (equations-within end ledger.equations))))

  only34 : check_no ev (ledger_parts ledger n publics) trace ≡ 34
      → (t : Term) × At34 end ledger.equations t × (known ledger t.var ≡ false)
  unfolding check_no
  only34 e =
      ⊎_elim (λ z. absurd (outside 31 31 _ 33 (within-ask 31 31 31 _ (omega arith) (omega arith)) z (inr (omega arith))))
      (λ z0. let l : length trace ≡ length ledger.queries = eqb-true _ _ (says-yes 30 _ z0.0) in
      ⊎_elim (λ z. absurd (outside 1 1 _ 33 (within-zero 1 1 _ (publics-yes n publics c.below.publics)) z (inr (omega arith))))
      (λ z1.
      ⊎_elim (λ z. absurd (outside 32 33 _ 33 (steps-within ev n start ledger.queries trace c.below.queries) z (inr (omega arith))))
      (λ z2. let r = equations-34 end ledger.equations z2.1 in
      (r.0, r.1, unknown-by _ _ (end-domain l r.0.var) (at_none r.1)))
      (either _ _ 33 z1.1))
      (either _ _ 33 z0.1))
      (either _ _ 33 e)

  pub checked : Checked Evaluation ledger (ledger_parts ledger n publics) trace (outcome_of (check_no ev (ledger_parts ledger n publics) trace))
  checked = record {
    among = among-by 31 35 _ within;
    below = c.below;
    only34 = λ e. only34 (refused-no _ 34 e);
    weightless = c.weights;
    yes = (λ a. sound (accepted-no _ a), λ s. ap outcome_of (complete s));
  }
