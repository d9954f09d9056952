-- 12 to 15, and 16, say yes exactly where these facts on lists hold; each test by itself. Assumes nothing.
use Prim.Native.Nat.{ℕ, ◌<◌}
use mathlib.Core.Path.{◌≡◌, refl, sym, ◌∙◌}
use mathlib.Core.Bool.{Bool, true, ◌||◌, or-true}
use mathlib.Core.List.{List, [], ◌∷◌}
use mathlib.Core.Logic.{◌⊎◌, inl, inr}
use borrow.Author.Tests.{lt-ltb, eq-eqb, ltb-true, eqb-true}
use lib.Dec.{eqb}
use Rattle.limits.specs.Questions.{first_no}
use Rattle.limits.proofs.Questions.{ask-yes, says-yes, both, join, first_no-append}
use Rattle.words.specs.Store.{All}
use Rattle.words.specs.Pieces.{flat}
use Rattle.expr.specs.Equation.{Term, Equation}
use Rattle.instance.specs.Parts.{Parts, pair_vars}
use Rattle.held.proofs.Facts.{or-either, Below, all_below-facts, facts-all_below}
use Rattle.validated.specs.Validated.{bound, gate_terms_asks, termwise_asks, validated_no}

-- a term's wire is below the count, and it is bound or its weight is 0
abbrev pub ValidTerm : ℕ → (ℕ → Bool) → Term → Type 0
ValidTerm vars binds t = (t.var < vars) × ((binds t.var ≡ true) ⊎ (t.weight ≡ 0))

abbrev pub ValidEquation : ℕ → (ℕ → Bool) → Equation → Type 0
ValidEquation vars binds e = All (ValidTerm vars binds) e.terms

pub record Valid (parts : Parts) : Type 0 where
  pub publics : Below parts.vars (pair_vars parts.publics)
  pub queries : Below parts.vars (flat parts.queries)
  pub terms : All (ValidEquation parts.vars (bound parts)) parts.equations

module _ (vars : ℕ) (binds : ℕ → Bool) where
  weight-fact : (t : Term) → (binds t.var ≡ true) ⊎ (eqb t.weight 0 ≡ true) → (binds t.var ≡ true) ⊎ (t.weight ≡ 0)
  weight-fact t (inl e) = inl e
  weight-fact t (inr e) = inr (eqb-true t.weight 0 e)

  fact-weight : (t : Term) → (binds t.var ≡ true) ⊎ (t.weight ≡ 0) → (binds t.var || eqb t.weight 0) ≡ true
  fact-weight t (inl e) = simp e
  fact-weight t (inr e) = simp (eq-eqb t.weight 0 e, or-true)

  terms-valid : (ts : List Term) → first_no (gate_terms_asks vars binds ts) ≡ 0 → All (ValidTerm vars binds) ts
  terms-valid [] e = tt
  terms-valid (t ∷ ts) e =
      let a = both _ _ e in
      let b = both _ _ a.1 in (
        (ltb-true t.var vars (says-yes 13 _ a.0), weight-fact t (or-either _ _ (says-yes 14 _ b.0))),
        terms-valid ts b.1,
      )

  valid-terms : (ts : List Term) → All (ValidTerm vars binds) ts → first_no (gate_terms_asks vars binds ts) ≡ 0
  valid-terms [] a = refl
  valid-terms (t ∷ ts) a =
      join _ _ (ask-yes 14 _ (lt-ltb t.var vars a.0.0)) (join _ _ (ask-yes 15 _ (fact-weight t a.0.1)) (valid-terms ts a.1))

  pub equations-valid : (es : List Equation) → first_no (termwise_asks vars binds es) ≡ 0 → All (ValidEquation vars binds) es
  equations-valid [] e = tt
  equations-valid (q ∷ es) e =
      let a = both _ _ (sym (first_no-append (gate_terms_asks vars binds q.terms) (termwise_asks vars binds es)) ∙ e) in
      (terms-valid q.terms a.0, equations-valid es a.1)

  pub valid-equations : (es : List Equation) → All (ValidEquation vars binds) es → first_no (termwise_asks vars binds es) ≡ 0
  valid-equations [] a = refl
  valid-equations (q ∷ es) a =
      first_no-append (gate_terms_asks vars binds q.terms) (termwise_asks vars binds es)
      ∙ join _ _ (valid-terms q.terms a.0) (valid-equations es a.1)

pub validated-facts : (parts : Parts) → validated_no parts ≡ 0 → Valid parts
unfolding validated_no
validated-facts parts e =
    let a = both _ _ e in
    let b = both _ _ a.1 in
    record {
      publics = all_below-facts parts.vars (pair_vars parts.publics) (says-yes 11 _ a.0);
      queries = all_below-facts parts.vars (flat parts.queries) (says-yes 12 _ b.0);
      terms = equations-valid parts.vars (bound parts) parts.equations b.1;
    }

pub facts-validated : (parts : Parts) → Valid parts → validated_no parts ≡ 0
unfolding validated_no
facts-validated parts v =
    join _ _ (ask-yes 12 _ (facts-all_below parts.vars (pair_vars parts.publics) v.publics))
    (join _ _ (ask-yes 13 _ (facts-all_below parts.vars (flat parts.queries) v.queries))
    (valid-equations parts.vars (bound parts) parts.equations v.terms))
