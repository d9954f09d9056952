-- 14 and 15 term by term: what is left of the terms, or of the equations, answers the same as all of them.
-- Assumes nothing.
use Prim.Native.Nat.{ℕ, zero, suc, ◌+◌, ◌-◌, ◌≤◌, ◌<◌}
use mathlib.Core.Path.{◌≡◌, refl, sym, ap, ◌∙◌}
use mathlib.Core.Bool.{Bool, true, ◌||◌, or-true, or-false}
use mathlib.Core.List.{List, []}
use native.Mathlib.Omega.{arith}
use borrow.Author.Tests.{lt-ltb, ltb-true, eq-eqb, ne_eqb}
use lib.Dec.{eqb, ltb}
use lib.ListN.{length, drop, get_or, drop_of_length-le}
use lib.Seq.{drop-drop}
use Rattle.std.specs.Prelude.{Ok, Err}
use Rattle.limits.specs.Questions.{ask, first_of_two, ◌▸◌, first_no}
use Rattle.limits.specs.Outcome.{Outcome, asked, outcome_of}
use Rattle.limits.specs.declared.Refused.{Refused}
use Rattle.limits.proofs.Questions.{ask-yes, goes_on, join, first_no-append}
use Rattle.limits.proofs.Answered.{accepted-zero}
use Rattle.expr.specs.Equation.{terms_at, equation_at, equations_at, size_at}
use Rattle.validated.specs.Validated.{gate_terms_asks, termwise_asks}
use Rattle.instance.proofs.Pairs.{at_first, terms-at}
use Rattle.validated.proofs.Asked.{asked-no, asked-yes, asked-true}

module _ (vars : ℕ) (binds : ℕ → Bool) where
  -- ---- terms
  -- what the n terms from place i on answer
  unfoldable pub terms_no : ℕ → ℕ → List ℕ → ℕ
  terms_no n i s = first_no (gate_terms_asks vars binds (terms_at n (drop i s)))

  terms-step : (s : List ℕ) (i n : ℕ) → 0 < n
      → terms_no n i s
      ≡ (ask 14 (ltb (get_or s i 0) vars) ▸ (ask 15 (binds (get_or s i 0) || eqb (get_or s (i + 1) 0) 0) ▸ terms_no (n - 1) (i + 2) s))
  unfolding terms_no
  terms-step s i n h = rw (terms-at s i n h)

  -- terms that are lacking name wire 0 with weight 0
  zeros : (n : ℕ) → 0 < vars → first_no (gate_terms_asks vars binds (terms_at n [])) ≡ 0
  zeros zero h = refl
  zeros (suc n) h =
      join _ _ (ask-yes 14 (ltb 0 vars) (lt-ltb 0 vars h)) (join _ _ (ask-yes 15 (binds 0 || true) (or-true (binds 0))) (zeros n h))

  module _ (s : List ℕ) (i n : ℕ) (whole : ℕ) (e : terms_no n i s ≡ whole) where
    pub terms-done : n ≤ 0 → 0 ≡ whole
    unfolding terms_no
    terms-done h = let z : n ≡ 0 = omega arith in rw z at e

    module _ (h : 0 < n) where
      abbrev rest : ℕ
      rest = ask 15 (binds (get_or s i 0) || eqb (get_or s (i + 1) 0) 0) ▸ terms_no (n - 1) (i + 2) s

      first : ask 14 (ltb (get_or s i 0) vars) ▸ rest ≡ whole
      first = sym (terms-step s i n h) ∙ e

      -- 14 was put
      module _ {r : Outcome} (is : r ≡ asked 14 (ltb (get_or s i 0) vars)) where
        pub terms-beyond : {q : Refused} → r ≡ Err q → r ≡ outcome_of whole
        terms-beyond was = asked-no 13 _ rest whole first is was

        module _ {u : Unit {0}} (was : r ≡ Ok u) where
          below : rest ≡ whole
          below = asked-yes 13 _ rest whole first is was

          pub terms-lacking : length s ≤ i → 0 ≡ whole
          unfolding terms_no
          terms-lacking l =
              let t : ltb (get_or s i 0) vars ≡ true = asked-true 14 _ is was in
              let b : 0 < vars = omega (arith, ltb-true (get_or s i 0) vars t) in
              sym (ap (λ (r : List ℕ). first_no (gate_terms_asks vars binds (terms_at n r))) (drop_of_length-le s l) ∙ zeros n b) ∙ e

          pub terms-zero : get_or s (i + 1) 0 ≡ 0 → terms_no (n - 1) (i + 2) s ≡ whole
          terms-zero w =
              let t : (binds (get_or s i 0) || eqb (get_or s (i + 1) 0) 0) ≡ true = simp (eq-eqb (get_or s (i + 1) 0) 0 w, or-true) in
              sym (goes_on _ _ (ask-yes 15 _ t)) ∙ below

          -- 15 was put, of a weight that is not 0
          module _ (w : get_or s (i + 1) 0 ≡ 0 → ⊥) {t : Outcome} (bound : t ≡ asked 15 (binds (get_or s i 0))) where
            weighed : ask 15 (binds (get_or s i 0)) ▸ terms_no (n - 1) (i + 2) s ≡ whole
            weighed = simp (ne_eqb (get_or s (i + 1) 0) 0 w, or-false) at below

            pub terms-unbound : {q : Refused} → t ≡ Err q → t ≡ outcome_of whole
            terms-unbound g = asked-no 14 _ _ whole weighed bound g

            pub terms-bound : {v : Unit {0}} → t ≡ Ok v → terms_no (n - 1) (i + 2) s ≡ whole
            terms-bound g = asked-yes 14 _ _ whole weighed bound g

  -- ---- equations
  unfoldable pub termwise_no : ℕ → ℕ → List ℕ → ℕ
  termwise_no n at s = first_no (termwise_asks vars binds (equations_at n (drop at s)))

  -- the first equation's terms, and then the others
  equations-step : (s : List ℕ) (at n : ℕ) → 0 < n
      → termwise_no n at s ≡ (terms_no (get_or s at 0) (at + 1) s ▸ termwise_no (n - 1) (at + size_at (drop at s)) s)
  unfolding termwise_no terms_no equation_at
  equations-step s at zero h = absurd (omega arith)
  equations-step s at (suc n) h =
      let z : suc n - 1 ≡ n = omega arith in
      first_no-append (gate_terms_asks vars binds (equation_at (drop at s)).terms) _
      ∙ rw (z, at_first s at, drop-drop 1 at s, drop-drop (size_at (drop at s)) at s)

  -- equations that are lacking have no terms
  nones : (n : ℕ) → first_no (termwise_asks vars binds (equations_at n [])) ≡ 0
  unfolding equation_at size_at
  nones zero = refl
  nones (suc n) = nones n

  module _ (s : List ℕ) (at n : ℕ) (whole : ℕ) (e : termwise_no n at s ≡ whole) where
    pub equations-done : n ≤ 0 → 0 ≡ whole
    unfolding termwise_no
    equations-done h = let z : n ≡ 0 = omega arith in rw z at e

    pub equations-lacking : length s ≤ at → 0 ≡ whole
    unfolding termwise_no
    equations-lacking l =
        sym (ap (λ (r : List ℕ). first_no (termwise_asks vars binds (equations_at n r))) (drop_of_length-le s l) ∙ nones n) ∙ e

    -- the first equation's terms were asked
    module _ (h : 0 < n) {r : Outcome} (is : r ≡ outcome_of (terms_no (get_or s at 0) (at + 1) s)) where
      first-and-rest : (k : ℕ) (rest : ℕ) → k ▸ rest ≡ whole → r ≡ outcome_of k → {q : Refused} → r ≡ Err q → r ≡ outcome_of whole
      unfolding first_of_two
      first-and-rest zero rest w i was = cc
      first-and-rest (suc k) rest w i was = i ∙ ap outcome_of w

      pub equations-no : {q : Refused} → r ≡ Err q → r ≡ outcome_of whole
      equations-no was = first-and-rest (terms_no (get_or s at 0) (at + 1) s) _ (sym (equations-step s at n h) ∙ e) is was

      pub equations-more : {u : Unit {0}} → r ≡ Ok u → termwise_no (n - 1) (at + size_at (drop at s)) s ≡ whole
      equations-more was = sym (equations-step s at n h ∙ goes_on _ _ (accepted-zero _ _ is was)) ∙ e
