-- 16 and 12 to 15, by their cases; and marks, which bind what is bound. Assumes nothing.
use Prim.Native.Nat.{ℕ, ◌≤◌}
use mathlib.Core.Path.{◌≡◌, refl, ap, ◌∙◌, fun_ext}
use mathlib.Core.Bool.{Bool, true, ◌||◌, or-false, or_comm}
use mathlib.Core.List.{List, []}
use borrow.Author.Tests.{leb-true}
use lib.Dec.{leb}
use lib.ListN.{length, replicate, length-replicate}
use Rattle.std.specs.Prelude.{Ok, Err}
use Rattle.limits.specs.Questions.{ask, ◌▸◌, first_no}
use Rattle.limits.specs.Outcome.{Outcome, asked, outcome_of}
use Rattle.limits.specs.declared.Refused.{Refused}
use Rattle.words.specs.Store.{all_below}
use Rattle.words.specs.Pieces.{flat}
use Rattle.instance.specs.Parts.{Parts, pair_vars, has}
use Rattle.validated.specs.Marks.{marked, Marking}
use Rattle.validated.specs.Validated.{bound, bound_by, termwise_asks, validated_asks, gate_no}
use Rattle.validated.proofs.Asked.{asked-no, asked-yes, asked-true}
use Rattle.validated.proofs.Marks.{marked-has, marked-length, unmarked}

-- after publics xs and queries ys, marks bind a wire exactly where it is bound
marks-bind : (vars n : ℕ) (xs ys : List ℕ) → vars ≤ n → all_below vars xs ≡ true → all_below vars ys ≡ true
    → (x : ℕ) → bound_by [] (marked vars ys (marked vars xs (replicate n 0))) x ≡ (has xs x || has ys x)
marks-bind vars n xs ys h p q x =
    let zeros : List ℕ = replicate n 0 in
    let l : vars ≤ length zeros = rw (length-replicate {A = ℕ} n 0) h in
    let k : vars ≤ length (marked vars xs zeros) = rw (marked-length vars xs zeros) l in
    marked-has vars ys (marked vars xs zeros) q k x
    ∙ ap (λ (b : Bool). has ys x || b) (marked-has vars xs zeros p l x ∙ ap (λ (b : Bool). has xs x || b) (unmarked n x) ∙ or-false (has xs x))
    ∙ or_comm (has ys x) (has xs x)

module _ (parts : Parts) (len : ℕ) {r : Outcome} (is : r ≡ asked 16 (leb parts.vars len)) where
  pub gate-16 : {q : Refused} → r ≡ Err q → r ≡ outcome_of (gate_no parts len)
  unfolding gate_no
  gate-16 was = asked-no 15 _ _ _ refl is was

  -- publics marked on zeros, then queries on these
  module _ {u : Unit {0}} (was : r ≡ Ok u) (zeros : List ℕ) (z : zeros ≡ replicate len 0) {first : Bool} {marks : List ℕ}
      (p : Marking parts.vars (pair_vars parts.publics) zeros first marks) {s : Outcome} (puts : s ≡ asked 12 first) where
    put-12 : s ≡ asked 12 (all_below parts.vars (pair_vars parts.publics))
    put-12 = puts ∙ ap (λ (b : Bool). asked 12 b) p.below

    unfoldable from-12 : ℕ
    from-12 = first_no (validated_asks parts)

    after-16 : from-12 ≡ gate_no parts len
    unfolding gate_no from-12
    after-16 = asked-yes 15 _ _ _ refl is was

    pub gate-12 : {q : Refused} → s ≡ Err q → s ≡ outcome_of (gate_no parts len)
    unfolding from-12
    gate-12 g = asked-no 11 _ _ _ after-16 put-12 g

    module _ {v : Unit {0}} (said : s ≡ Ok v) {second : Bool} {after : List ℕ} (q : Marking parts.vars (flat parts.queries) marks second after)
        {t : Outcome} (puts-13 : t ≡ asked 13 second) where
      put-13 : t ≡ asked 13 (all_below parts.vars (flat parts.queries))
      put-13 = puts-13 ∙ ap (λ (b : Bool). asked 13 b) q.below

      after-12 : ask 13 (all_below parts.vars (flat parts.queries)) ▸ first_no (termwise_asks parts.vars (bound parts) parts.equations) ≡ gate_no parts len
      unfolding from-12
      after-12 = asked-yes 11 _ _ _ after-16 put-12 said

      pub gate-13 : {q : Refused} → t ≡ Err q → t ≡ outcome_of (gate_no parts len)
      gate-13 g = asked-no 12 _ _ _ after-12 put-13 g

      -- marks bind what `bound` says
      pub gate-terms : {w : Unit {0}} → t ≡ Ok w → first_no (termwise_asks parts.vars (bound_by [] after) parts.equations) ≡ gate_no parts len
      gate-terms g =
          let xs = pair_vars parts.publics in
          let ys = flat parts.queries in
          let marked-both : after ≡ marked parts.vars ys (marked parts.vars xs (replicate len 0)) =
          q.after ∙ ap (marked parts.vars ys) (p.after ∙ ap (marked parts.vars xs) z) in
          let binds : (x : ℕ) → bound_by [] after x ≡ bound parts x = λ x.
          ap (λ (m : List ℕ). bound_by [] m x) marked-both
          ∙ marks-bind parts.vars len xs ys (leb-true parts.vars len (asked-true 16 _ is was)) (asked-true 12 _ put-12 said) (asked-true 13 _ put-13 g) x in
          ap (λ (b : ℕ → Bool). first_no (termwise_asks parts.vars b parts.equations)) (fun_ext binds)
          ∙ asked-yes 12 _ _ _ after-12 put-13 g
