-- The looks at an instance: the last pair that lists a wire, looked for from the back; and what is told of the heading.
-- Assumes nothing.
use Prim.Native.Nat.{ℕ, zero, suc, ◌+◌, ◌*◌, ◌-◌, ◌≤◌, ◌<◌}
use mathlib.Core.Path.{◌≡◌, refl, sym, ap, ◌∙◌}
use mathlib.Core.Bool.{Bool, true, false}
use mathlib.Core.List.{List, [], ◌∷◌, ◌++◌}
use native.Mathlib.Omega.{arith}
use borrow.Author.Tests.{eq-eqb, ne_eqb}
use lib.Dec.{eqb}
use lib.ListN.{drop, get_or}
use lib.Seq.{get_or-drop}
use Rattle.std.specs.Prelude.{Option, Some, None}
use Rattle.limits.specs.Questions.{pick}
use Rattle.allocator.specs.Slots.{Pair, pair}
use Rattle.instance.specs.Parts.{pairs_at}
use Rattle.instance.specs.Looks.{last_value, heading}

-- one more pair at the end
pairs_at-snoc : (n : ℕ) (s : List ℕ) → pairs_at (suc n) s ≡ pairs_at n s ++ (pair (get_or s (2 * n) 0) (get_or s (2 * n + 1) 0) ∷ [])
pairs_at-snoc zero s = refl
pairs_at-snoc (suc n) s =
    let a : 2 + 2 * n ≡ 2 * suc n = omega arith in
    let b : 2 + (2 * n + 1) ≡ 2 * suc n + 1 = omega arith in
    ap (λ (l : List Pair). pair (get_or s 0 0) (get_or s 1 0) ∷ l)
    (pairs_at-snoc n (drop 2 s) ∙ rw (get_or-drop 2 s (2 * n) 0, get_or-drop 2 s (2 * n + 1) 0, a, b))

last_value-snoc : (ps : List Pair) (p : Pair) (x : ℕ) (found : Option ℕ)
    → last_value (ps ++ (p ∷ [])) x found ≡ pick (eqb p.var x) (Some p.value) (last_value ps x found)
last_value-snoc [] p x found = refl
last_value-snoc (q ∷ ps) p x found = last_value-snoc ps p x (pick (eqb q.var x) (Some q.value) found)

-- of the first n pairs
unfoldable pub value_of : ℕ → List ℕ → ℕ → Option ℕ
value_of n s x = last_value (pairs_at n s) x None

value-at : (n : ℕ) (s : List ℕ) (x : ℕ)
    → value_of (suc n) s x ≡ pick (eqb (get_or s (2 * n) 0) x) (Some (get_or s (2 * n + 1) 0)) (value_of n s x)
unfolding value_of
value-at n s x =
    ap (λ (ps : List Pair). last_value ps x None) (pairs_at-snoc n s) ∙ last_value-snoc (pairs_at n s) _ x None

module _ (n : ℕ) (s : List ℕ) (x : ℕ) (whole : Option ℕ) (e : value_of n s x ≡ whole) where
  pub value_none : n ≤ 0 → None ≡ whole
  unfolding value_of
  value_none h = let z : n ≡ 0 = omega arith in rw z at e

  module _ (h : 0 < n) where
    step : value_of n s x
        ≡ pick (eqb (get_or s (2 * (n - 1)) 0) x) (Some (get_or s (2 * (n - 1) + 1) 0)) (value_of (n - 1) s x)
    step = let z : n ≡ suc (n - 1) = omega arith in ap (λ (k : ℕ). value_of k s x) z ∙ value-at (n - 1) s x

    pub value_found : get_or s (2 * (n - 1)) 0 ≡ x → Some (get_or s (2 * (n - 1) + 1) 0) ≡ whole
    value_found f = sym (step ∙ simp (eq-eqb (get_or s (2 * (n - 1)) 0) x f)) ∙ e

    pub value-earlier : (get_or s (2 * (n - 1)) 0 ≡ x → ⊥) → value_of (n - 1) s x ≡ whole
    value-earlier f = sym (step ∙ simp (ne_eqb (get_or s (2 * (n - 1)) 0) x f)) ∙ e

-- ---- the heading
module _ {A : Type 0} (len : ℕ) (label name : A) where
  -- what is told of the heading is told of the part that it is
  pub heading-told : {B : Type 0} (f : A → B) → f (heading len label name) ≡ heading len (f label) (f name)
  heading-told f = go (eqb len 0)
    where
      go : (b : Bool) → f (pick b name label) ≡ pick b (f name) (f label)
      go true = refl
      go false = refl
