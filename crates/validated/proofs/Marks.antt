-- Marks: what is left of the wires, marked on what is there, comes to the whole; and marks taken for counts,
-- with no slots, bind a wire exactly where it was in the list. Assumes nothing.
use Prim.Native.Nat.{ℕ, zero, suc, ◌≤◌, ◌<◌}
use mathlib.Core.Path.{◌≡◌, refl, ap, ◌∙◌}
use mathlib.Core.Bool.{Bool, true, false, ◌||◌, or_comm}
use mathlib.Core.List.{List, [], ◌∷◌}
use native.Mathlib.Omega.{arith}
use borrow.Author.Tests.{lt-ltb, le-ltb, ltb-true, eqb-true, eqb-false}
use lib.Dec.{eqb, ltb}
use lib.ListN.{length, get_or, set, replicate, length-set}
use lib.Seq.{set-set, get_or-set_same, get_or-set_other}
use Rattle.limits.specs.Questions.{pick}
use Rattle.limits.proofs.Below.{both_true}
use Rattle.words.specs.Store.{all_below}
use Rattle.instance.specs.Parts.{has, pair_vars, pairs_at}
use Rattle.validated.specs.Validated.{bound_by}
use Rattle.validated.specs.Marks.{marked, Marking}

-- ---- the loop
module _ (vars : ℕ) (marks : List ℕ) where
  pub mark-done : Marking vars [] marks true marks
  unfolding all_below marked
  mark-done = record { below = refl; after = refl }

  module _ (x : ℕ) (rest : List ℕ) where
    pub mark-no : vars ≤ x → Marking vars (x ∷ rest) marks false marks
    unfolding all_below marked
    mark-no h = let b = le-ltb x vars h in record { below = simp b; after = simp b }

    pub mark-more : x < vars → {says : Bool} {left : List ℕ} → Marking vars rest (set marks x 1) says left → Marking vars (x ∷ rest) marks says left
    unfolding all_below marked
    mark-more h m = let b = lt-ltb x vars h in record { below = simp b m.below; after = simp b m.after }

-- pairs that are lacking name wire 0, which has its mark already
pub mark-lacking : (vars n : ℕ) (marks : List ℕ) → 0 < vars → Marking vars (pair_vars (pairs_at n [])) (set marks 0 1) true (set marks 0 1)
unfolding all_below marked
mark-lacking vars zero marks h = mark-done vars (set marks 0 1)
mark-lacking vars (suc n) marks h =
    mark-more vars (set marks 0 1) 0 (pair_vars (pairs_at n [])) h (rw set-set (mark-lacking vars n marks h))

-- ---- which wires are bound
mark-one : (marks : List ℕ) (y x : ℕ) → y < length marks → bound_by [] (set marks y 1) x ≡ (eqb x y || bound_by [] marks x)
mark-one marks y x h = go (eqb x y) refl
  where
    go : (b : Bool) → eqb x y ≡ b → ltb 0 (get_or (set marks y 1) x 0) ≡ (b || ltb 0 (get_or marks x 0))
    go true e =
        let z : x ≡ y = eqb-true x y e in
        rw (z, get_or-set_same marks y 1 0 h)
    go false e = rw (get_or-set_other marks y x 1 0 (eqb-false x y e))

turned : (h q m : Bool) → (h || (q || m)) ≡ ((q || h) || m)
turned true true m = refl
turned true false m = refl
turned false q m = ap (λ (b : Bool). b || m) (or_comm false q)

pub marked-has : (vars : ℕ) (xs marks : List ℕ) → all_below vars xs ≡ true → vars ≤ length marks
    → (x : ℕ) → bound_by [] (marked vars xs marks) x ≡ (has xs x || bound_by [] marks x)
unfolding all_below marked
marked-has vars [] marks a h x = refl
marked-has vars (y ∷ xs) marks a h x =
    let e = both_true (ltb y vars) (all_below vars xs) a in
    let b = e.0 in
    let k : y < length marks = omega (arith, ltb-true y vars b) in
    let l : vars ≤ length (set marks y 1) = rw (length-set marks y 1) h in
    let r = marked-has vars xs (set marks y 1) e.1 l x in
    simp b (r ∙ ap (λ (m : Bool). has xs x || m) (mark-one marks y x k) ∙ turned (has xs x) (eqb x y) (bound_by [] marks x))

-- none at first
pub unmarked : (n x : ℕ) → bound_by [] (replicate n 0) x ≡ false
unmarked zero zero = refl
unmarked zero (suc x) = refl
unmarked (suc n) zero = refl
unmarked (suc n) (suc x) = unmarked n x

pub marked-length : (vars : ℕ) (xs marks : List ℕ) → length (marked vars xs marks) ≡ length marks
unfolding marked
marked-length vars [] marks = refl
marked-length vars (x ∷ xs) marks = go (ltb x vars) (marked-length vars xs (set marks x 1) ∙ length-set marks x 1)
  where
    go : (b : Bool) → length (marked vars xs (set marks x 1)) ≡ length marks → length (pick b (marked vars xs (set marks x 1)) marks) ≡ length marks
    go true e = e
    go false e = refl
