-- The order of the publics: what is left of the pairs says the same as all of them. Assumes nothing.
use Prim.Native.Nat.{ℕ, ◌+◌, ◌-◌, ◌*◌, ◌≤◌, ◌<◌}
use mathlib.Core.Path.{◌≡◌, sym, ap, ap₂, ◌∙◌}
use mathlib.Core.Bool.{Bool, false, ◌&&◌}
use mathlib.Core.List.{List, ◌∷◌}
use native.Mathlib.Omega.{arith}
use borrow.Author.Tests.{lt-ltb, le-ltb}
use lib.Dec.{ltb}
use lib.ListN.{length, drop, get_or, get_or-eq_default}
use Rattle.allocator.specs.Slots.{Pair, pair}
use Rattle.instance.specs.Parts.{pairs_at}
use Rattle.instance.proofs.Pairs.{pairs-at}
use Rattle.parts.specs.Read.{increasing}

-- the pairs from the one before the i-th on, and from the i-th on
order-at : (s : List ℕ) (n i : ℕ) → 1 ≤ i → i < n
    → increasing (pairs_at (n + 1 - i) (drop (2 * i - 2) s))
    ≡ (ltb (get_or s (2 * i - 2) 0) (get_or s (2 * i) 0) && increasing (pairs_at (n + 1 - (i + 1)) (drop (2 * (i + 1) - 2) s)))
order-at s n i l h =
    let at = 2 * i - 2 in
    let a = pairs-at s at (n + 1 - i) (omega arith) in
    let b = pairs-at s (at + 2) (n + 1 - i - 1) (omega arith) in
    let z : at + 2 ≡ 2 * i = omega arith in
    let x : n + 1 - i - 1 ≡ n + 1 - (i + 1) = omega arith in
    let y : at + 2 ≡ 2 * (i + 1) - 2 = omega arith in
    ap increasing a
    ∙ ap (λ (l : List Pair). increasing (pair (get_or s at 0) (get_or s (at + 1) 0) ∷ l)) b
    ∙ ap (λ (l : List Pair). ltb (get_or s at 0) (get_or s (at + 2) 0) && increasing l) (sym b)
    ∙ ap₂ (λ (t : Bool) (l : List Pair). t && increasing l) (ap (λ (m : ℕ). ltb (get_or s at 0) (get_or s m 0)) z) (ap₂ (λ (k m : ℕ). pairs_at k (drop m s)) x y)

module _ (s : List ℕ) (n i : ℕ) (whole : Bool) (e : increasing (pairs_at (n + 1 - i) (drop (2 * i - 2) s)) ≡ whole) where
  pub order-no : 1 ≤ i → i < n → get_or s (2 * i) 0 ≤ get_or s (2 * i - 2) 0 → false ≡ whole
  order-no l h k = sym (order-at s n i l h ∙ simp (le-ltb (get_or s (2 * i - 2) 0) (get_or s (2 * i) 0) k)) ∙ e

  -- where the store ends before the next pair, its wire is taken to be 0
  pub order-none : 1 ≤ i → i < n → length s ≤ 2 * i → false ≡ whole
  order-none l h k = let z = get_or-eq_default s 0 k in order-no l h (omega arith)

  pub order-more : 1 ≤ i → i < n → get_or s (2 * i - 2) 0 < get_or s (2 * i) 0
      → increasing (pairs_at (n + 1 - (i + 1)) (drop (2 * (i + 1) - 2) s)) ≡ whole
  order-more l h k = sym (order-at s n i l h ∙ simp (lt-ltb (get_or s (2 * i - 2) 0) (get_or s (2 * i) 0) k)) ∙ e
