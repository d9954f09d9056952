-- The sum of products of two lists, where a word is taken out of it, two places are exchanged, or a list is multiplied
-- or added to another. Assumes nothing.
use Prim.Native.Nat.{ℕ, zero, suc, ◌+◌, ◌*◌, ◌<◌}
use mathlib.Core.Path.{◌≡◌, refl, sym, ap, ap₂, ◌∙◌}
use mathlib.Core.List.{List, [], ◌∷◌, map}
use native.Mathlib.Omega.{arith}
use native.Mathlib.Decide.{ℕ_discrete}
use lib.ListN.{length, get_or, set, replicate}
use lib.Seq.{get_or-set_other, set-set, set_comm}
use Rattle.limits.specs.Numbers.{prime}
use Rattle.baby_bear.specs.Field.{mul_unit, dot}
use Rattle.baby_bear.proofs.Mod.{Same, same, keep, ◌⟫◌, ◌⊗◌, ◌⊕◌}
use Rattle.baby_bear.proofs.Ring.{add_unit-is, mul_unit-is}
use Rattle.permute.specs.Permute.{pairwise}
use Rattle.matrix_inverse.specs.Inverse.{swap}
use Rattle.matrix_inverse.specs.Rows.{add_row}
use Rattle.matrix_inverse.proofs.Lists.{swap-same, swap-first, swap-second}

-- one product taken out of the sum
pub dot_at : (r u : List ℕ) (c : ℕ) → dot r u ≡ get_or r c 0 * get_or u c 0 + dot (set r c 0) u
unfolding dot
dot_at [] u c = omega arith
dot_at (a ∷ r) [] zero = omega arith
dot_at (a ∷ r) [] (suc c) = omega arith
dot_at (a ∷ r) (b ∷ u) zero = omega arith
dot_at (a ∷ r) (b ∷ u) (suc c) = omega (arith, dot_at r u c)

-- where r has 0, the word of u does not matter
pub dot-cleared : (r u : List ℕ) (c a : ℕ) → dot (set r c 0) (set u c a) ≡ dot (set r c 0) u
unfolding dot
dot-cleared [] u c a = refl
dot-cleared (x ∷ r) [] zero a = refl
dot-cleared (x ∷ r) [] (suc c) a = refl
dot-cleared (x ∷ r) (y ∷ u) zero a = omega arith
dot-cleared (x ∷ r) (y ∷ u) (suc c) a = ap (λ (t : ℕ). x * y + t) (dot-cleared r u c a)

-- a list times k
pub dot-scaled : (k : ℕ) (r u : List ℕ) → Same prime (dot (map (mul_unit k) r) u) (k * dot r u)
unfolding dot
dot-scaled k [] u = same (omega arith)
dot-scaled k (a ∷ r) [] = same (omega arith)
dot-scaled k (a ∷ r) (b ∷ u) = mul_unit-is k a ⊗ keep {a = b} ⊕ dot-scaled k r u ⟫ same (omega arith)

-- f times s added to r
pub dot-added : (f : ℕ) (s r u : List ℕ) → length s ≡ length r → Same prime (dot (add_row f s r) u) (dot r u + f * dot s u)
unfolding dot pairwise
dot-added f [] [] u e = same (omega arith)
dot-added f [] (a ∷ r) u e = absurd (omega arith)
dot-added f (b ∷ s) [] u e = absurd (omega arith)
dot-added f (b ∷ s) (a ∷ r) [] e = same (omega arith)
dot-added f (b ∷ s) (a ∷ r) (x ∷ u) e =
    (add_unit-is a (mul_unit f b) ⟫ keep {a = a} ⊕ mul_unit-is f b) ⊗ keep {a = x} ⊕ dot-added f s r u (omega arith)
    ⟫ same (omega arith)

-- two products taken out of the sum
dot-two : (r u : List ℕ) (c i : ℕ) → (i ≡ c → ⊥)
    → dot r u ≡ get_or r c 0 * get_or u c 0 + get_or r i 0 * get_or u i 0 + dot (set (set r c 0) i 0) u
dot-two r u c i h =
    let e : get_or (set r c 0) i 0 ≡ get_or r i 0 = get_or-set_other r c i 0 0 h in
    let f : dot (set r c 0) u ≡ get_or r i 0 * get_or u i 0 + dot (set (set r c 0) i 0) u =
    dot_at (set r c 0) u i ∙ ap (λ (t : ℕ). t * get_or u i 0 + dot (set (set r c 0) i 0) u) e in
    omega (arith, dot_at r u c)

-- both cleared, what they held before does not matter
cleared-two : (r : List ℕ) (c i a b : ℕ) → (i ≡ c → ⊥) → set (set (set (set r c a) i b) c 0) i 0 ≡ set (set r c 0) i 0
cleared-two r c i a b h =
    ap (λ (l : List ℕ). set l i 0) (set_comm (set r c a) i c b 0 h ∙ ap (λ (l : List ℕ). set l i b) (set-set r c a 0))
    ∙ set-set (set r c 0) i b 0

-- places exchanged in the one list, or in the other
pub dot-swap : (r u : List ℕ) (c i : ℕ) → c < length r → i < length r → length r ≡ length u
    → dot (swap 0 c i r) u ≡ dot r (swap 0 c i u)
dot-swap r u c i hc hi e = go (ℕ_discrete i c)
  where
    go : Dec (i ≡ c) → dot (swap 0 c i r) u ≡ dot r (swap 0 c i u)
    go (yes f) =
        ap (λ (l : List ℕ). dot l u) (swap-same 0 c i r (ap (λ (k : ℕ). get_or r k 0) (sym f)))
        ∙ sym (ap (λ (l : List ℕ). dot r l) (swap-same 0 c i u (ap (λ (k : ℕ). get_or u k 0) (sym f))))
    go (no h) =
        let z : List ℕ = set (set r c 0) i 0 in
        let a : dot (swap 0 c i r) u ≡ get_or r i 0 * get_or u c 0 + get_or r c 0 * get_or u i 0 + dot z u =
        dot-two (swap 0 c i r) u c i h
        ∙ ap₂ (λ (x y : ℕ). x * get_or u c 0 + y * get_or u i 0 + dot (set (set (swap 0 c i r) c 0) i 0) u) (swap-first 0 c i r hc hi) (swap-second 0 c i r hc hi)
        ∙ ap (λ (l : List ℕ). get_or r i 0 * get_or u c 0 + get_or r c 0 * get_or u i 0 + dot l u) (cleared-two r c i (get_or r i 0) (get_or r c 0) h) in
        let b : dot r (swap 0 c i u) ≡ get_or r c 0 * get_or u i 0 + get_or r i 0 * get_or u c 0 + dot z (swap 0 c i u) =
        dot-two r (swap 0 c i u) c i h
        ∙ ap₂ (λ (x y : ℕ). get_or r c 0 * x + get_or r i 0 * y + dot z (swap 0 c i u))
        (swap-first 0 c i u (omega arith) (omega arith)) (swap-second 0 c i u (omega arith) (omega arith)) in
        let d : dot z (swap 0 c i u) ≡ dot z u =
        dot-cleared (set r c 0) (set u c (get_or u i 0)) i (get_or u c 0)
        ∙ ap (λ (l : List ℕ). dot l (set u c (get_or u i 0))) (set_comm r c i 0 0 (λ q. h (sym q)))
        ∙ dot-cleared (set r i 0) u c (get_or u i 0)
        ∙ ap (λ (l : List ℕ). dot l u) (set_comm r i c 0 0 h) in
        omega (arith, a, b, d)

-- zeros
pub dot-zeros : (r : List ℕ) (n : ℕ) → dot r (replicate n 0) ≡ 0
unfolding dot
dot-zeros [] n = refl
dot-zeros (a ∷ r) zero = refl
dot-zeros (a ∷ r) (suc n) = omega (arith, dot-zeros r n)

-- 1 at c, and else zeros
pub dot-unit : (r : List ℕ) (n c : ℕ) → c < n → dot r (set (replicate n 0) c 1) ≡ get_or r c 0
unfolding dot
dot-unit [] n c h = refl
dot-unit (a ∷ r) zero c h = absurd (omega arith)
dot-unit (a ∷ r) (suc n) zero h = omega (arith, dot-zeros r n)
dot-unit (a ∷ r) (suc n) (suc c) h = omega (arith, dot-unit r n c (omega arith))
