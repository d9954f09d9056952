-- Each map of a round and the map that undoes it: one after the other they give every list of units back. Both keep
-- how many elements there are, and units.
--
-- To take a constant away is to add p - 1 times it, so adding it first or after gives a multiple of p beside the
-- element. Assumes nothing.
use Prim.Native.Nat.{ℕ, zero, suc, ◌+◌, ◌*◌, ◌<◌}
use mathlib.Core.Path.{◌≡◌, refl, ap, ap₂, ◌∙◌}
use mathlib.Core.Bool.{true}
use mathlib.Core.List.{List, [], ◌∷◌, map}
use native.Mathlib.Omega.{arith}
use Rattle.limits.specs.Numbers.{prime}
use Rattle.limits.proofs.Below.{below-cons}
use Rattle.baby_bear.specs.Field.{add_unit, seventh, are_units}
use Rattle.baby_bear.proofs.Mod.{Same, same, keep, ◌⟫◌, ◌⊕◌, below}
use Rattle.baby_bear.proofs.Ring.{add_unit-below, add_unit-is, mul_unit-is, seventh-below}
use Rattle.permute.specs.Permute.{pairwise, on_kind, add_constants, raise, times_matrix}
use Rattle.permute.proofs.Keeps.{pairwise-length, pairwise-units, on_kind-length, on_kind-units, times_matrix-length, times_matrix-units}
use Rattle.powers.specs.Powers.{seventh_root}
use Rattle.powers.proofs.Residues.{multiple}
use Rattle.powers.proofs.Roots.{root-seventh, seventh-root, seventh_root-below}
use Rattle.matrix_inverse.specs.Rows.{neg_unit}
use Rattle.matrix_inverse.specs.Inverse.{Units, Inverts, Square}
use Rattle.inverse.specs.Inverse.{sub_unit, sub_constants, lower}

-- ---- one unit
-- a difference is a unit
sub_unit-below : (a b : ℕ) → sub_unit a b < prime
unfolding sub_unit
sub_unit-below a b = add_unit-below a _

-- a number and a constant and p - 1 times the constant are the same as the number
cleared : (a c : ℕ) → Same prime (a + (c + 2013265920 * c)) a
cleared a c =
    let e : c + 2013265920 * c ≡ c * 2013265921 = omega arith in
    let z : a + 0 ≡ a = omega arith in
    keep {a = a} ⊕ (same e ⟫ multiple c) ⟫ same z

-- a constant added and taken away
sub-add : (a c : ℕ) → a < prime → sub_unit (add_unit a c) c ≡ a
unfolding sub_unit
sub-add a c h =
    let m : a + c + 2013265920 * c ≡ a + (c + 2013265920 * c) = omega arith in
    below (add_unit-below (add_unit a c) (neg_unit c)) h
    (add_unit-is (add_unit a c) (neg_unit c) ⟫ add_unit-is a c ⊕ mul_unit-is 2013265920 c ⟫ same m ⟫ cleared a c)

-- and taken away and added
add-sub : (a c : ℕ) → a < prime → add_unit (sub_unit a c) c ≡ a
unfolding sub_unit
add-sub a c h =
    let m : a + 2013265920 * c + c ≡ a + (c + 2013265920 * c) = omega arith in
    below (add_unit-below (add_unit a (neg_unit c)) c) h
    (add_unit-is (add_unit a (neg_unit c)) c ⟫ (add_unit-is a (neg_unit c) ⟫ keep {a = a} ⊕ mul_unit-is 2013265920 c) ⊕ keep {a = c}
    ⟫ same m ⟫ cleared a c)

-- ---- lists
-- where g undoes f with the same constant, it does so in each place
module _ (f g : ℕ → ℕ → ℕ) (undo : (a c : ℕ) → a < prime → g (f a c) c ≡ a) where
  pairwise-undo : (cs x : List ℕ) → are_units x ≡ true → pairwise g cs (pairwise f cs x) ≡ x
  unfolding pairwise
  pairwise-undo cs [] e = refl
  pairwise-undo [] (a ∷ x) e = refl
  pairwise-undo (c ∷ cs) (a ∷ x) e =
      let h = below-cons prime a x e in
      ap₂ (λ (i : ℕ) (l : List ℕ). i ∷ l) (undo a c h.0) (pairwise-undo cs x h.1)

-- where g undoes f, it does so in each place where f was used
module _ (f g : ℕ → ℕ) (undo : (a : ℕ) → a < prime → g (f a) ≡ a) where
  -- of a whole list
  map-undo : (x : List ℕ) → are_units x ≡ true → map g (map f x) ≡ x
  map-undo [] e = refl
  map-undo (a ∷ x) e =
      let h = below-cons prime a x e in
      ap₂ (λ (i : ℕ) (l : List ℕ). i ∷ l) (undo a h.0) (map-undo x h.1)

  -- of all or the first
  on_kind-undo : (kind : ℕ) (x : List ℕ) → are_units x ≡ true → on_kind g kind (on_kind f kind x) ≡ x
  unfolding on_kind
  on_kind-undo kind [] e = refl
  on_kind-undo zero (a ∷ x) e = map-undo (a ∷ x) e
  on_kind-undo (suc kind) (a ∷ x) e = ap (λ (i : ℕ). i ∷ x) (undo a (below-cons prime a x e).0)

-- constants added and taken away give the list back
pub sub-add_constants : (cs x : List ℕ) → are_units x ≡ true → sub_constants cs (add_constants cs x) ≡ x
sub-add_constants cs x e = pairwise-undo add_unit sub_unit sub-add cs x e

-- constants taken away and added do too
pub add-sub_constants : (cs x : List ℕ) → are_units x ≡ true → add_constants cs (sub_constants cs x) ≡ x
add-sub_constants cs x e = pairwise-undo sub_unit add_unit add-sub cs x e

-- a list that is raised and lowered is the same list
pub lower-raise : (kind : ℕ) (x : List ℕ) → are_units x ≡ true → lower kind (raise kind x) ≡ x
lower-raise kind x e = on_kind-undo seventh seventh_root root-seventh kind x e

-- and so is one that is lowered and raised
pub raise-lower : (kind : ℕ) (x : List ℕ) → are_units x ≡ true → raise kind (lower kind x) ≡ x
raise-lower kind x e = on_kind-undo seventh_root seventh seventh-root kind x e

-- ---- w units stay w units
module _ (w : ℕ) where
  -- where constants are added,
  pub add_constants-keeps : (cs x : List ℕ) → Units w x → Units w (add_constants cs x)
  add_constants-keeps cs x u = record {
    size = pairwise-length add_unit cs x ∙ u.size;
    below = pairwise-units add_unit add_unit-below cs x u.below;
  }

  -- where they are taken away,
  pub sub_constants-keeps : (cs x : List ℕ) → Units w x → Units w (sub_constants cs x)
  sub_constants-keeps cs x u = record {
    size = pairwise-length sub_unit cs x ∙ u.size;
    below = pairwise-units sub_unit sub_unit-below cs x u.below;
  }

  -- where a list is raised,
  pub raise-keeps : (kind : ℕ) (x : List ℕ) → Units w x → Units w (raise kind x)
  raise-keeps kind x u = record {
    size = on_kind-length seventh kind x ∙ u.size;
    below = on_kind-units seventh seventh-below kind x u.below;
  }

  -- and where it is lowered
  pub lower-keeps : (kind : ℕ) (x : List ℕ) → Units w x → Units w (lower kind x)
  lower-keeps kind x u = record {
    size = on_kind-length seventh_root kind x ∙ u.size;
    below = on_kind-units seventh_root seventh_root-below kind x u.below;
  }

  -- a matrix of w rows gives w units for every list
  pub times_matrix-gives : (m : List (List ℕ)) (x : List ℕ) → Square w m → Units w (times_matrix m x)
  times_matrix-gives m x s = record { size = times_matrix-length m x ∙ s.count; below = times_matrix-units m x }

  -- ---- the matrix, and the one that inverts it
  module _ (m n : List (List ℕ)) (i : Inverts w m n) where
    -- first the matrix and then the other gives the list back
    pub inverse-times : (x : List ℕ) → Square w m → Units w x → times_matrix n (times_matrix m x) ≡ x
    inverse-times x s u = i.to x (times_matrix m x) u (times_matrix-gives m x s) refl

    -- and so does first the other and then the matrix
    pub times-inverse : (y : List ℕ) → Square w n → Units w y → times_matrix m (times_matrix n y) ≡ y
    times-inverse y s u = i.from (times_matrix n y) y (times_matrix-gives n y s) u refl
