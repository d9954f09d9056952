-- Powers of all elements side by side: by halves of the exponent, as of one element. Assumes nothing.
use Prim.Native.Nat.{ℕ, zero, suc, ◌-◌, ◌/◌, ◌%◌, ◌≤◌, ◌<◌}
use mathlib.Core.Path.{◌≡◌, refl, sym, ap, ap₂, ◌∙◌}
use mathlib.Core.Bool.{true, false, ◌&&◌, true≢false}
use mathlib.Core.List.{List, [], ◌∷◌, map}
use native.Mathlib.Omega.{arith}
use native.Mathlib.Nat.{mod-eq_of_lt}
use borrow.Author.Tests.{eqb-true, lt-ltb}
use lib.Dec.{eqb, ltb, lit<}
use lib.ListN.{length, get_or, take, set, replicate, length-map, length-replicate}
use Rattle.limits.specs.Numbers.{prime}
use Rattle.limits.proofs.Below.{below-cons, below-replicate, both_true}
use Rattle.words.specs.Store.{fit_words}
use Rattle.baby_bear.specs.Field.{are_units, mul_unit, power_unit}
use Rattle.baby_bear.proofs.Ring.{mul_unit-one, mul_unit-below}
use Rattle.permute.specs.Permute.{pairwise, on_kind}
use Rattle.permute.proofs.Mix.{kind-every}
use Rattle.permute.proofs.Keeps.{pairwise-length, pairwise-units}
use Rattle.powers.specs.Powers.{seventh_root}
use Rattle.powers.proofs.Halves.{times-even, times-odd, one-times}
use Rattle.matrix_inverse.proofs.Places.{held-lent}
use Rattle.inverse.specs.Inverse.{lower}

-- ---- the exponent's half
-- each element times the power of the one at its place
abbrev powers_onto : ℕ → List ℕ → List ℕ → List ℕ
powers_onto e a by = pairwise (λ b x. mul_unit b (power_unit x e)) a by

-- each element squared
abbrev pub squares : List ℕ → List ℕ
squares a = map (λ x. mul_unit x x) a

-- with no exponent left nothing changes
pub lanes-none : (e : ℕ) (a by : List ℕ) → e ≡ 0 → are_units by ≡ true → by ≡ powers_onto e a by
unfolding pairwise power_unit
lanes-none e a [] z u = refl
lanes-none e [] (b ∷ by) z u = refl
lanes-none e (x ∷ a) (b ∷ by) z u =
    let p = below-cons prime b by u in
    ap₂ (λ (t : ℕ) (l : List ℕ). t ∷ l)
    (sym (mod-eq_of_lt p.0) ∙ sym (mul_unit-one b) ∙ ap (λ (t : ℕ). mul_unit b (power_unit x t)) (sym z))
    (lanes-none e a by z p.1)

-- an even one is halved, and the elements are squared
lanes-even : (e : ℕ) (a by : List ℕ) → e % 2 ≡ 0 → powers_onto (e / 2) (squares a) by ≡ powers_onto e a by
unfolding pairwise
lanes-even e a [] z = refl
lanes-even e [] (b ∷ by) z = refl
lanes-even e (x ∷ a) (b ∷ by) z =
    ap₂ (λ (t : ℕ) (l : List ℕ). t ∷ l) (times-even b x e (mul_unit x x) _ z refl refl) (lanes-even e a by z)

-- an odd one too, and each element is multiplied once before
lanes-odd : (e : ℕ) (a by : List ℕ) → (e % 2 ≡ 0 → ⊥)
    → powers_onto (e / 2) (squares a) (pairwise mul_unit a by) ≡ powers_onto e a by
unfolding pairwise
lanes-odd e a [] z = refl
lanes-odd e [] (b ∷ by) z = refl
lanes-odd e (x ∷ a) (b ∷ by) z =
    ap₂ (λ (t : ℕ) (l : List ℕ). t ∷ l) (times-odd b x e (mul_unit x x) (mul_unit b x) _ z refl refl refl) (lanes-odd e a by z)

-- from ones on the powers themselves are left: the roots
lanes-root : (x : List ℕ) → powers_onto 1725656503 x (replicate (length x) 1) ≡ map seventh_root x
unfolding pairwise seventh_root
lanes-root [] = refl
lanes-root (a ∷ x) = ap₂ (λ (t : ℕ) (l : List ℕ). t ∷ l) (one-times a 1725656503 _ refl) (lanes-root x)

-- ---- the same of what calls leave
module _ (e : ℕ) (a by a' by' out : List ℕ) (es : a' ≡ squares a) where
  -- after squaring
  pub even_is : e % 2 ≡ 0 → out ≡ powers_onto (e / 2) a' by → out ≡ powers_onto e a by
  even_is z eo = eo ∙ ap (λ (l : List ℕ). powers_onto (e / 2) l by) es ∙ lanes-even e a by z

  -- after multiplying and squaring
  pub odd_is : (e % 2 ≡ 0 → ⊥) → by' ≡ pairwise mul_unit a by → out ≡ powers_onto (e / 2) a' by' → out ≡ powers_onto e a by
  odd_is z eb eo =
      eo ∙ ap₂ (λ (l k : List ℕ). powers_onto (e / 2) l k) es eb ∙ lanes-odd e a by z

-- from a copy and ones
root_is : (x a by out : List ℕ) → a ≡ x → by ≡ replicate (length x) 1 → out ≡ powers_onto 1725656503 a by
    → out ≡ map seventh_root x
root_is x a by out ea eb eo =
    eo ∙ ap₂ (λ (l k : List ℕ). powers_onto 1725656503 l k) ea eb ∙ lanes-root x

-- ---- what a call asks of the call that it makes
-- squares are as many
pub squares-length : (a a' : List ℕ) → a' ≡ squares a → length a' ≡ length a
squares-length a a' e = ap length e ∙ length-map a (λ x. mul_unit x x)

-- products are as many, and units
pub products-asked : (a by by' : List ℕ) → length a ≡ length by → are_units by ≡ true → by' ≡ pairwise mul_unit a by
    → (length a ≡ length by') × (are_units by' ≡ true)
products-asked a by by' l u e = (
  l ∙ sym (ap length e ∙ pairwise-length mul_unit a by),
  ap are_units e ∙ pairwise-units mul_unit mul_unit-below a by u,
)

-- a copy at the front of the room for it, and ones in its place
module _ (x room a by : List ℕ) (ea : a ≡ fit_words 0 x room) (eb : by ≡ replicate (length x) 1) (h : length x ≤ length room) where
  -- what is lent of the room is the copy
  front-is : take (length x - 0) a ≡ x
  front-is = ap (take (length x - 0)) ea ∙ held-lent x room (length x) refl h

  -- the two may be multiplied
  pub ones-asked : (length (take (length x - 0) a) ≡ length by) × (are_units by ≡ true)
  ones-asked = (
    ap length front-is ∙ sym (ap length eb ∙ length-replicate (length x) 1),
    ap are_units eb ∙ below-replicate prime (length x) 1 (lit< tt),
  )

  -- and then the roots are there
  pub roots-are : (out : List ℕ) → out ≡ powers_onto 1725656503 (take (length x - 0) a) by → out ≡ map seventh_root x
  roots-are out eo = root_is x _ by out front-is eb eo

-- ---- by the kind
module _ (kind : ℕ) (x : List ℕ) where
  -- all of several elements
  pub lower-several : (out : List ℕ) → (eqb kind 0 && ltb 1 (length x)) ≡ true → out ≡ map seventh_root x → out ≡ lower kind x
  lower-several out t e = kind-every seventh_root kind x out (eqb-true kind 0 (both_true (eqb kind 0) _ t).0) e

  -- the first, or the only one
  pub lower-first : (v : ℕ) → (eqb kind 0 && ltb 1 (length x)) ≡ false → 0 < length x → v ≡ power_unit (get_or x 0 0) 1725656503
      → set x 0 v ≡ lower kind x
  unfolding on_kind seventh_root
  lower-first v t h e = go kind x t h e
    where
      go : (kind : ℕ) (x : List ℕ) → (eqb kind 0 && ltb 1 (length x)) ≡ false → 0 < length x → v ≡ power_unit (get_or x 0 0) 1725656503
          → set x 0 v ≡ lower kind x
      go kind [] t h e = absurd (omega arith)
      go zero (a ∷ []) t h e = ap (λ (s : ℕ). s ∷ []) e
      go zero (a ∷ (b ∷ x)) t h e = absurd (true≢false (sym (lt-ltb 1 (length (a ∷ (b ∷ x))) (omega arith)) ∙ t))
      go (suc kind) (a ∷ x) t h e = ap (λ (s : ℕ). s ∷ x) e
