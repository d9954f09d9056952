-- A list that is written place by place: what is written so far, and what is still to come, make the whole.
-- Assumes nothing.
use Prim.Native.Nat.{ℕ, zero, suc, ◌+◌, ◌≤◌, ◌<◌}
use mathlib.Core.Path.{◌≡◌, refl, sym, ap, ◌∙◌}
use mathlib.Core.List.{List, [], ◌∷◌, ◌++◌, append-nil}
use native.Mathlib.Omega.{arith}
use native.Mathlib.Numerals.{add-one}
use lib.ListN.{length, take, set}
use lib.Seq.{take_all}

module _ (whole : List ℕ) where
  put : (out rest : List ℕ) (i v : ℕ) → i < length out → take (suc i) (set out i v) ++ rest ≡ take i out ++ (v ∷ rest)
  put [] rest i v h = absurd (omega arith)
  put (a ∷ out) rest zero v h = refl
  put (a ∷ out) rest (suc i) v h = ap (λ (l : List ℕ). a ∷ l) (put out rest i v (omega arith))

  pub fill-turn : (out rest next : List ℕ) (i v : ℕ) → i < length out → rest ≡ v ∷ next → take i out ++ rest ≡ whole
      → take (i + 1) (set out i v) ++ next ≡ whole
  fill-turn out rest next i v h e w = rw add-one (put out next i v h ∙ ap (λ (l : List ℕ). take i out ++ l) (sym e) ∙ w)

  pub fill_done : (out rest : List ℕ) (i : ℕ) → length out ≤ i → rest ≡ [] → take i out ++ rest ≡ whole → out ≡ whole
  fill_done out rest i h e w =
      sym (take_all i out h) ∙ sym (append-nil (take i out)) ∙ ap (λ (l : List ℕ). take i out ++ l) (sym e) ∙ w
