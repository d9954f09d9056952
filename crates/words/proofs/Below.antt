-- Every word below a bound: by a fold, place by place, and of parts. Assumes nothing.
use Prim.Native.Nat.{ℕ, ◌+◌, ◌≤◌, ◌<◌}
use mathlib.Core.Path.{◌≡◌, refl, sym, ap, ◌∙◌}
use mathlib.Core.Bool.{Bool, ◌&&◌, and-true, and_assoc}
use mathlib.Core.List.{List, [], ◌∷◌, ◌++◌}
use native.Mathlib.Numerals.{add-one}
use lib.Dec.{ltb}
use lib.ListN.{length, drop, get_or, drop_of_length-le}
use lib.Seq.{drop-cons}
use Rattle.std.specs.List.{fold}
use Rattle.words.specs.Store.{all_below}

-- by a fold from the first word on
pub fold-below : (bound : ℕ) (b : Bool) (s : List ℕ) → fold (λ b x. b && ltb x bound) b s ≡ (b && all_below bound s)
unfolding all_below
fold-below bound b [] = sym (and-true b)
fold-below bound b (x ∷ s) = fold-below bound (b && ltb x bound) s ∙ and_assoc b (ltb x bound) (all_below bound s)

below_at : (bound : ℕ) (s : List ℕ) (i : ℕ) → i < length s
    → all_below bound (drop i s) ≡ (ltb (get_or s i 0) bound && all_below bound (drop (i + 1) s))
unfolding all_below
below_at bound s i h = rw (drop-cons s i 0 h, add-one)

-- what the words before i say, with the words from i on still to be looked at
module _ (bound : ℕ) (s : List ℕ) (below : Bool) (i : ℕ) (e : (below && all_below bound (drop i s)) ≡ all_below bound s) where
  pub below_more : i < length s → (below && ltb (get_or s i 0) bound && all_below bound (drop (i + 1) s)) ≡ all_below bound s
  below_more h =
      and_assoc below (ltb (get_or s i 0) bound) (all_below bound (drop (i + 1) s))
      ∙ sym (ap (λ (b : Bool). below && b) (below_at bound s i h)) ∙ e

  pub below_all : length s ≤ i → below ≡ all_below bound s
  unfolding all_below
  below_all h = sym (and-true below) ∙ rw (drop_of_length-le s h) at e

-- of a list in two parts
pub all_below-append : (bound : ℕ) (s t : List ℕ) → all_below bound (s ++ t) ≡ (all_below bound s && all_below bound t)
unfolding all_below
all_below-append bound [] t = refl
all_below-append bound (x ∷ s) t =
    ap (λ (b : Bool). ltb x bound && b) (all_below-append bound s t) ∙ sym (and_assoc (ltb x bound) (all_below bound s) (all_below bound t))
