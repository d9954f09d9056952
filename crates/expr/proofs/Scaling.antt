-- The list scaled one by one. Assumes nothing.
use mathlib.Core.Path.{◌≡◌, sym, ◌∙◌, ap}
use Prim.Native.Nat.{ℕ, suc, ◌+◌, ◌<◌, ◌≤◌}
use native.Mathlib.Nat.{lt-suc_self}
use native.Mathlib.Numerals.{add-one}
use mathlib.Core.List.{List, [], ◌∷◌, ◌++◌, map, append_assoc, append-nil}
use lib.ListN.{length, get_or, set, take, drop, drop_of_length-le}
use lib.Seq.{drop-cons, take-suc-set, drop-set-lt, take_all}

-- ---- the list: with the first i elements replaced and the rest still to be, the whole stays the same
-- one more replaced
pub mapped-one : {X : Type 0} (f : X → X) (d : X) (l : List X) (i : ℕ) (y : X) → i < length l → y ≡ f (get_or l i d)
    → take (i + 1) (set l i y) ++ map f (drop (i + 1) (set l i y)) ≡ take i l ++ map f (drop i l)
mapped-one {X} f d l i y h e =
    ap (λ (k : ℕ). take k (set l i y) ++ map f (drop k (set l i y))) (add-one i)
    ∙ ap (λ (p : List X). p ++ map f (drop (suc i) (set l i y))) (take-suc-set l i y h)
    ∙ ap (λ (r : List X). (take i l ++ (y ∷ [])) ++ map f r) (drop-set-lt (suc i) l i y (lt-suc_self i))
    ∙ append_assoc (take i l) (y ∷ []) (map f (drop (suc i) l))
    ∙ ap (λ (z : X). take i l ++ (z ∷ map f (drop (suc i) l))) e
    ∙ ap (λ (r : List X). take i l ++ map f r) (sym (drop-cons l i d h))

-- all replaced
pub mapped-all : {X : Type 0} (f : X → X) (l : List X) (i : ℕ) → length l ≤ i → take i l ++ map f (drop i l) ≡ l
mapped-all {X} f l i h =
    ap (λ (p : List X). p ++ map f (drop i l)) (take_all i l h)
    ∙ ap (λ (r : List X). l ++ map f r) (drop_of_length-le l h)
    ∙ append-nil l
