-- Two lists side by side, and an element of a list put in its place. Assumes nothing.
use Prim.Native.Nat.{ℕ, zero, suc, ◌≤◌, ◌<◌}
use mathlib.Core.Path.{◌≡◌, refl, ap}
use mathlib.Core.List.{List, [], ◌∷◌, ◌++◌}
use native.Mathlib.Nat.{not-suc-le-zero, le_of_suc-le-suc}
use lib.ListN.{length, get_or, set}

-- an element put where it was; past the end nothing is put
pub set_same : {A : Type 0} (l : List A) (i : ℕ) (d : A) → set l i (get_or l i d) ≡ l
set_same [] i d = refl
set_same (x ∷ l) zero d = refl
set_same {A} (x ∷ l) (suc i) d = ap (λ (r : List A). x ∷ r) (set_same l i d)

-- and elsewhere nothing is put
pub get_d_set_other : {A : Type 0} (l : List A) (i k : ℕ) (a d : A) → (i ≡ k → ⊥) → get_or (set l i a) k d ≡ get_or l k d
get_d_set_other [] i k a d h = refl
get_d_set_other (x ∷ l) zero zero a d h = absurd (h refl)
get_d_set_other (x ∷ l) zero (suc k) a d h = refl
get_d_set_other (x ∷ l) (suc i) zero a d h = refl
get_d_set_other (x ∷ l) (suc i) (suc k) a d h = get_d_set_other l i k a d (λ e. h (ap suc e))

-- of one length, and related place by place
abbrev pub Both : {A B : Type 0} → (A → B → Type 0) → List A → List B → Type 0
Both P [] [] = Unit {0}
Both P [] (b ∷ bs) = ⊥
Both P (a ∷ xs) [] = ⊥
Both P (a ∷ xs) (b ∷ bs) = P a b × Both P xs bs

pub both-length : {A B : Type 0} (P : A → B → Type 0) (xs : List A) (bs : List B) → Both P xs bs → length xs ≡ length bs
both-length P [] [] t = refl
both-length P [] (b ∷ bs) t = absurd t
both-length P (a ∷ xs) [] t = absurd t
both-length P (a ∷ xs) (b ∷ bs) t = ap suc (both-length P xs bs t.1)

pub both_at : {A B : Type 0} (P : A → B → Type 0) (xs : List A) (bs : List B) → Both P xs bs
    → (i : ℕ) → i < length xs → (d : A) (e : B) → P (get_or xs i d) (get_or bs i e)
both_at P [] bs t i h d e = absurd (not-suc-le-zero h)
both_at P (a ∷ xs) [] t i h d e = absurd t
both_at P (a ∷ xs) (b ∷ bs) t zero h d e = t.0
both_at P (a ∷ xs) (b ∷ bs) t (suc i) h d e = both_at P xs bs t.1 i (le_of_suc-le-suc h) d e

pub both-set : {A B : Type 0} (P : A → B → Type 0) (xs : List A) (bs : List B) → Both P xs bs
    → (i : ℕ) (a : A) (b : B) → P a b → Both P (set xs i a) (set bs i b)
both-set P [] [] t i a b h = tt
both-set P [] (y ∷ bs) t i a b h = absurd t
both-set P (x ∷ xs) [] t i a b h = absurd t
both-set P (x ∷ xs) (y ∷ bs) t zero a b h = (h, t.1)
both-set P (x ∷ xs) (y ∷ bs) t (suc i) a b h = (t.0, both-set P xs bs t.1 i a b h)

pub both-more : {A B : Type 0} (P : A → B → Type 0) (xs : List A) (bs : List B) → Both P xs bs
    → (a : A) (b : B) → P a b → Both P (xs ++ (a ∷ [])) (bs ++ (b ∷ []))
both-more P [] [] t a b h = (h, tt)
both-more P [] (y ∷ bs) t a b h = absurd t
both-more P (x ∷ xs) [] t a b h = absurd t
both-more P (x ∷ xs) (y ∷ bs) t a b h = (t.0, both-more P xs bs t.1 a b h)

-- past the end
pub get_d_past : {A : Type 0} (l : List A) (i : ℕ) (d : A) → length l ≤ i → get_or l i d ≡ d
get_d_past [] i d h = refl
get_d_past (x ∷ l) zero d h = absurd (not-suc-le-zero h)
get_d_past (x ∷ l) (suc i) d h = get_d_past l i d (le_of_suc-le-suc h)

-- an element put in its place that has what another had there: so has every place
pub set_keeps : {A B : Type 0} (f : A → B) (l : List A) (i k : ℕ) (a d e : A) → i < length l → f a ≡ f (get_or l i d)
    → f (get_or (set l i a) k e) ≡ f (get_or l k e)
set_keeps f [] i k a d e h q = absurd (not-suc-le-zero h)
set_keeps f (x ∷ l) zero zero a d e h q = q
set_keeps f (x ∷ l) zero (suc k) a d e h q = refl
set_keeps f (x ∷ l) (suc i) zero a d e h q = refl
set_keeps f (x ∷ l) (suc i) (suc k) a d e h q = set_keeps f l i k a d e (le_of_suc-le-suc h) q
