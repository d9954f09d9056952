-- The wires of a mint: their number, the first of them, and what they are place by place.
-- Assumes nothing.
use Prim.Native.Nat.{ℕ, zero, suc, ◌+◌, ◌-◌, ◌≤◌, ◌<◌}
use mathlib.Core.Path.{◌≡◌, refl, ap, ap₂, ◌∙◌}
use mathlib.Core.List.{List, [], ◌∷◌}
use native.Mathlib.Omega.{arith}
use lib.ListN.{length, get_or, set, take}
use lib.Seq.{sets}
use Rattle.recording.specs.Relation.{up_from}

pub up_from-length : (n k : ℕ) → length (up_from n k) ≡ k
up_from-length n zero = refl
up_from-length n (suc k) = ap suc (up_from-length (suc n) k)

pub up_from-take : (first k n : ℕ) → k ≤ n → take k (up_from first n) ≡ up_from first k
up_from-take first zero n h = refl
up_from-take first (suc k) zero h = absurd (omega arith)
up_from-take first (suc k) (suc n) h = ap (λ (l : List ℕ). first ∷ l) (up_from-take (suc first) k n (omega arith))

-- the list with the wire n + i at each place i is that of the wires from n on
pub up_from-each : (n k : ℕ) (ys : List ℕ) → length ys ≡ k → ((i : ℕ) → i < k → get_or ys i 0 ≡ n + i) → ys ≡ up_from n k
up_from-each n zero [] l f = refl
up_from-each n zero (y ∷ ys) l f = absurd (omega arith)
up_from-each n (suc k) [] l f = absurd (omega arith)
up_from-each n (suc k) (y ∷ ys) l f =
    let e : y ≡ n = f 0 (omega arith) ∙ omega arith in
    let r = up_from-each (suc n) k ys (omega arith) (λ i h. f (suc i) (omega arith) ∙ omega arith) in
    ap₂ (λ (a : ℕ) (l : List ℕ). a ∷ l) e r

-- ---- what is left to write: n - i wires, from first + i on, at place i
unfoldable pub left : List ℕ → (first n i : ℕ) → List ℕ
left out first n i = sets out i (up_from (first + i) (n - i))

pub left_one : (out : List ℕ) (first n i : ℕ) → i < n → left (set out i (first + i)) first n (i + 1) ≡ left out first n i
unfolding left
left_one out first n i h =
    let a : i + 1 ≡ suc i = omega arith in
    let f : first + (i + 1) ≡ suc (first + i) = omega arith in
    let k : n - i ≡ suc (n - (i + 1)) = omega arith in
    rw (f, k, a)
