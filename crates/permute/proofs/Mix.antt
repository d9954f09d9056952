-- What a round does before the matrix, and the same with other maps: one turn of each loop.
-- Assumes nothing.
use Prim.Native.Nat.{ℕ, zero, suc, ◌+◌, ◌≤◌, ◌<◌}
use mathlib.Core.Path.{◌≡◌, refl}
use mathlib.Core.List.{List, [], ◌∷◌, ◌++◌, map}
use native.Mathlib.Omega.{arith}
use native.Mathlib.Numerals.{add-one}
use lib.ListN.{length, get_or, take, drop, set, drop_of_length-le}
use lib.Seq.{drop-cons, drop-set-lt}
use Rattle.permute.specs.Permute.{pairwise, on_kind}
use Rattle.permute.proofs.Fill.{fill-turn, fill_done}

-- ---- two lists, place by place
module _ (f : ℕ → ℕ → ℕ) (cs x out : List ℕ) (i : ℕ) (e : take i out ++ pairwise f (drop i cs) (drop i x) ≡ pairwise f cs x)
    (lo : length out ≡ length x) where
  pub pairwise-turn : (v : ℕ) → i < length x → length cs ≡ length x → v ≡ f (get_or x i 0) (get_or cs i 0)
      → take (i + 1) (set out i v) ++ pairwise f (drop (i + 1) cs) (drop (i + 1) x) ≡ pairwise f cs x
  unfolding pairwise
  pairwise-turn v h lc ev =
      let hc : i < length cs = omega arith in
      fill-turn _ out _ _ i v (omega arith) (rw (ev, add-one, drop-cons x i 0, drop-cons cs i 0)) e

  pub pairwise-done : length x ≤ i → out ≡ pairwise f cs x
  unfolding pairwise
  pairwise-done h = fill_done _ out _ i (omega arith) (rw (drop_of_length-le x h)) e

-- ---- the same written over the second
module _ (f : ℕ → ℕ → ℕ) (s x₀ x : List ℕ) (i : ℕ) (e : take i x ++ pairwise f (drop i s) (drop i x) ≡ pairwise f s x₀) where
  -- one place more is written
  pub over-turn : (v : ℕ) → i < length x → length s ≡ length x → v ≡ f (get_or x i 0) (get_or s i 0)
      → take (i + 1) (set x i v) ++ pairwise f (drop (i + 1) s) (drop (i + 1) (set x i v)) ≡ pairwise f s x₀
  unfolding pairwise
  over-turn v h l ev =
      let hs : i < length s = omega arith in
      rw (drop-set-lt (i + 1) x i v (omega arith)) (fill-turn _ x _ _ i v h (rw (ev, add-one, drop-cons x i 0, drop-cons s i 0)) e)

  -- all of them are
  pub over_done : length x ≤ i → x ≡ pairwise f s x₀
  unfolding pairwise
  over_done h = fill_done _ x _ i h (rw (drop_of_length-le x h)) e

-- ---- one list, in place
module _ (f : ℕ → ℕ) (x₀ x : List ℕ) (i : ℕ) (e : take i x ++ map f (drop i x) ≡ map f x₀) where
  pub map-turn : (v : ℕ) → i < length x → v ≡ f (get_or x i 0)
      → take (i + 1) (set x i v) ++ map f (drop (i + 1) (set x i v)) ≡ map f x₀
  map-turn v h ev =
      rw (drop-set-lt (i + 1) x i v (omega arith)) (fill-turn _ x _ _ i v h (rw (ev, add-one, drop-cons x i 0)) e)

  pub map-done : length x ≤ i → x ≡ map f x₀
  map-done h = fill_done _ x _ i h (rw (drop_of_length-le x h)) e

-- ---- by the kind
module _ (f : ℕ → ℕ) where
  pub kind-every : (kind : ℕ) (l out : List ℕ) → kind ≡ 0 → out ≡ map f l → out ≡ on_kind f kind l
  unfolding on_kind
  kind-every zero [] out k e = e
  kind-every zero (a ∷ l) out k e = e
  kind-every (suc kind) l out k e = absurd (omega arith)

  pub kind-first : (kind : ℕ) (l out : List ℕ) → (kind ≡ 0 → ⊥) → out ≡ map f (take 1 l) → out ++ drop 1 l ≡ on_kind f kind l
  unfolding on_kind
  kind-first zero l out k e = absurd (k refl)
  kind-first (suc kind) [] out k e = rw e
  kind-first (suc kind) (a ∷ l) out k e = rw e
