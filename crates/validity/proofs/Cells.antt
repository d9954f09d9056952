-- The loop over the cells of a step: what is left of them, put to the words as they are, comes to the whole.
-- Assumes nothing.
use Prim.Native.Nat.{ℕ, suc, ◌+◌, ◌≤◌, ◌<◌}
use mathlib.Core.Path.{◌≡◌, ap, ◌∙◌}
use mathlib.Core.Bool.{true, false}
use mathlib.Core.List.{List, ◌∷◌}
use native.Mathlib.Omega.{arith}
use native.Mathlib.Numerals.{add-one}
use borrow.Author.Tests.{lt-ltb, le-ltb}
use lib.Dec.{lit<}
use lib.ListN.{length, get_or, drop, set, length-set}
use lib.Seq.{drop-cons}
use Rattle.std.specs.Prelude.{Err}
use Rattle.limits.specs.Outcome.{refusal}
use Rattle.limits.specs.Numbers.{prime}
use Rattle.limits.specs.Questions.{ask, first_of_two}
use Rattle.limits.proofs.Below.{below-get_or}
use Rattle.words.specs.Store.{all_below}
use Rattle.allocator.specs.Slots.{Pair, pair, pairs}
use Rattle.allocator.specs.Values.{Values, put_all, fits}
use Rattle.validity.specs.Check.{cells_no}
use Rattle.validity.specs.Scratch.{entry, value_at, CellsPut}
use Rattle.validity.proofs.Scratch.{put-entry, put-units, Walking, stopped}

-- the cells ps of all, put to the words t
abbrev Rest : (t₀ : List ℕ) (all : List Pair) (t : List ℕ) (ps : List Pair) → Type 0
Rest t₀ all t ps =
    Walking (length t₀) (cells_no (length t₀) (value_at t₀) all) (put_all (value_at t₀) all) (cells_no (length t₀) (value_at t) ps) (put_all (value_at t) ps) t

-- what is left of the walk over cells from the i-th on, which began with the words t₀
pub record CellsLeft (t₀ xs vs t : List ℕ) (i : ℕ) : Type 0 where
  pub same : length xs ≡ length vs
  pub values : all_below prime vs ≡ true
  pub rest : Rest t₀ (pairs xs vs) t (pairs (drop i xs) (drop i vs))

module _ {t₀ xs vs t : List ℕ} {i : ℕ} (w : CellsLeft t₀ xs vs t i) where
  pub cell_below : get_or vs i 0 < prime
  cell_below = below-get_or prime vs i (lit< tt) w.values

  module _ (h : i < length xs) where
    at-cell : Rest t₀ (pairs xs vs) t (pair (get_or xs i 0) (get_or vs i 0) ∷ pairs (drop (i + 1) xs) (drop (i + 1) vs))
    at-cell =
        let j : i < length vs = omega (arith, w.same) in
        rw add-one (rw (drop-cons xs i 0 h, drop-cons vs i 0 j) at w.rest)

    pub cells-36 : length t ≤ get_or xs i 0 → CellsPut t₀ (pairs xs vs) (Err (refusal 36)) t
    unfolding ask first_of_two
    cells-36 x =
        let e : length t₀ ≤ get_or xs i 0 = omega (arith, w.rest.long) in
        stopped at-cell 36 (λ z. absurd (let q : ⊥ = omega arith in q)) (rw (le-ltb (get_or xs i 0) (length t₀) e))

    module _ (x : get_or xs i 0 < length t) where
      in_count : get_or xs i 0 < length t₀
      in_count = omega (arith, w.rest.long)

      pub cells-33 : fits (entry (get_or t (get_or xs i 0) 0)) (get_or vs i 0) ≡ false → CellsPut t₀ (pairs xs vs) (Err (refusal 33)) t
      unfolding ask first_of_two
      cells-33 f =
          stopped at-cell 33 (λ z. absurd (let q : ⊥ = omega arith in q)) (rw (lt-ltb (get_or xs i 0) (length t₀) in_count, f))

      pub cells-turn : fits (entry (get_or t (get_or xs i 0) 0)) (get_or vs i 0) ≡ true
          → CellsLeft t₀ xs vs (set t (get_or xs i 0) (get_or vs i 0 + 1)) (i + 1)
      unfolding ask first_of_two
      cells-turn f =
          let p = pair (get_or xs i 0) (get_or vs i 0) in
          let later = pairs (drop (i + 1) xs) (drop (i + 1) vs) in
          let e = put-entry t p x in
          rw (add-one (get_or vs i 0)) (record {
            same = w.same;
            values = w.values;
            rest =
                record {
                  number = ap (λ (c : Values). cells_no (length t₀) c later) e ∙ (rw (lt-ltb (get_or xs i 0) (length t₀) in_count, f) at at-cell.number);
                  values = ap (λ (c : Values). put_all c later) e ∙ at-cell.values;
                  long = length-set t (get_or xs i 0) (suc (get_or vs i 0)) ∙ w.rest.long;
                  units = put-units t (get_or xs i 0) (get_or vs i 0) cell_below w.rest.units;
                };
          })
