-- A matrix times a state: a row times the state, its sum held as the low and the high 32 bits of its products, and the
-- rows one after the other.
--
-- `RowSum` goes with the loop over a row's words, `Rows` with the one over the rows. Assumes nothing.
use Prim.Native.Nat.{ℕ, ◌+◌, ◌-◌, ◌*◌, ◌/◌, ◌%◌, ◌≤◌, ◌<◌}
use mathlib.Core.Path.{◌≡◌, refl, sym, ap, ◌∙◌}
use mathlib.Core.List.{List, [], ◌∷◌, ◌++◌}
use native.Mathlib.Omega.{arith}
use native.Mathlib.Numerals.{add-one}
use lib.ListN.{length, get_or, take, drop, set, drop_of_length-le}
use lib.Seq.{drop-cons}
use Rattle.limits.specs.Numbers.{prime}
use Rattle.limits.proofs.Below.{below-take, below-drop}
use Rattle.baby_bear.specs.Field.{dot, dot_units}
use Rattle.baby_bear.proofs.Ring.{dot_units-is}
use Rattle.baby_bear.proofs.Units.{units-at}
use Rattle.permute.specs.Permute.{times_matrix}
use Rattle.permute.specs.Parameters.{rows_of}
use Rattle.permute.specs.Columns.{half, half_leaves}
use Rattle.permute.proofs.Fill.{fill-turn, fill_done}
use Rattle.permute.proofs.Columns.{unit-product, dot-turn, dot-end}
use Rattle.permute.proofs.Keeps.{rows_of-length}
use Rattle.permute.proofs.Trace.{lent_length}
use Rattle.matrix_inverse.proofs.Places.{row_room, row-lent}
use Rattle.inverse.specs.Walks.{RowAsked, RowsAsked}

-- ---- a row times the state
-- the products of the first i words are in the sum, and those left make the whole; each product adds at most 2^32 - 1 to
-- the low part and 943718400 to the high part
pub record RowSum (row x : List ℕ) (low high i : ℕ) : Type 0 where
  pub sum : high * half + low + dot (drop i row) (drop i x) ≡ dot row x
  pub low_fits : low ≤ i * 4294967295
  pub high_fits : high ≤ i * 943718400
  pub within : i ≤ length x

module _ {row x : List ℕ} (a : RowAsked row x) where
  -- a product of the row and the state fits
  product-most : (i : ℕ) → get_or row i 0 * get_or x i 0 ≤ 4053239664633446400
  product-most i = unit-product (units-at row a.row-units i) (units-at x a.units i)

  module _ {low high i : ℕ} (s : RowSum row x low high i) where
    -- one word more
    pub sum-turn : (u : ℕ) → u ≡ get_or row i 0 * get_or x i 0 → i < length x
        → RowSum row x (low + u % half) (high + u / half) (i + 1)
    sum-turn u e h =
        record {
          sum = omega (arith, s.sum, dot-turn row x i (i + 1) refl (omega (arith, a.row-long)) h);
          low_fits = omega (arith, s.low_fits);
          high_fits = omega (arith, s.high_fits, product-most i);
          within = omega arith;
        }

    -- all words: one reduction is enough
    pub sum_done : length x ≤ i → (high * half_leaves + low) % prime ≡ dot_units row x
    sum_done h =
        let d : high * half + low ≡ dot row x = omega (arith, s.sum, dot-end row x i (omega (arith, a.row-long))) in
        let f : (high * half_leaves + low) % prime ≡ (high * half + low) % prime = omega arith in
        f ∙ ap (λ (k : ℕ). k % prime) d ∙ sym (dot_units-is row x)

-- ---- the rows
-- i rows are done
abbrev pub Rows : (matrix x out : List ℕ) → ℕ → Type 0
Rows matrix x out i =
    take i out ++ times_matrix (drop i (rows_of (length x) (length x) matrix)) x ≡ times_matrix (rows_of (length x) (length x) matrix) x

module _ {matrix x out₀ : List ℕ} (a : RowsAsked matrix x out₀) where
  -- the width
  abbrev w : ℕ
  w = length x

  -- the rows
  abbrev rows : List (List ℕ)
  rows = rows_of w w matrix

  -- row i and the state may be multiplied
  pub row-asked : (i : ℕ) → i < w → RowAsked (take (i * w + w - i * w) (drop (i * w) matrix)) x
  row-asked i h =
      record {
        row-units = below-take prime (i * w + w - i * w) (drop (i * w) matrix) (below-drop prime (i * w) matrix a.matrix-units);
        units = a.units;
        row-long = lent_length matrix (i * w) w (row_room w w i matrix h a.square);
        wide = a.wide;
      }

  module _ (out : List ℕ) (i : ℕ) (kept : length out ≡ w) (s : Rows matrix x out i) where
    -- one row more
    pub rows-turn : i < w → (v : ℕ) → v ≡ dot_units (take (i * w + w - i * w) (drop (i * w) matrix)) x → Rows matrix x (set out i v) (i + 1)
    unfolding times_matrix
    rows-turn h v e =
        let f : times_matrix (drop i rows) x ≡ v ∷ times_matrix (drop (i + 1) rows) x
        = rw (add-one i, drop-cons rows i [] (omega (arith, rows_of-length w w matrix)), ← row-lent w w i matrix h a.square, e) refl in
        fill-turn _ out _ _ i v (omega arith) f s

    -- all rows
    pub rows-done : w ≤ i → out ≡ times_matrix rows x
    unfolding times_matrix
    rows-done h =
        let k : length rows ≤ i = omega (arith, rows_of-length w w matrix) in
        fill_done _ out _ i (omega arith) (rw (drop_of_length-le rows k)) s
