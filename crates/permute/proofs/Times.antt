-- The matrix times a state, row by row from the sums of its products: one turn of the loop over the rows.
-- Assumes nothing.
use Prim.Native.Nat.{ℕ, suc, ◌+◌, ◌-◌, ◌%◌, ◌≤◌, ◌<◌}
use mathlib.Core.Path.{◌≡◌, sym, ap, ◌∙◌}
use mathlib.Core.List.{List, ◌∷◌, ◌++◌}
use native.Mathlib.Omega.{arith}
use native.Mathlib.Numerals.{add-one}
use lib.ListN.{length, take, set}
use Rattle.limits.specs.Numbers.{prime}
use Rattle.baby_bear.specs.Field.{dot, dot_units}
use Rattle.baby_bear.proofs.Ring.{dot_units-is}
use Rattle.permute.specs.Permute.{times_matrix}
use Rattle.permute.specs.Columns.{strided, turned_rows}
use Rattle.permute.proofs.Fill.{fill-turn, fill_done}

times-row : (x : List ℕ) (w n i v : ℕ) (columns : List ℕ) → v ≡ dot_units (strided w w i columns) x
    → times_matrix (turned_rows w (suc n) i columns) x ≡ v ∷ times_matrix (turned_rows w n (i + 1) columns) x
unfolding times_matrix turned_rows
times-row x w n i v columns e = rw (e, add-one)

-- i rows are done, and those left make the whole with them
module _ (columns x : List ℕ) (w : ℕ) (out : List ℕ) (i : ℕ)
    (e : take i out ++ times_matrix (turned_rows w (w - i) i columns) x ≡ times_matrix (turned_rows w w 0 columns) x) (l : length out ≡ w) where
  pub times-turn : (v s : ℕ) → i < w → v ≡ s % prime → s ≡ dot (strided w w i columns) x
      → take (i + 1) (set out i v) ++ times_matrix (turned_rows w (w - (i + 1)) (i + 1) columns) x ≡ times_matrix (turned_rows w w 0 columns) x
  times-turn v s h ev d =
      let n : w - i ≡ suc (w - (i + 1)) = omega arith in
      let f = ev ∙ ap (λ (k : ℕ). k % prime) d ∙ sym (dot_units-is (strided w w i columns) x) in
      fill-turn _ out _ _ i v (omega arith) (rw n (times-row x w _ i v columns f)) e

  pub times-done : w ≤ i → out ≡ times_matrix (turned_rows w w 0 columns) x
  unfolding times_matrix turned_rows
  times-done h =
      let z : w - i ≡ 0 = omega arith in
      fill_done _ out _ i (omega arith) (rw z) e
