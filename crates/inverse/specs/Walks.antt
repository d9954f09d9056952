-- What the walks of the way back ask of the words that they are lent. Private contracts alone cite this. Assumes
-- nothing.
use Rattle.std.specs.Prelude.{ℕ, ◌*◌, ◌≤◌, ◌≡◌, true, List, length}
use Rattle.limits.specs.Numbers.{max_width}
use Rattle.baby_bear.specs.Field.{are_units}

-- a row and a state of as many units
pub record RowAsked (row x : List ℕ) : Type 0 where
  pub row-units : are_units row ≡ true
  pub units : are_units x ≡ true
  pub row-long : length row ≡ length x
  pub wide : length x ≤ max_width

-- a matrix and a state of as many units as it has rows, and room for their product
pub record RowsAsked (matrix x out : List ℕ) : Type 0 where
  pub matrix-units : are_units matrix ≡ true
  pub units : are_units x ≡ true
  pub square : length matrix ≡ length x * length x
  pub room : length out ≡ length x
  pub wide : length x ≤ max_width
