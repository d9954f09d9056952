-- What the walks of an evaluation ask of the words that they are lent, and what they leave. Private contracts
-- alone cite this. Assumes nothing.
use Rattle.std.specs.Prelude.{ℕ, ◌+◌, ◌*◌, ◌/◌, ◌%◌, ◌≤◌, ◌<◌, ◌≡◌, true, List, length, get_or, drop}
use Rattle.limits.specs.Numbers.{prime, max_width}
use Rattle.baby_bear.specs.Field.{are_units, dot}
use Rattle.permute.specs.Parameters.{rows_of, sound_parameters}
use Rattle.permute.specs.Columns.{strided, turned_rows, half, half_leaves, wide_end, part_most}

-- ---- the matrix turned
-- a matrix of w rows, and room for its columns
pub record MatrixAsked (matrix : List ℕ) (w : ℕ) (columns : List ℕ) : Type 0 where
  pub square : length matrix ≡ w * w
  pub matrix-units : are_units matrix ≡ true
  pub units : are_units columns ≡ true
  pub room : w * w ≤ length columns
  pub wide : w ≤ max_width

-- the columns are units, and have the matrix's rows
pub record Turned (matrix : List ℕ) (w : ℕ) (columns : List ℕ) : Type 0 where
  pub units : are_units columns ≡ true
  pub rows : turned_rows w w 0 columns ≡ rows_of w w matrix

-- column k of it, and room for that from `at` on
pub record ColumnAsked (matrix : List ℕ) (w k at : ℕ) (columns : List ℕ) : Type 0 where
  pub square : length matrix ≡ w * w
  pub matrix-units : are_units matrix ≡ true
  pub units : are_units columns ≡ true
  pub column : k < w
  pub room : at + w ≤ length columns
  pub wide : w ≤ max_width

-- the column is put there, and nothing before it has changed
pub record ColumnPut (matrix : List ℕ) (w k at : ℕ) (columns columns' : List ℕ) : Type 0 where
  pub units : are_units columns' ≡ true
  pub earlier : (i : ℕ) → i < at → get_or columns' i 0 ≡ get_or columns i 0
  pub written : (i : ℕ) → i < w → get_or columns' (at + i) 0 ≡ get_or matrix (k + i * w) 0

-- ---- the matrix times a state
-- columns and a state of as many units
pub record ProductAsked (columns x : List ℕ) : Type 0 where
  pub units : are_units columns ≡ true
  pub state-units : are_units x ≡ true
  pub room : length x * length x ≤ length columns
  pub wide : length x ≤ max_width

-- four columns of n words, and a unit for each
pub record FourAsked (columns : List ℕ) (step a b c d n : ℕ) : Type 0 where
  pub units : are_units columns ≡ true
  pub first : a < prime
  pub second : b < prime
  pub third : c < prime
  pub fourth : d < prime
  pub room : step * 3 + n ≤ length columns

-- w sums in two parts, each with room for more
pub record SumsAsked (w : ℕ) (low high : List ℕ) : Type 0 where
  pub low-room : w ≤ length low
  pub high-room : w ≤ length high
  pub low-most : (i : ℕ) → i < w → get_or low i 0 ≤ part_most
  pub high-most : (i : ℕ) → i < w → get_or high i 0 ≤ part_most

-- u of i is added to sum i, for each of w sums
pub record SumsAdded (u : ℕ → ℕ) (w : ℕ) (low high low' high' : List ℕ) : Type 0 where
  pub low-is : (i : ℕ) → i < w → get_or low' i 0 ≡ get_or low i 0 + u i % half
  pub high_is : (i : ℕ) → i < w → get_or high' i 0 ≡ get_or high i 0 + u i / half

-- sums before anything is added
pub record NoSums (low high : List ℕ) : Type 0 where
  pub low-long : length low ≡ max_width
  pub high-long : length high ≡ max_width
  pub low-zero : (i : ℕ) → get_or low i 0 ≡ 0
  pub high_zero : (i : ℕ) → get_or high i 0 ≡ 0

-- the first j columns are in the sums, and the next one starts at `at`; each column adds at most 2^32 - 1 and
-- 943718400
pub record Summing (columns x : List ℕ) (w : ℕ) (low high : List ℕ) (j at : ℕ) : Type 0 where
  pub sums : (n : ℕ) → n < w
      → get_or high n 0 * half + get_or low n 0 + dot (drop j (strided w w n columns)) (drop j x) ≡ dot (strided w w n columns) x
  pub low_fits : (n : ℕ) → n < w → get_or low n 0 ≤ j * 4294967295
  pub high_fits : (n : ℕ) → n < w → get_or high n 0 ≤ j * 943718400
  pub place : at ≡ j * w
  pub within : j ≤ w
  pub low-kept : length low ≡ max_width
  pub high-kept : length high ≡ max_width

-- all columns are: each sum is that of a row, and can be reduced
pub record Summed (columns x : List ℕ) (w : ℕ) (low high : List ℕ) : Type 0 where
  pub is : (n : ℕ) → n < w → get_or high n 0 * half + get_or low n 0 ≡ dot (strided w w n columns) x
  pub fits : (n : ℕ) → n < w → get_or high n 0 * half_leaves + get_or low n 0 < wide_end

-- ---- rounds
-- constants and a state of as many units, and room for their sums
pub record MixAsked (constants x out : List ℕ) : Type 0 where
  pub constant-units : are_units constants ≡ true
  pub units : are_units x ≡ true
  pub constants-long : length constants ≡ length x
  pub room : length out ≡ length x

-- parameters that 17 lets through for a state's width, which is 1 to 24
pub record Ready (rounds : ℕ) (params state : List ℕ) : Type 0 where
  pub sound : sound_parameters (length state) rounds params ≡ true
  pub some : 0 < length state
  pub most : length state ≤ max_width
