-- A matrix with the words of each column side by side, as the code multiplies by it. Private contracts alone
-- cite this. Assumes nothing.
use Rattle.std.specs.Prelude.{ℕ, zero, suc, ◌+◌, ◌*◌, List, [], ◌∷◌, get_or}

-- n words, the first at `at` and each w after the one before
unfoldable pub strided : ℕ → ℕ → ℕ → List ℕ → List ℕ
strided w zero at words = []
strided w (suc n) at words = get_or words at 0 ∷ strided w n (at + w) words

-- n rows from row i on, of w words each, where w columns of w words lie one after the other
unfoldable pub turned_rows : ℕ → ℕ → ℕ → List ℕ → List (List ℕ)
turned_rows w zero i words = []
turned_rows w (suc n) i words = strided w w i words ∷ turned_rows w n (suc i) words

-- the sum of four products: word i of each of four columns, which start at 0, step, 2·step and 3·step
unfoldable pub four : List ℕ → ℕ → ℕ → ℕ → ℕ → ℕ → ℕ → ℕ
four words step a b c d i =
    get_or words i 0 * a + get_or words (step + i) 0 * b + get_or words (step * 2 + i) 0 * c + get_or words (step * 3 + i) 0 * d

-- ---- sums in two parts
-- 2^32: what of a sum lies below it is the low part, and how often it lies in the sum the high part
abbrev pub half : ℕ
half = 4294967296

-- what 2^32 leaves modulo p
abbrev pub half_leaves : ℕ
half_leaves = 268435454

-- 2^64: no u64 reaches it
abbrev pub wide_end : ℕ
wide_end = 18446744073709551616

-- 2^63: up to it a part has room for one of four products more
abbrev pub part_most : ℕ
part_most = 9223372036854775808
