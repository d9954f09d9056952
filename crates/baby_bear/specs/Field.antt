-- Arithmetic of units (document 01: "a unit is a u32 below p, added and multiplied modulo p"), on any
-- numbers: each counts as what it leaves modulo p. Assumes nothing.
use Rattle.std.specs.Prelude.{ℕ, zero, suc, ◌+◌, ◌*◌, ◌%◌, Bool, List, [], ◌∷◌}
use Rattle.limits.specs.Numbers.{prime}
use Rattle.limits.specs.Below.{all_below}

-- the sum modulo p
unfoldable pub add_unit : ℕ → ℕ → ℕ
add_unit a b = (a + b) % prime

-- the product modulo p
unfoldable pub mul_unit : ℕ → ℕ → ℕ
mul_unit a b = a * b % prime

-- is every number of the list a unit?
abbrev pub are_units : List ℕ → Bool
are_units l = all_below prime l

-- a times itself, n times in all
unfoldable pub power_unit : ℕ → ℕ → ℕ
power_unit a zero = 1
power_unit a (suc n) = mul_unit (power_unit a n) a

-- the 7th power
unfoldable pub seventh : ℕ → ℕ
seventh a = power_unit a 7

-- the sum of a list
abbrev pub sum_units : List ℕ → ℕ
sum_units [] = 0
sum_units (a ∷ l) = add_unit a (sum_units l)

-- the products of two lists, place by place, up to the shorter length
abbrev pub product_units : List ℕ → List ℕ → List ℕ
product_units [] x = []
product_units (a ∷ r) [] = []
product_units (a ∷ r) (b ∷ x) = mul_unit a b ∷ product_units r x

-- the sum over j of r[j] times x[j]
unfoldable pub dot_units : List ℕ → List ℕ → ℕ
dot_units r x = sum_units (product_units r x)

-- ---- the same without reducing: the laws in proofs/Ring say that one reduction at the end is enough
-- the sum of a list, in the numbers
unfoldable pub sum : List ℕ → ℕ
sum [] = 0
sum (a ∷ l) = a + sum l

-- the sum over j of r[j] times x[j], up to the shorter length, in the numbers
unfoldable pub dot : List ℕ → List ℕ → ℕ
dot [] x = 0
dot (a ∷ r) [] = 0
dot (a ∷ r) (b ∷ x) = a * b + dot r x
