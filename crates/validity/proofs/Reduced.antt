-- A sum that is reduced only once: it is kept below p·p, where it counts for what it leaves modulo p.
-- Assumes nothing.
use Prim.Native.Nat.{ℕ, ◌+◌, ◌-◌, ◌*◌, ◌%◌, ◌^◌, ◌≤◌, ◌<◌}
use mathlib.Core.Path.{◌≡◌, ◌∙◌}
use native.Mathlib.Omega.{arith}
use native.Mathlib.Nat.{le_of_lt, lt_of_le_of_lt, mul-le-mul_left, mul-lt-mul_of_pos_right}
use lib.Dec.{lit<}
use Rattle.limits.specs.Numbers.{prime}
use Rattle.baby_bear.specs.Field.{add_unit, mul_unit}
use Rattle.validity.specs.Scratch.{Added}

-- the product of two units
product-below : (a b : ℕ) → a < prime → b < prime → a * b < prime * prime
product-below a b ha hb = lt_of_le_of_lt (mul-le-mul_left a (le_of_lt hb)) (mul-lt-mul_of_pos_right ha (lit< tt))

mods : (s x : ℕ) → (s + x) % prime ≡ (s % prime + x % prime) % prime
mods s x = omega arith

less : (s : ℕ) → prime * prime ≤ s → (s - prime * prime) % prime ≡ s % prime
less s h = omega arith

module _ (s a b : ℕ) where
  -- a sum below p·p with a product of units more fits 64 bits, and so does the product
  pub plus-fits : s < prime * prime → a < prime → b < prime → (a * b < 2 ^ 64) × (s + a * b < 2 ^ 64)
  plus-fits h ha hb = let k = product-below a b ha hb in (omega arith, omega arith)

  -- it counts for the sum with the product added
  kept : (s + a * b) % prime ≡ add_unit (s % prime) (mul_unit a b)
  unfolding add_unit mul_unit
  kept = mods s (a * b)

  -- below p·p it is kept as it is
  pub plus-kept : s + a * b < prime * prime → Added s a b (s + a * b)
  plus-kept h = record { below = h; counts = kept }

  -- from p·p on, p·p is taken off
  pub plus-less : s < prime * prime → a < prime → b < prime → prime * prime ≤ s + a * b → Added s a b (s + a * b - prime * prime)
  plus-less h ha hb k =
      let l = product-below a b ha hb in
      record { below = omega arith; counts = less (s + a * b) k ∙ kept }
