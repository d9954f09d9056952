-- Powers of units that undo what 7th powers and products do, and what a prime is. Assumes nothing.
use Rattle.std.specs.Prelude.{ℕ, ◌%◌, ◌<◌, ◌≡◌}
use Rattle.baby_bear.specs.Field.{power_unit}

-- "The 7th power is undone by the power 1725656503"
unfoldable pub seventh_root : ℕ → ℕ
seventh_root a = power_unit a 1725656503

-- what a unit other than 0 has the product 1 with: its power p - 2
unfoldable pub invert_unit : ℕ → ℕ
invert_unit a = power_unit a 2013265919

-- ---- why they do
-- a prime: more than 1, and no number between 1 and itself divides it
pub record Prime (n : ℕ) : Type 0 where
  pub more : 1 < n
  pub only : (d : ℕ) → 1 < d → d < n → n % d ≡ 0 → ⊥
