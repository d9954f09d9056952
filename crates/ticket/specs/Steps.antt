-- Grams as steps (document 02, R-1). Nothing looks into this but the proof of `grams_to_steps` and
-- worked examples. Assumes nothing.
use Rattle.std.specs.Prelude.{ℕ, ◌+◌, ◌/◌, ◌%◌, leb}
use Rattle.limits.specs.Questions.{pick}

-- steps of 50 g, halves up: the whole ones, and one more where half of one or more is left
unfoldable pub grams_to_steps : ℕ → ℕ
grams_to_steps grams = grams / 50 + pick (leb 25 (grams % 50)) 1 0
