-- Laws of the steps: what is left of a step is below half of one, or not. Assumes nothing.
use Prim.Native.Nat.{ℕ, ◌+◌, ◌/◌, ◌%◌, ◌≤◌, ◌<◌}
use mathlib.Core.Path.{◌≡◌}
use native.Mathlib.Omega.{arith}
use borrow.Author.Tests.{le-leb, lt-leb}
use Rattle.ticket.specs.Steps.{grams_to_steps}

pub below_half : (grams : ℕ) → grams % 50 < 25 → grams / 50 ≡ grams_to_steps grams
unfolding grams_to_steps
below_half grams h = simp (lt-leb 25 (grams % 50) h) (omega arith)

pub half-or-more : (grams : ℕ) → 25 ≤ grams % 50 → grams / 50 + 1 ≡ grams_to_steps grams
unfolding grams_to_steps
half-or-more grams h = simp (le-leb 25 (grams % 50) h)
