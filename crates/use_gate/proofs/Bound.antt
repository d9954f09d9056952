-- 13 by counts where there are none from the wire count on. Assumes nothing.
use Prim.Native.Nat.{ℕ, ◌≤◌}
use mathlib.Core.Path.{◌≡◌}
use mathlib.Core.Bool.{true}
use mathlib.Core.List.{List}
use borrow.Author.Tests.{eq-eqb}
use lib.ListN.{length, drop_of_length-le}
use Rattle.words.specs.Store.{all_below}
use Rattle.use_gate.specs.UseGate.{uses_below}

module _ (vars : ℕ) (uses : List ℕ) (stray : ℕ) where
  pub below_none : stray ≡ 0 → length uses ≤ vars → true ≡ uses_below vars uses stray
  unfolding all_below
  below_none z h = rw (eq-eqb stray 0 z, drop_of_length-le uses h)
