-- A cell whose count has no room, and the counts that stay above 2^30. Assumes nothing.
use Prim.Native.Nat.{ℕ, ◌≤◌, ◌<◌}
use mathlib.Core.Path.{◌≡◌, refl, sym, ap, ◌∙◌}
use mathlib.Core.Bool.{Bool, true, false, not, ◌&&◌, and-true, and_assoc}
use mathlib.Core.List.{List, [], ◌∷◌, ◌++◌}
use native.Mathlib.Omega.{arith}
use borrow.Author.Tests.{lt-ltb, le-ltb, eqb-true}
use lib.Dec.{eqb, leb}
use lib.ListN.{get_or}
use Rattle.limits.specs.Numbers.{max_count}
use Rattle.limits.specs.Questions.{pick}
use Rattle.limits.proofs.Below.{both_true}
use Rattle.std.specs.List.{fold}
use Rattle.uses.specs.Moves.{room, MovesCell, cell_at_most, all_at_most}

-- ---- a test turned round
pub not_yes : (b : Bool) → not b ≡ true → b ≡ false
not_yes true e = sym e
not_yes false e = refl

-- ---- two numbers, both 0 or not
pub both_zero : (a b : ℕ) → (eqb a 0 && eqb b 0) ≡ true → (a ≡ 0) × (b ≡ 0)
both_zero a b e = let t = both_true (eqb a 0) (eqb b 0) e in (eqb-true a 0 t.0, eqb-true b 0 t.1)

-- ---- one cell moved
module _ (strike : Bool) (most end : ℕ) (uses : List ℕ) (x : ℕ) where
  pub cell-stuck : x < end → room strike most (get_or uses x 0) ≡ 0 → MovesCell strike most end uses x false uses
  cell-stuck h z = record {
    left_is = refl;
    had-room = λ t l. let y : ◌≡◌ {A = ℕ} 0 1 = cc in omega arith;
    inside_is = λ t. h;
    had-none = λ t. z;
  }

  pub cell_full : strike ≡ false → x < end → most ≤ get_or uses x 0 → MovesCell strike most end uses x false uses
  cell_full e h l = cell-stuck h (rw e (omega arith))

-- ---- the counts that stay above 2^30
module _ (end : ℕ) (uses : List ℕ) where
  pub cell_out : (x : ℕ) → end ≤ x → true ≡ cell_at_most end uses x
  cell_out x h = rw (le-ltb x end h)

  pub cell_in : (x : ℕ) → x < end → leb (get_or uses x 0) max_count ≡ cell_at_most end uses x
  cell_in x h = rw (lt-ltb x end h)

  pub most-folded : (cells : List ℕ) (all : Bool) → fold (λ (b : Bool) (x : ℕ). b && cell_at_most end uses x) all cells ≡ (all && all_at_most end uses cells)
  unfolding all_at_most
  most-folded [] all = sym (and-true all)
  most-folded (x ∷ cells) all = most-folded cells (all && cell_at_most end uses x) ∙ and_assoc all (cell_at_most end uses x) (all_at_most end uses cells)

  pub most-append : (a b : List ℕ) → (all_at_most end uses a && all_at_most end uses b) ≡ all_at_most end uses (a ++ b)
  unfolding all_at_most
  most-append [] b = refl
  most-append (x ∷ a) b =
      and_assoc (cell_at_most end uses x) (all_at_most end uses a) (all_at_most end uses b)
      ∙ ap (λ (t : Bool). cell_at_most end uses x && t) (most-append a b)

  pub both_most : (a b : List ℕ) (p q : Bool) → p ≡ all_at_most end uses a → q ≡ all_at_most end uses b → all_at_most end uses (a ++ b) ≡ (p && q)
  both_most a b p q e f = sym (rw (e, f) (most-append a b))

  -- which only a strike asks
  module _ (a b : List ℕ) (strike : Bool) where
    pub asked-joined : strike ≡ false → true ≡ pick strike (all_at_most end uses (a ++ b)) true
    asked-joined j = rw j

    pub asked-struck : strike ≡ true → (p q : Bool) → p ≡ all_at_most end uses a → q ≡ all_at_most end uses b
        → (p && q) ≡ pick strike (all_at_most end uses (a ++ b)) true
    asked-struck j p q e f = rw j (sym (both_most a b p q e f))
