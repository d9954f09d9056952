-- What is answered and left by a number k that the code found, which is that of the definition, where it refuses; and what
-- an accepted opening says. Assumes nothing.
use Prim.Native.Nat.{ℕ, zero, suc, ◌≤◌, ◌<◌}
use mathlib.Core.Path.{◌≡◌, refl, ap}
use mathlib.Core.List.{List}
use borrow.Author.Tests.{leb-true, ltb-true}
use Rattle.limits.specs.Questions.{on_yes}
use Rattle.limits.specs.Outcome.{as_is}
use Rattle.limits.proofs.Questions.{puts-yes}
use Rattle.sharing.specs.Shares.{max_relations}
use Rattle.sharing.specs.Opening.{with_allocator_asks, with_allocator_no}
use Rattle.sharing.specs.Answers.{DoesAll}
use Rattle.sharing.specs.declared.VarAllocator.{VarAllocator}
use Rattle.sharing.proofs.Numbers.{puts-in}

-- ---- a call that its front refuses
-- refused with the number k, or as it was
pub refused-by : {A : Type 0} (f : ℕ → A) (new : A) (n k : ℕ) → k ≡ n → (k ≡ 0 → ⊥) → f k ≡ on_yes n new (f n)
refused-by f new n zero e h = absurd (h refl)
refused-by {A} f new n (suc k) e h = ap (λ (j : ℕ). on_yes {A = A} j new (f j)) e

-- the same of answer and stores together
pub all-refused : {A : Type 0} (n k : ℕ) → k ≡ n → (k ≡ 0 → ⊥) → (f : ℕ → A) (new : A) (s t u v x y : List ℕ)
    → DoesAll as_is (on_yes n new (f n)) (on_yes n t s) (on_yes n v u) (on_yes n y x) (f k) s u x
all-refused n k e h f new s t u v x y =
    record {
      answers = refused-by f new n k e h;
      leaves = refused-by (λ j. s) t n k e h;
      leaves-too = refused-by (λ j. u) v n k e h;
      leaves_last = refused-by (λ j. x) y n k e h;
    }

-- ---- an opening
-- the store has a slot, and there is a number left
pub record CanOpen (a : VarAllocator) (len : ℕ) : Type 0 where
  pub room : 1 ≤ len
  pub left : a.opened < max_relations

pub opens-yes : (a : VarAllocator) (width len uses : ℕ) → with_allocator_no a width len uses ≡ 0 → CanOpen a len
unfolding with_allocator_no
opens-yes a width len uses e =
    let says = puts-yes (with_allocator_asks a width len uses) e in
    record {
      room = leb-true _ _ (says 6 _ tt (search puts-in depth 20));
      left = ltb-true _ _ (says 42 _ tt (search puts-in depth 20));
    }
