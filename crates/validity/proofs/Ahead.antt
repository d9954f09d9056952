-- Steps that are evaluated ahead of their cells: how many at the front of those left are known to be
-- evaluations. The number is 0 only where the first is none. Assumes nothing.
use Prim.Native.Nat.{ℕ, zero, suc, ◌+◌, ◌-◌, ◌≤◌, ◌<◌, min}
use mathlib.Core.Path.{◌≡◌, refl, sym, ◌∙◌}
use mathlib.Core.Bool.{Bool, true, false}
use mathlib.Core.List.{List}
use native.Mathlib.Omega.{arith}
use borrow.Author.Tests.{lt-ltb}
use lib.Dec.{ltb}
use lib.ListN.{length, take, drop, length-drop}
use lib.Seq.{take_all}
use Rattle.limits.specs.Questions.{pick, on_yes}
use Rattle.words.specs.Pieces.{pieces}
use Rattle.permute.specs.Parameters.{leading}
use Rattle.permute.proofs.Trace.{pieces-cons}

-- ---- the number as the code finds it
pub ahead-known : (known n : ℕ) → (known ≡ 0 → ⊥) → known ≡ on_yes known n known
ahead-known zero n h = absurd (h refl)
ahead-known (suc known) n h = refl

pub ahead-found : (ev : List ℕ → Bool) (k : ℕ) (trace : List ℕ) (known left m n : ℕ) → known ≡ 0 → m ≡ min left 64
    → n ≡ leading ev (pieces k m trace) → n ≡ on_yes known (leading ev (pieces k (min left 64) trace)) known
ahead-found ev k trace known left m n z e h = rw (z, sym e) h

-- ---- the first step, and those after it
none_first : (b : Bool) (n : ℕ) → pick b (suc n) 0 ≡ 0 → b ≡ false
none_first true n e = absurd (let z : ⊥ = omega arith in z)
none_first false n e = refl

one-first : (b : Bool) (n m : ℕ) → 0 < m → m ≤ pick b (suc n) 0 → (b ≡ true) × (m - 1 ≤ n)
one-first true n m h l = (refl, omega arith)
one-first false n m h l = absurd (let z : ⊥ = omega arith in z)

fewer-first : (b : Bool) (m n : ℕ) → m ≤ n → pick b (suc m) 0 ≤ pick b (suc n) 0
fewer-first true m n h = omega arith
fewer-first false m n h = omega arith

-- among fewer steps there are not more
fewer : (ev : List ℕ → Bool) (k m n : ℕ) (s : List ℕ) → m ≤ n → leading ev (pieces k m s) ≤ leading ev (pieces k n s)
unfolding leading
fewer ev k zero n s h = omega arith
fewer ev k (suc m) zero s h = absurd (let z : ⊥ = omega arith in z)
fewer ev k (suc m) (suc n) s h = fewer-first (ev (take k s)) _ _ (fewer ev k m n (drop k s) (omega arith))

-- ---- one turn: `known` are known before it, and n then
module _ (ev : List ℕ → Bool) (k : ℕ) (trace : List ℕ) (at left known : ℕ) (h : 0 < left)
    (i : known ≤ leading ev (pieces k left (drop at trace))) (n : ℕ)
    (e : n ≡ on_yes known (leading ev (pieces k (min left 64) (take (length trace - at) (drop at trace)))) known) where
  rest-is : take (length trace - at) (drop at trace) ≡ drop at trace
  rest-is = take_all (length trace - at) (drop at trace) (simp length-drop (omega arith))

  number_is : n ≡ on_yes known (leading ev (pieces k (min left 64) (drop at trace))) known
  number_is = rw rest-is at e

  none-known : n ≡ 0 → leading ev (pieces k (min left 64) (drop at trace)) ≡ 0
  none-known z = go known number_is
    where
      go : (m : ℕ) → n ≡ on_yes m (leading ev (pieces k (min left 64) (drop at trace))) m → leading ev (pieces k (min left 64) (drop at trace)) ≡ 0
      go zero y = sym y ∙ z
      go (suc m) y = absurd (let x : ⊥ = omega arith in x)

  known-within : n ≤ leading ev (pieces k left (drop at trace))
  known-within = go known number_is i
    where
      go : (m : ℕ) → n ≡ on_yes m (leading ev (pieces k (min left 64) (drop at trace))) m → m ≤ leading ev (pieces k left (drop at trace))
          → n ≤ leading ev (pieces k left (drop at trace))
      go zero y l = rw y (fewer ev k (min left 64) left (drop at trace) (omega arith))
      go (suc m) y l = rw y l

  -- the first step is an evaluation where some are known
  pub first-is : ltb 0 n ≡ ev (take k (drop at trace))
  unfolding leading
  first-is = go n refl
    where
      go : (m : ℕ) → n ≡ m → ltb 0 m ≡ ev (take k (drop at trace))
      go zero z = sym (none_first _ _ (rw (pieces-cons k trace at (min left 64) (omega arith)) at (none-known z)))
      go (suc m) z =
          lt-ltb 0 (suc m) (omega arith)
          ∙ sym (one-first _ _ n (omega (arith, z)) (rw (pieces-cons k trace at left h) at known-within)).0

  pub next_known : 0 < n → n - 1 ≤ leading ev (pieces k (left - 1) (drop (at + k) trace))
  unfolding leading
  next_known z = (one-first (ev (take k (drop at trace))) _ n z (rw (pieces-cons k trace at left h) at known-within)).1
