-- Worked examples of use counts (document 02's R-6), as one fact of the definitions: a store of three slots, queries of
-- width 1. Assumes nothing.
use Prim.Native.Nat.{ℕ}
use mathlib.Core.Path.{◌≡◌, refl}
use mathlib.Core.Bool.{true, false}
use mathlib.Core.List.{List, [], ◌∷◌}
use Rattle.limits.specs.Numbers.{unassigned}
use Rattle.limits.specs.Questions.{ask, first_of_two, first_no}
use Rattle.uses.specs.Uses.{times, strays, uses_of, uses_after, stray_after, all_fit, uses_asks}

-- 11 and 10 of a query struck, and joined
abbrev struck : (uses : List ℕ) → (stray : ℕ) → (cells : List ℕ) → ℕ
struck uses stray cells = first_no (uses_asks true 3 uses stray cells)

abbrev joined : (uses : List ℕ) → (stray : ℕ) → (cells : List ℕ) → ℕ
joined uses stray cells = first_no (uses_asks false 3 uses stray cells)

-- wire 1 twice
abbrev twice : List ℕ
twice = 1 ∷ 1 ∷ []

-- wire 1, and one beyond the store
abbrev beyond : List ℕ
beyond = 1 ∷ 3 ∷ []

-- the counts with wire 1 used so often
abbrev one-used : ℕ → List ℕ
one-used n = 0 ∷ n ∷ 0 ∷ []

pub record Examples : Type 0 where
  -- worked out afresh
  pub fresh : uses_of 3 (1 ∷ 3 ∷ 1 ∷ 2 ∷ []) ≡ 0 ∷ 2 ∷ 1 ∷ []
  pub fresh-stray : strays 3 (1 ∷ 3 ∷ 1 ∷ 2 ∷ []) ≡ 1
  -- struck: both cells have to be there
  pub held : struck (one-used 2) 0 twice ≡ 0
  pub held-leaves : uses_after true (one-used 2) twice ≡ one-used 0
  pub low : struck (one-used 1) 0 twice ≡ 11
  -- a store that is too short: 11 where a count that is there is too low, else 10
  pub short : struck (0 ∷ 2 ∷ []) 0 twice ≡ 10
  pub short-low : struck (0 ∷ 1 ∷ []) 0 twice ≡ 11
  pub shorter : struck (0 ∷ []) 0 twice ≡ 10
  -- a store that is too long: a cell beyond the slots is stray all the same
  pub long : struck (0 ∷ 1 ∷ 0 ∷ 0 ∷ []) 1 beyond ≡ 10
  pub long-stray : struck (0 ∷ 1 ∷ 0 ∷ 1 ∷ []) 0 beyond ≡ 11
  -- joined: up to 2^30, counted for all cells of the query
  pub last : joined (one-used 1073741823) 0 (1 ∷ 2 ∷ []) ≡ 0
  pub last-leaves : uses_after false (one-used 1073741823) (1 ∷ 2 ∷ []) ≡ 0 ∷ 1073741824 ∷ 1 ∷ []
  pub full : joined (one-used 1073741823) 0 twice ≡ 11
  -- a count above 2^30 that is struck down to it passes, one that stays above does not; one that no cell names is not asked
  pub down : struck (0 ∷ 1073741825 ∷ 1 ∷ []) 0 (1 ∷ 2 ∷ []) ≡ 0
  pub above : struck (0 ∷ 1073741826 ∷ 1 ∷ []) 0 (1 ∷ 2 ∷ []) ≡ 11
  pub untouched : struck (unassigned ∷ 1 ∷ 1 ∷ []) 0 (1 ∷ 2 ∷ []) ≡ 0
  -- the stray count is asked only where a cell is stray
  pub absurd-stray : struck (one-used 2) unassigned twice ≡ 0
  pub stray-there : struck (one-used 1) 1 beyond ≡ 0
  pub stray-leaves : stray_after true 3 1 beyond ≡ 0
  pub stray-counts : uses_after true (one-used 1) beyond ≡ one-used 0
  pub stray-low : struck (one-used 1) 0 beyond ≡ 11
  pub stray-full : joined (one-used 1) 1073741824 beyond ≡ 11
  -- and up to 2^30 as any other: joined up to it, struck down to it, but not where it stays above
  pub stray-last : joined (one-used 1) 1073741823 beyond ≡ 0
  pub stray-joins : stray_after false 3 1 beyond ≡ 2
  pub stray-down : struck (one-used 1) 1073741825 beyond ≡ 0
  pub stray-above : struck (one-used 1) 1073741826 beyond ≡ 11

pub examples : Examples
unfolding ask first_of_two times strays uses_of uses_after all_fit
examples =
    record {
      fresh = refl;
      fresh-stray = refl;
      held = refl;
      held-leaves = refl;
      low = refl;
      short = refl;
      short-low = refl;
      shorter = refl;
      long = refl;
      long-stray = refl;
      last = refl;
      last-leaves = refl;
      full = refl;
      down = refl;
      above = refl;
      untouched = refl;
      absurd-stray = refl;
      stray-there = refl;
      stray-leaves = refl;
      stray-counts = refl;
      stray-low = refl;
      stray-full = refl;
      stray-last = refl;
      stray-joins = refl;
      stray-down = refl;
      stray-above = refl;
    }
