-- What the functions below `count_cells` ensure: a query's cells moved in place, struck (true) or joined (false), and
-- taken back where they may not stay. Assumes nothing.
use Rattle.std.specs.Prelude.{ℕ, ◌-◌, ◌≤◌, ◌<◌, ◌≡◌, Bool, true, false, ◌&&◌, List, [], ◌∷◌, eqb, ltb, leb, length, get_or, set, take}
use Rattle.limits.specs.Numbers.{max_count, word_end}
use Rattle.limits.specs.Questions.{pick}
use Rattle.uses.specs.Uses.{times, count_after, uses_after, count_fits}

-- the cells whose wires are below end
unfoldable pub inside : ℕ → List ℕ → List ℕ
inside end [] = []
inside end (x ∷ cells) = pick (ltb x end) (x ∷ inside end cells) (inside end cells)

-- how many cells a count of n can take: as many as are struck down to 0, or joined up to most
abbrev pub room : Bool → (most n : ℕ) → ℕ
room true most n = n
room false most n = most - n

-- every count has room for its cells
abbrev pub Roomy : Bool → (most : ℕ) → (uses cells : List ℕ) → Type 0
Roomy strike most uses cells = (x : ℕ) → x < length uses → times cells x ≤ room strike most (get_or uses x 0)

-- a wire below end has more cells than its count has room for
pub record Crowded (strike : Bool) (most end : ℕ) (uses cells : List ℕ) : Type 0 where
  pub wire : ℕ
  pub below : wire < end
  pub more : room strike most (get_or uses wire 0) < times cells wire

-- a wire's count with one cell moved, where the wire is below end
abbrev pub cell_moved : Bool → (end : ℕ) → (uses : List ℕ) → ℕ → List ℕ
cell_moved strike end uses x = pick (ltb x end) (set uses x (count_after strike (get_or uses x 0) 1)) uses

-- one cell: moved, or its count has no room and all stays
pub record MovesCell (strike : Bool) (most end : ℕ) (uses : List ℕ) (x : ℕ) (r : Bool) (left : List ℕ) : Type 0 where
  pub left_is : left ≡ pick r (cell_moved strike end uses x) uses
  pub had-room : r ≡ true → x < end → 0 < room strike most (get_or uses x 0)
  pub inside_is : r ≡ false → x < end
  pub had-none : r ≡ false → room strike most (get_or uses x 0) ≡ 0

-- the first r cells are moved, and the next one, if there is one, has no room
pub record Moves (strike : Bool) (most end : ℕ) (uses cells : List ℕ) (r : ℕ) (left : List ℕ) : Type 0 where
  pub within : r ≤ length cells
  pub left_is : left ≡ uses_after strike uses (inside end (take r cells))
  pub had-room : Roomy strike most uses (inside end (take r cells))
  pub stops : r < length cells → Crowded strike most end uses cells

-- every count is a word
abbrev pub Words : List ℕ → Type 0
Words uses = (x : ℕ) → x < length uses → get_or uses x 0 < word_end

-- whatever words the cells were moved from, they are there again
abbrev pub TakesBack : Bool → (end : ℕ) → (moved cells left : List ℕ) → Type 0
TakesBack strike end moved cells left =
    (uses : List ℕ) → Words uses → end ≤ length uses → Roomy strike max_count uses (inside end cells)
    → moved ≡ uses_after strike uses (inside end cells) → left ≡ uses

-- the count of a cell's wire, where that is below end, is at most 2^30
abbrev pub cell_at_most : (end : ℕ) → (uses : List ℕ) → ℕ → Bool
cell_at_most end uses x = pick (ltb x end) (leb (get_or uses x 0) max_count) true

-- of all cells
unfoldable pub all_at_most : (end : ℕ) → (uses cells : List ℕ) → Bool
all_at_most end uses [] = true
all_at_most end uses (x ∷ cells) = cell_at_most end uses x && all_at_most end uses cells

-- the stray count, which is asked only where a cell is stray
abbrev pub stray_fits : Bool → (stray by : ℕ) → Bool
stray_fits strike stray by = pick (eqb by 0) true (count_fits strike stray by)
