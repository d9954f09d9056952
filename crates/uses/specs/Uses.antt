-- Use counts (document 02, R-6): over a store of len slots, for each slot how many query cells name its wire, and the
-- stray count, of the cells that name wires beyond the store. Assumes nothing.
use Rattle.std.specs.Prelude.{ℕ, zero, suc, ◌+◌, ◌-◌, ◌≡◌, Bool, true, false, ◌&&◌, List, [], ◌∷◌, eqb, ltb, leb, length, get_or, set, Result, Ok}
use Rattle.std.specs.Result.{result_and}
use Rattle.limits.specs.Numbers.{max_count}
use Rattle.limits.specs.Outcome.{Outcome, outcome_of, is_accepted}
use Rattle.limits.specs.Questions.{pick, Question, question, first_no}
use Rattle.limits.specs.declared.Refused.{Refused}

-- ---- worked out afresh
-- how many of the cells name a wire
unfoldable pub times : List ℕ → ℕ → ℕ
times [] x = 0
times (y ∷ cells) x = pick (eqb x y) 1 0 + times cells x

-- how many of them name wires beyond a store of len slots
unfoldable pub strays : ℕ → List ℕ → ℕ
strays len [] = 0
strays len (y ∷ cells) = pick (ltb y len) 0 1 + strays len cells

-- the counts of the n wires from i on
abbrev pub uses_from : (i n : ℕ) → List ℕ → List ℕ
uses_from i zero cells = []
uses_from i (suc n) cells = times cells i ∷ uses_from (suc i) n cells

-- the use store of these cells
unfoldable pub uses_of : ℕ → List ℕ → List ℕ
uses_of len cells = uses_from 0 len cells

-- use store and stray count are right for these cells
pub record UseCounts (len : ℕ) (cells uses : List ℕ) (stray : ℕ) : Type 0 where
  pub uses-are : uses ≡ uses_of len cells
  pub stray-is : stray ≡ strays len cells

-- the sum of the counts in a store
abbrev pub sum : List ℕ → ℕ
sum [] = 0
sum (n ∷ uses) = n + sum uses

-- ---- a query's cells struck from the counts (true), or joined to them (false)
-- a count with k cells struck or joined
abbrev pub count_after : Bool → (n k : ℕ) → ℕ
count_after true n k = n - k
count_after false n k = n + k

-- the use store afterwards, cell by cell; a cell beyond the store is not counted in it
unfoldable pub uses_after : Bool → (uses cells : List ℕ) → List ℕ
uses_after strike uses [] = uses
uses_after strike uses (x ∷ cells) = uses_after strike (set uses x (count_after strike (get_or uses x 0) 1)) cells

-- the stray count afterwards
abbrev pub stray_after : Bool → (len stray : ℕ) → (cells : List ℕ) → ℕ
stray_after strike len stray cells = count_after strike stray (strays len cells)

-- ---- 11: would each count that is changed be from 0 to 2^30?
-- a count of n, changed by k cells
abbrev pub count_fits : Bool → (n k : ℕ) → Bool
count_fits true n k = leb k n && leb (n - k) max_count
count_fits false n k = leb (n + k) max_count

-- the count of a cell's wire after all cells of its query: its use count, or the stray count. Where the use store is too
-- short to have it there is no count to ask of, and 10 says no
abbrev pub cell_fits : Bool → (len : ℕ) → (uses : List ℕ) → (stray : ℕ) → (cells : List ℕ) → ℕ → Bool
cell_fits strike len uses stray cells x =
    pick (ltb x len) (pick (ltb x (length uses)) (count_fits strike (get_or uses x 0) (times cells x)) true)
    (count_fits strike stray (strays len cells))

-- of each of these cells
unfoldable pub all_fit : Bool → (len : ℕ) → (uses : List ℕ) → (stray : ℕ) → (cells these : List ℕ) → Bool
all_fit strike len uses stray cells [] = true
all_fit strike len uses stray cells (x ∷ these) = cell_fits strike len uses stray cells x && all_fit strike len uses stray cells these

-- of every cell of a query
abbrev pub uses_fit : Bool → (len : ℕ) → (uses : List ℕ) → (stray : ℕ) → (cells : List ℕ) → Bool
uses_fit strike len uses stray cells = all_fit strike len uses stray cells cells

-- 10: has the use store a word per slot?
abbrev pub length_asks : (len uses : ℕ) → List Question
length_asks len uses = question 10 (eqb uses len) ∷ []

-- 11, 10
abbrev pub uses_asks : Bool → (len : ℕ) → (uses : List ℕ) → (stray : ℕ) → (cells : List ℕ) → List Question
uses_asks strike len uses stray cells = question 11 (uses_fit strike len uses stray cells) ∷ length_asks len (length uses)

-- what `count_cells` ensures: the first no of 11, 10 and what is asked after them, else the stray count afterwards; the
-- counts with the cells struck or joined where it is accepted, else as they were
pub record CountsCells (strike : Bool) (len : ℕ) (uses : List ℕ) (stray : ℕ) (cells : List ℕ) (rest : Outcome) (r : Result ℕ Refused) (left : List ℕ) : Type 0 where
  pub answer : r ≡ result_and (outcome_of (first_no (uses_asks strike len uses stray cells))) (result_and rest (Ok (stray_after strike len stray cells)))
  pub uses-are : left ≡ pick (is_accepted r) (uses_after strike uses cells) uses
