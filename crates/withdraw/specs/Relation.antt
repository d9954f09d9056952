-- The questions of the calls that withdraw an equation or a query by its number, counted from 0 (document 02, R-6), and
-- the number that each answers. Assumes nothing.
use Rattle.std.specs.Prelude.{ℕ, ◌+◌, true, List, [], ◌∷◌, ◌++◌, ltb, length, take, drop}
use Rattle.limits.specs.Questions.{Question, question, first_no}
use Rattle.words.specs.Pieces.{words_of}
use Rattle.expr.specs.Equation.{ends_right}
use Rattle.uses.specs.Uses.{uses_asks}
use Rattle.permutation.specs.Sharing.{Sharing, alone}
use Rattle.permutation.specs.declared.PermutationRelation.{PermutationRelation}
use Rattle.recording.specs.Relation.{query_front, add_equation_front}

-- ---- an equation
-- 1, 2 as an equation call puts them, 45, is there such a number, and 11, do the equations end at the used words?
abbrev pub withdraw_equation_asks_with : Sharing → PermutationRelation → (equations : List ℕ) → ℕ → List Question
withdraw_equation_asks_with h rel equations i =
    add_equation_front h rel (length equations)
    ++ (question 45 (ltb i rel.equations)
    ∷ question 11 (ends_right rel.equations (take rel.words equations))
    ∷ [])

-- alone: 1, 2, 45, 11
abbrev pub withdraw_equation_asks : PermutationRelation → (equations : List ℕ) → ℕ → List Question
withdraw_equation_asks = withdraw_equation_asks_with alone

-- their first no, or 0
unfoldable pub withdraw_equation_no : PermutationRelation → (equations : List ℕ) → ℕ → ℕ
withdraw_equation_no rel equations i = first_no (withdraw_equation_asks rel equations i)

-- ---- a query
-- the cells of query i
abbrev pub cells_at : PermutationRelation → (queries : List ℕ) → ℕ → List ℕ
cells_at rel queries i = take (rel.width + rel.width) (drop (words_of rel.width i) queries)

-- 1, 2 as record puts them, but for the lists ..
abbrev pub withdraw_query_front : Sharing → PermutationRelation → (slots queries uses : ℕ) → List Question
withdraw_query_front h rel slots queries uses = query_front h rel slots queries uses []

-- .. 45, and 11, 10 of the counts
abbrev pub withdraw_query_asks_with : Sharing → PermutationRelation → (slots : ℕ) → (queries uses : List ℕ) → ℕ → List Question
withdraw_query_asks_with h rel slots queries uses i =
    withdraw_query_front h rel slots (length queries) (length uses)
    ++ (question 45 (ltb i rel.queries) ∷ uses_asks true slots uses rel.stray (cells_at rel queries i))

-- alone: 1, 2, 45, 11, 10
abbrev pub withdraw_query_asks : PermutationRelation → (slots : ℕ) → (queries uses : List ℕ) → ℕ → List Question
withdraw_query_asks = withdraw_query_asks_with alone

-- their first no, or 0
unfoldable pub withdraw_query_no : PermutationRelation → (slots : ℕ) → (queries uses : List ℕ) → ℕ → ℕ
withdraw_query_no rel slots queries uses i = first_no (withdraw_query_asks rel slots queries uses i)
