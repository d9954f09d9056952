-- Queries and steps in a store: pieces of 2w words each, one after the other. Assumes nothing.
use Rattle.std.specs.Prelude.{ℕ, zero, suc, ◌+◌, ◌*◌, List, [], ◌∷◌, ◌++◌, eqb, leb, length, take, drop}
use Rattle.limits.specs.Questions.{Question, question}
use Rattle.limits.specs.Asks.{store_asks}
use Rattle.limits.specs.Below.{all_below}

-- the words that n pieces of a width take
abbrev pub words_of : ℕ → ℕ → ℕ
words_of width n = n * (width + width)

-- 2 of a store of pieces: its size, and that n pieces of a width fit it
abbrev pub held_asks : (width n len : ℕ) → List Question
held_asks width n len = store_asks len ++ (question 2 (leb (words_of width n) len) ∷ [])

-- 10: does it hold one piece more?
abbrev pub one_more_asks : (width n len : ℕ) → List Question
one_more_asks width n len = question 10 (leb (words_of width (n + 1)) len) ∷ []

-- one half of a piece, lent as a list: 9, has it w words, then k, is each below the bound?
abbrev pub half_asks : (width k bound : ℕ) → List ℕ → List Question
half_asks width k bound half = question 9 (eqb (length half) width) ∷ question k (all_below bound half) ∷ []

-- both halves: 9 of each, then k of each
abbrev pub halves_asks : (width k bound : ℕ) → List ℕ → List ℕ → List Question
halves_asks width k bound first second =
    question 9 (eqb (length first) width)
    ∷ question 9 (eqb (length second) width)
    ∷ question k (all_below bound first)
    ∷ question k (all_below bound second)
    ∷ []

-- the first n pieces of k words that a store holds
abbrev pub pieces : ℕ → ℕ → List ℕ → List (List ℕ)
pieces k zero s = []
pieces k (suc n) s = take k s ∷ pieces k n (drop k s)

-- the first n queries or steps of a width that a store holds
abbrev pub steps_of : ℕ → ℕ → List ℕ → List (List ℕ)
steps_of width n s = pieces (width + width) n (take (words_of width n) s)

-- pieces one after the other
abbrev pub flat : List (List ℕ) → List ℕ
flat [] = []
flat (q ∷ qs) = q ++ flat qs
