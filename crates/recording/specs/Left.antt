-- What a call that records can still say no to along a list of calls from an accepted fresh, by a book of the calls
-- and the sizes alone: the wire count n, the queries, the equations, and the stores' lengths. Numbers
-- 1, 2 of the counts and 2 of the slots are never answered there. Assumes nothing.
use Rattle.std.specs.Prelude.{ℕ, ◌+◌, false, List, [], ◌∷◌, ◌++◌, eqb, ltb, leb, length}
use Rattle.limits.specs.Numbers.{prime, max_count}
use Rattle.limits.specs.Questions.{Question, question}
use Rattle.limits.specs.Asks.{store_asks}
use Rattle.words.specs.Store.{all_below}
use Rattle.words.specs.Pieces.{flat, words_of}
use Rattle.uses.specs.Uses.{strays, uses_of, uses_fit}
use Rattle.allocator.specs.Slots.{most_asks, room_asks}
use Rattle.recording.specs.Relation.{up_from}
use Rattle.expr.specs.Equation.{Term, Equation, term_vars, term_weights, equation_size, equations_words}

-- 11 of one query more, by the cells of the queries that there are, and 10, whether the store holds it; 10 of the use
-- store is never answered
abbrev pub join_left : (width slots : ℕ) → (asked : List (List ℕ)) → (len : ℕ) → (cells : List ℕ) → List Question
join_left width slots asked len cells =
    question 11 (uses_fit false slots (uses_of slots (flat asked)) (strays slots (flat asked)) cells)
    ∷ question 10 (leb (words_of width (length asked + 1)) len)
    ∷ []

-- record: 2 of the store's and the lists' sizes, 9, 3, 11, 10
abbrev pub add_permutation_left : (width slots : ℕ) → (asked : List (List ℕ)) → (len : ℕ) → (input output : List ℕ) → List Question
add_permutation_left width slots asked len input output =
    store_asks len
    ++ (store_asks (length input) ++ (store_asks (length output)
    ++ (question 9 (eqb (length input) width)
    ∷ question 9 (eqb (length output) width)
    ∷ question 3 (all_below max_count input)
    ∷ question 3 (all_below max_count output)
    ∷ join_left width slots asked len (input ++ output))))

-- mint: 2 of the store's and the list's size, 9, 3, 5, what is put in between, 6, 11, 10
abbrev pub allocate_permutation_left : List Question → (width n slots : ℕ) → (asked : List (List ℕ)) → (len : ℕ) → (input : List ℕ) → List Question
allocate_permutation_left between width n slots asked len input =
    store_asks len
    ++ (store_asks (length input)
    ++ (question 9 (eqb (length input) width)
    ∷ question 3 (all_below max_count input)
    ∷ (most_asks n width ++ (between ++ (room_asks n slots width ++ join_left width slots asked len (input ++ up_from n width))))))

-- equation: 2 of the store's size, 3, 4, 10
abbrev pub add_equation_left : List Equation → ℕ → List Term → ℕ → List Question
add_equation_left stated len terms image =
    store_asks len
    ++ (question 3 (all_below max_count (term_vars terms))
    ∷ question 4 (all_below prime (term_weights terms))
    ∷ question 4 (ltb image prime)
    ∷ question 10 (leb (length (equations_words stated) + equation_size (length terms)) len)
    ∷ [])
