-- What a withdrawal can still say no to along a list of calls from an accepted fresh, by a book of the calls and the
-- sizes alone. 1 is never answered there, nor 11 or 10: the counts are those of the book's cells, and the equations end
-- at the used words. Assumes nothing.
use Rattle.std.specs.Prelude.{ℕ, List, [], ◌∷◌, ◌++◌, ltb}
use Rattle.limits.specs.Questions.{Question, question}
use Rattle.limits.specs.Asks.{store_asks}

-- of one of `count` items in a store of len words: 2 of the store's size, 45
abbrev pub withdraw_left : (count len : ℕ) → ℕ → List Question
withdraw_left count len i = store_asks len ++ (question 45 (ltb i count) ∷ [])
