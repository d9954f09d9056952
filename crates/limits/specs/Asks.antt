-- The questions that most calls begin with. Assumes nothing.
use Rattle.std.specs.Prelude.{ℕ, List, [], ◌∷◌, leb}
use Rattle.limits.specs.Numbers.{max_count, max_width}
use Rattle.limits.specs.Questions.{Question, question}

-- 1: is the width from 1 to 24?
abbrev pub width_asks : ℕ → List Question
width_asks width = question 1 (leb 1 width) ∷ question 1 (leb width max_width) ∷ []

-- 2: has a lent word store of that length at most 2^30 words?
abbrev pub store_asks : ℕ → List Question
store_asks len = question 2 (leb len max_count) ∷ []

-- 2: has a relation 1 to 2^30 wires?
abbrev pub count_asks : ℕ → List Question
count_asks count = question 2 (leb 1 count) ∷ question 2 (leb count max_count) ∷ []
