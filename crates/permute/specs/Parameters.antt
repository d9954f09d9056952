-- Parameters as words, question 17, and the two questions that other calls put to them: what a state is
-- turned into, and whether a step is an evaluation; and how many steps of a trace are. Assumes nothing.
use Rattle.std.specs.Prelude.{ℕ, zero, suc, ◌+◌, ◌*◌, Bool, true, false, ◌&&◌, List, [], ◌∷◌, ◌++◌, leb, ltb, eqb, length, get_or, take, drop}
use Rattle.limits.specs.Asks.{width_asks, store_asks}
use Rattle.limits.specs.Questions.{Question, question, first_no, on_yes, pick}
use Rattle.baby_bear.specs.Field.{are_units}
use Rattle.permute.specs.Permute.{Round, round_of, Parameters, permute}

-- n rounds in words, each a kind and then w constants
unfoldable pub rounds_of : ℕ → ℕ → List ℕ → List Round
rounds_of w zero words = []
rounds_of w (suc n) words = round_of (get_or words 0 0) (take w (drop 1 words)) ∷ rounds_of w n (drop (suc w) words)

-- n rows of w words
unfoldable pub rows_of : ℕ → ℕ → List ℕ → List (List ℕ)
rows_of w zero words = []
rows_of w (suc n) words = take w words ∷ rows_of w n (drop w words)

-- the rounds, and after them the matrix
abbrev pub parameters_of : ℕ → ℕ → List ℕ → Parameters
parameters_of w rounds words = record {
  rounds = rounds_of w rounds words;
  matrix = rows_of w w (drop (rounds * (w + 1)) words);
}

-- ---- question 17
-- "R rounds, 0 to 128"
abbrev pub max_rounds : ℕ
max_rounds = 128

-- is every kind 0 or 1?
unfoldable pub sound_kinds : List Round → Bool
sound_kinds [] = true
sound_kinds (r ∷ rs) = ltb r.kind 2 && sound_kinds rs

-- is every constant a unit?
unfoldable pub unit_constants : List Round → Bool
unit_constants [] = true
unit_constants (r ∷ rs) = are_units r.constants && unit_constants rs

-- is every word of the rows a unit?
unfoldable pub unit_rows : List (List ℕ) → Bool
unit_rows [] = true
unit_rows (row ∷ m) = are_units row && unit_rows m

-- 17 "has the sheet R ≤ 128, exactly R(w+1)+w·w words, kinds 0 or 1, units below p?"
unfoldable pub sound_parameters : ℕ → ℕ → List ℕ → Bool
sound_parameters w rounds words =
    leb rounds max_rounds
    && (eqb (length words) (rounds * (w + 1) + w * w)
    && (sound_kinds (rounds_of w rounds words)
    && (unit_constants (rounds_of w rounds words) && unit_rows (rows_of w w (drop (rounds * (w + 1)) words)))))

-- ---- a state turned in place
-- the questions 1, 2, 9, 4 and 17, put to a state and parameters that are handed in
abbrev pub permute_asks : ℕ → ℕ → List ℕ → List ℕ → List Question
permute_asks w rounds words x =
    width_asks w
    ++ store_asks (length words)
    ++ store_asks (length x)
    ++ question 9 (eqb (length x) w)
    ∷ question 4 (are_units x)
    ∷ question 17 (sound_parameters w rounds words)
    ∷ []

-- the number: the first no of these
unfoldable pub permute_no : ℕ → ℕ → List ℕ → List ℕ → ℕ
permute_no w rounds words x = first_no (permute_asks w rounds words x)

-- what the state holds afterwards: a refusal changes nothing
unfoldable pub permuted : ℕ → ℕ → List ℕ → List ℕ → List ℕ
permuted w rounds words x = on_yes (permute_no w rounds words x) (permute (parameters_of w rounds words) x) x

-- ---- a step
-- have two lists the same words?
unfoldable pub same_words : List ℕ → List ℕ → Bool
same_words [] [] = true
same_words [] (b ∷ y) = false
same_words (a ∷ x) [] = false
same_words (a ∷ x) (b ∷ y) = eqb a b && same_words x y

-- "a step is an evaluation if the sheet turns its first w units into its last w"
unfoldable pub is_evaluation : ℕ → ℕ → List ℕ → List ℕ → Bool
is_evaluation w rounds words step =
    eqb (permute_no w rounds words (take w step)) 0
    && same_words (permute (parameters_of w rounds words) (take w step)) (drop w step)

-- how many steps at the front have a property, up to the first that has it not
unfoldable pub leading : (List ℕ → Bool) → List (List ℕ) → ℕ
leading evaluation [] = 0
leading evaluation (s ∷ steps) = pick (evaluation s) (suc (leading evaluation steps)) 0
