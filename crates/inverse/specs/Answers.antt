-- R-4's call: its questions, its number and what it leaves. Assumes nothing.
use Rattle.std.specs.Prelude.{ℕ, ◌*◌, ◌+◌, ◌≡◌, Bool, ◌||◌, List, [], ◌∷◌, ◌++◌, eqb, length, drop, Ok, Err}
use Rattle.limits.specs.Outcome.{Outcome, refusal}
use Rattle.limits.specs.Asks.{width_asks, store_asks}
use Rattle.limits.specs.Questions.{Question, question, first_no, on_yes}
use Rattle.baby_bear.specs.Field.{are_units}
use Rattle.permute.specs.Parameters.{rows_of, parameters_of, sound_parameters}
use Rattle.matrix_inverse.specs.Inverse.{invert_matrix, is_found}
use Rattle.inverse.specs.Inverse.{OnlyInput, SharedOutput, permute_inverse}

-- 44: no rounds, or a matrix that has an inverse; "one or more rounds and a singular matrix" gets the no
unfoldable pub is_invertible : ℕ → ℕ → List ℕ → Bool
is_invertible w rounds words = eqb rounds 0 || is_found (invert_matrix (rows_of w w (drop (rounds * (w + 1)) words)))

-- the questions 1, 2, 9, 4 and 17, put to the parameters, the output y that is brought, and the list x that is lent for
-- the input
abbrev pub permute_inverse_front : ℕ → ℕ → List ℕ → List ℕ → List ℕ → List Question
permute_inverse_front w rounds words y x =
    width_asks w
    ++ store_asks (length words)
    ++ store_asks (length y)
    ++ store_asks (length x)
    ++ question 9 (eqb (length y) w)
    ∷ question 9 (eqb (length x) w)
    ∷ question 4 (are_units y)
    ∷ question 17 (sound_parameters w rounds words)
    ∷ []

-- and 44
abbrev pub permute_inverse_asks : ℕ → ℕ → List ℕ → List ℕ → List ℕ → List Question
permute_inverse_asks w rounds words y x =
    permute_inverse_front w rounds words y x ++ question 44 (is_invertible w rounds words) ∷ []

-- the number: the first no of these
unfoldable pub permute_inverse_no : ℕ → ℕ → List ℕ → List ℕ → List ℕ → ℕ
permute_inverse_no w rounds words y x = first_no (permute_inverse_asks w rounds words y x)

-- what the list holds afterwards: the input, and after a refusal what it held
unfoldable pub permute_inverted : ℕ → ℕ → List ℕ → List ℕ → List ℕ → List ℕ
permute_inverted w rounds words y x =
    on_yes (permute_inverse_no w rounds words y x) (permute_inverse (parameters_of w rounds words) y) x

-- what the answer and that list say: a yes that the list is the input that gives y, 44 that two inputs share an output
pub record StateBehind (w rounds : ℕ) (words y : List ℕ) (answer : Outcome) (x : List ℕ) : Type 0 where
  pub input : answer ≡ Ok tt → OnlyInput w (parameters_of w rounds words) y x
  pub shared : answer ≡ Err (refusal 44) → SharedOutput w (parameters_of w rounds words)
