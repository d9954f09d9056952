-- Permutations computed from the definitions: document 01's worked one, and one of width 2. Assumes nothing.
use Prim.Native.Nat.{ℕ}
use mathlib.Core.Path.{◌≡◌, refl}
use mathlib.Core.Bool.{true, false}
use mathlib.Core.List.{List, [], ◌∷◌}
use Rattle.limits.specs.Below.{all_below}
use Rattle.limits.specs.Questions.{ask, first_of_two}
use Rattle.words.specs.Pieces.{pieces}
use Rattle.baby_bear.specs.Field.{add_unit, mul_unit, power_unit, seventh, dot_units}
use Rattle.permute.specs.Permute.{pairwise, on_kind, times_matrix, run_round, run_rounds, permute}
use Rattle.permute.specs.Parameters.{rounds_of, rows_of, parameters_of, sound_kinds, unit_constants, unit_rows, sound_parameters, permute_no, same_words, is_evaluation, leading}

-- ---- document 01's: w = 1, one round, kind 0, constant 2013265920, matrix 5. 2 gives 5 and 3 gives 640; (2, 5)
-- and (3, 640) are evaluations, (2, 6) is none. Of the steps (2, 5), (2, 6), (3, 640) one is an evaluation up to
-- the first that is none.
abbrev words : List ℕ
words = 0 ∷ 2013265920 ∷ 5 ∷ []

pub worked : (sound_parameters 1 1 words ≡ true)
    × (permute (parameters_of 1 1 words) (2 ∷ []) ≡ 5 ∷ []) × (permute (parameters_of 1 1 words) (3 ∷ []) ≡ 640 ∷ [])
    × (is_evaluation 1 1 words (2 ∷ 5 ∷ []) ≡ true) × (is_evaluation 1 1 words (3 ∷ 640 ∷ []) ≡ true)
    × (is_evaluation 1 1 words (2 ∷ 6 ∷ []) ≡ false)
    × (leading (is_evaluation 1 1 words) (pieces 2 3 (2 ∷ 5 ∷ 2 ∷ 6 ∷ 3 ∷ 640 ∷ [])) ≡ 1)
unfolding ask first_of_two add_unit mul_unit power_unit seventh all_below dot_units pairwise on_kind times_matrix run_round run_rounds rounds_of rows_of sound_kinds unit_constants unit_rows sound_parameters permute_no same_words is_evaluation leading
worked = (refl, refl, refl, refl, refl, refl, refl)

-- ---- w = 2, one round, constants 1 and 2, matrix rows 1 2 and 3 4, input 1 1: rows and columns are told apart, and
-- the two kinds. Kind 1 raises 2 alone, so 128 and 3 go into the matrix, and kind 0 makes them 128 and 2187.
abbrev wide : ℕ → List ℕ
wide kind = kind ∷ 1 ∷ 2 ∷ 1 ∷ 2 ∷ 3 ∷ 4 ∷ []

pub two-wide : (sound_parameters 2 1 (wide 0) ≡ true) × (sound_parameters 2 1 (wide 1) ≡ true)
    × (permute (parameters_of 2 1 (wide 1)) (1 ∷ 1 ∷ []) ≡ 134 ∷ 396 ∷ [])
    × (permute (parameters_of 2 1 (wide 0)) (1 ∷ 1 ∷ []) ≡ 4502 ∷ 9132 ∷ [])
unfolding add_unit mul_unit power_unit seventh all_below dot_units pairwise on_kind times_matrix run_round run_rounds rounds_of rows_of sound_kinds unit_constants unit_rows sound_parameters
two-wide = (refl, refl, refl, refl)
