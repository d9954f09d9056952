-- Document 01's batch examples of the check (those with *), as one fact of the definitions.
-- Assumes nothing.
use Prim.Native.Nat.{ℕ}
use mathlib.Core.Path.{◌≡◌, refl}
use mathlib.Core.List.{List, [], ◌∷◌}
use Rattle.std.specs.Prelude.{Err, Ok}
use Rattle.limits.specs.Outcome.{Outcome, refusal}
use Rattle.limits.specs.Questions.{ask, first_of_two}
use Rattle.words.specs.Store.{all_below}
use Rattle.baby_bear.specs.Field.{add_unit, mul_unit, power_unit, seventh, dot_units}
use Rattle.utf8.specs.Utf8.{is_utf8, follow}
use Rattle.expr.specs.Equation.{equation_at, size_at}
use Rattle.permute.specs.Permute.{pairwise, on_kind, times_matrix, run_round, run_rounds}
use Rattle.permute.specs.Parameters.{rounds_of, rows_of, sound_kinds, unit_constants, unit_rows, sound_parameters, permute_no, same_words, is_evaluation}
use Rattle.instance.specs.Parts.{parts_of}
use Rattle.held.specs.Held.{equations_sound, publics_sound}
use Rattle.instance.specs.declared.PermutationInstance.{PermutationInstance}
use Rattle.validity.specs.Check.{check_no}
use Rattle.validity.specs.Valid.{is_witness_valid_no, is_witness_valid}

-- an instance of width 1 with one equation
abbrev instance : (vars publics queries words : ℕ) → PermutationInstance
instance vars publics queries words =
    record { width = 1; vars = vars; queries = queries; equations = 1; words = words; publics = publics }

-- the sheet of width 1: one round, kind 0, constant 2013265920, matrix 5
abbrev params : List ℕ
params = 0 ∷ 2013265920 ∷ 5 ∷ []

-- weight 0 on wire 1 of two, which nothing binds
abbrev unbound : Outcome
unbound = is_witness_valid (instance 2 1 0 4) [] (0 ∷ 0 ∷ []) [] (1 ∷ 1 ∷ 0 ∷ 0 ∷ []) 0 [] 1 params 2

-- an equation of no terms
abbrev termless : ℕ → Outcome
termless image = is_witness_valid (instance 1 1 0 2) [] (0 ∷ 0 ∷ []) [] (0 ∷ image ∷ []) 0 [] 1 params 1

-- instance A: 3 wires, publics (0,0) and (2,5), query 1 to 2, equation 3·wire 1 = 6
abbrev instance_a : ℕ → List ℕ → Outcome
instance_a steps trace =
    is_witness_valid (instance 3 2 1 4) [] (0 ∷ 0 ∷ 2 ∷ 5 ∷ []) (1 ∷ 2 ∷ []) (1 ∷ 1 ∷ 3 ∷ 6 ∷ []) steps trace 1 params 3

pub batch-examples : unbound ∷ termless 0 ∷ termless 1 ∷ instance_a 1 (2 ∷ 5 ∷ []) ∷ instance_a 0 [] ∷ instance_a 1 (2 ∷ 6 ∷ []) ∷ instance_a 1 (3 ∷ 640 ∷ []) ∷ []
    ≡ Err (refusal 34) ∷ Ok tt ∷ Err (refusal 35) ∷ Ok tt ∷ Err (refusal 31) ∷ Err (refusal 32) ∷ Err (refusal 33) ∷ []
unfolding ask first_of_two all_below add_unit mul_unit power_unit seventh dot_units is_utf8 follow equation_at size_at pairwise on_kind times_matrix run_round run_rounds rounds_of rows_of sound_kinds unit_constants unit_rows sound_parameters permute_no same_words is_evaluation parts_of equations_sound publics_sound check_no is_witness_valid_no
batch-examples = refl
