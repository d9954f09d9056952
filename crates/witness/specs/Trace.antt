-- The witness builder (the source's `PermutationWitnessBuilder`): a trace is steps of 2w units, inputs then
-- outputs, one after the other in a lent store. Assumes nothing.
use Rattle.std.specs.Prelude.{ℕ, ◌+◌, ◌≡◌, List, [], ◌∷◌, ◌++◌, length}
use Rattle.limits.specs.Numbers.{prime}
use Rattle.limits.specs.Questions.{Question, question, first_no, in_turn, on_yes}
use Rattle.limits.specs.Asks.{width_asks, store_asks}
use Rattle.words.specs.Store.{put_words}
use Rattle.words.specs.Pieces.{words_of, steps_of, held_asks, one_more_asks, half_asks, halves_asks}
use Rattle.limits.specs.Outcome.{Outcome, outcome_of}
use Rattle.permute.specs.Permute.{permute}
use Rattle.permute.specs.Parameters.{parameters_of, sound_parameters}
use Rattle.witness.specs.declared.PermutationWitness.{PermutationWitness}

-- ---- questions, a group to a line
-- 1, and 2 of the trace: its size, and that the steps fit it
abbrev pub trace_asks : PermutationWitness → ℕ → List Question
trace_asks wit len = width_asks wit.width ++ held_asks wit.width wit.steps len

-- 10: does the trace hold one step more?
abbrev pub step_room : PermutationWitness → ℕ → List Question
step_room wit len = one_more_asks wit.width wit.steps len

-- a given step, after those of the trace: 2 (a lent list is a word store too), 9, 4, 10
abbrev pub append_step_groups : PermutationWitness → ℕ → List ℕ → List ℕ → List (List Question)
append_step_groups wit len input output =
    store_asks (length input)
    ∷ store_asks (length output)
    ∷ halves_asks wit.width 4 prime input output
    ∷ step_room wit len
    ∷ []

-- a given step: 1, 2, 9, 4, 10
abbrev pub append_step_asks : PermutationWitness → ℕ → List ℕ → List ℕ → List Question
append_step_asks wit len input output = in_turn (trace_asks wit len ∷ append_step_groups wit len input output)

-- an evaluated step, after those of the trace: 2 of the lists, 9, 4
abbrev pub input_groups : PermutationWitness → List ℕ → List ℕ → List (List Question)
input_groups wit input params =
    store_asks (length input)
    ∷ store_asks (length params)
    ∷ half_asks wit.width 4 prime input
    ∷ []

-- an evaluated step: 1, 2, 9, 4 ..
abbrev pub input_asks : PermutationWitness → ℕ → List ℕ → List ℕ → List Question
input_asks wit len input params = in_turn (trace_asks wit len ∷ input_groups wit input params)

-- .. and then 17, 10
abbrev pub evaluate_step_asks : PermutationWitness → ℕ → List ℕ → ℕ → List ℕ → List Question
evaluate_step_asks wit len input rounds params = in_turn (
    input_asks wit len input params
    ∷ (question 17 (sound_parameters wit.width rounds params) ∷ [])
    ∷ step_room wit len
    ∷ [])

-- each call's number: the first no of its questions
unfoldable pub append_step_no : PermutationWitness → ℕ → List ℕ → List ℕ → ℕ
append_step_no wit len input output = first_no (append_step_asks wit len input output)

-- of an evaluated step, the number before the parameters are looked at
unfoldable pub input_no : PermutationWitness → ℕ → List ℕ → List ℕ → ℕ
input_no wit len input params = first_no (input_asks wit len input params)

-- of an evaluated step, the whole number
unfoldable pub evaluate_step_no : PermutationWitness → ℕ → List ℕ → ℕ → List ℕ → ℕ
evaluate_step_no wit len input rounds params = first_no (evaluate_step_asks wit len input rounds params)

-- ---- what is answered and left: one step more, or everything as it was
-- a call's outcome with the record beside it
pub record Traced : Type 0 where
  pub outcome : Outcome
  pub witness : PermutationWitness

-- of a call that records a step: its answer, and the record afterwards
abbrev pub traced : Outcome → PermutationWitness → Traced
traced outcome wit = record { outcome = outcome; witness = wit }

-- the record with one step more
abbrev pub one_step : PermutationWitness → PermutationWitness
one_step wit = record { width = wit.width; steps = wit.steps + 1 }

-- the answer to a number: accepted with one step more at 0, else refused with the record as it was
abbrev pub traced_of : ℕ → PermutationWitness → Traced
traced_of k wit = record { outcome = outcome_of k; witness = on_yes k (one_step wit) wit }

-- the step stands behind the steps that are there; every other word stays
abbrev pub trace_with : PermutationWitness → List ℕ → List ℕ → List ℕ
trace_with wit step trace = put_words (words_of wit.width wit.steps) step trace

-- a given step: the answer
abbrev pub append_step : PermutationWitness → List ℕ → List ℕ → List ℕ → Traced
append_step wit trace input output = traced_of (append_step_no wit (length trace) input output) wit

-- and the trace: the inputs and outputs appended, or as it was
abbrev pub append_step_trace : PermutationWitness → List ℕ → List ℕ → List ℕ → List ℕ
append_step_trace wit trace input output =
    on_yes (append_step_no wit (length trace) input output) (trace_with wit (input ++ output) trace) trace

-- the inputs, and what the permutation turns them into
abbrev pub evaluated_step : PermutationWitness → List ℕ → ℕ → List ℕ → List ℕ
evaluated_step wit input rounds params = input ++ permute (parameters_of wit.width rounds params) input

-- an evaluated step: the answer
abbrev pub evaluate_step : PermutationWitness → List ℕ → List ℕ → ℕ → List ℕ → Traced
evaluate_step wit trace input rounds params =
    traced_of (evaluate_step_no wit (length trace) input rounds params) wit

-- and the trace: that step appended, or as it was
abbrev pub evaluate_step_trace : PermutationWitness → List ℕ → List ℕ → ℕ → List ℕ → List ℕ
evaluate_step_trace wit trace input rounds params =
    on_yes (evaluate_step_no wit (length trace) input rounds params)
    (trace_with wit (evaluated_step wit input rounds params) trace) trace

-- ---- what the calls do, their parts by name: the answer, told as the caller has it (`as_is` or, for C, as a struct),
-- and the trace before (₀) and after (₁)
-- a given step
pub record AppendsStep {A : Type 0} (told : Traced → A) (wit : PermutationWitness) (trace₀ input output : List ℕ)
    (r : A) (trace₁ : List ℕ) : Type 0 where
  pub answer : r ≡ told (append_step wit trace₀ input output)
  pub trace : trace₁ ≡ append_step_trace wit trace₀ input output

-- an evaluated step
pub record EvaluatesStep {A : Type 0} (told : Traced → A) (wit : PermutationWitness) (trace₀ input : List ℕ) (rounds : ℕ) (params : List ℕ)
    (r : A) (trace₁ : List ℕ) : Type 0 where
  pub answer : r ≡ told (evaluate_step wit trace₀ input rounds params)
  pub trace : trace₁ ≡ evaluate_step_trace wit trace₀ input rounds params

-- ---- the steps that a trace holds, in order
-- as many as the record counts
abbrev pub witness_steps : PermutationWitness → List ℕ → List (List ℕ)
witness_steps wit trace = steps_of wit.width wit.steps trace
