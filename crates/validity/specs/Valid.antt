-- `is_witness_valid` on held parts, gated or not: 1, 2, 17, 11, 16, and then the check. Assumes nothing.
use Rattle.std.specs.Prelude.{ℕ, List, [], ◌∷◌, ◌++◌, leb, length, take}
use Rattle.limits.specs.Numbers.{prime}
use Rattle.limits.specs.Questions.{Question, question, first_no, ◌▸◌}
use Rattle.limits.specs.Asks.{width_asks, store_asks}
use Rattle.limits.specs.Outcome.{outcome_of, Outcome}
use Rattle.words.specs.Store.{all_below}
use Rattle.words.specs.Pieces.{words_of}
-- the first `steps` steps of a trace
pub use Rattle.words.specs.Pieces.{steps_of}
use Rattle.permute.specs.Parameters.{sound_parameters, is_evaluation}
use Rattle.instance.specs.Parts.{parts_of}
use Rattle.held.specs.Held.{label_asks, parts_asks, parts_sound_asks}
use Rattle.instance.specs.declared.PermutationInstance.{PermutationInstance}
use Rattle.validity.specs.Check.{check_no}

-- 1, and 2 of every store, count and the label, by their lengths
abbrev pub size_asks : PermutationInstance → (label publics queries equations steps trace params scratch : ℕ) → List Question
size_asks ins label publics queries equations steps trace params scratch =
    width_asks ins.width
    ++ (parts_asks ins publics queries equations
    ++ (store_asks trace ++ (store_asks params ++ (store_asks scratch ++ (label_asks label
    ++ (question 2 (leb (words_of ins.width steps) trace) ∷ []))))))

-- the questions before the check: 1 and 2, 17, 11 of what is held, the trace included, 16
abbrev pub is_witness_valid_asks : PermutationInstance → (label publics queries equations : List ℕ)
    → (steps : ℕ) (trace : List ℕ) (rounds : ℕ) (params : List ℕ) (scratch : ℕ) → List Question
is_witness_valid_asks ins label publics queries equations steps trace rounds params scratch =
    size_asks ins (length label) (length publics) (length queries) (length equations) steps (length trace) (length params) scratch
    ++ (question 17 (sound_parameters ins.width rounds params)
    ∷ (parts_sound_asks ins label publics queries equations
    ++ (question 11 (all_below prime (take (words_of ins.width steps) trace))
    ∷ question 16 (leb ins.vars scratch)
    ∷ [])))

-- the number: the first no of those, else the check's
unfoldable pub is_witness_valid_no : PermutationInstance → (label publics queries equations : List ℕ)
    → (steps : ℕ) (trace : List ℕ) (rounds : ℕ) (params : List ℕ) (scratch : ℕ) → ℕ
is_witness_valid_no ins label publics queries equations steps trace rounds params scratch =
    first_no (is_witness_valid_asks ins label publics queries equations steps trace rounds params scratch)
    ▸ check_no (is_evaluation ins.width rounds params) (parts_of ins publics queries equations)
    (steps_of ins.width steps trace)

-- yes is Ok
abbrev pub is_witness_valid : PermutationInstance → (label publics queries equations : List ℕ)
    → (steps : ℕ) (trace : List ℕ) (rounds : ℕ) (params : List ℕ) (scratch : ℕ) → Outcome
is_witness_valid ins label publics queries equations steps trace rounds params scratch =
    outcome_of (is_witness_valid_no ins label publics queries equations steps trace rounds params scratch)
