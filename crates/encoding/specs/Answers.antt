-- What the calls that write answer, and what they leave of the output. Assumes nothing.
use Rattle.std.specs.Prelude.{ℕ, ◌≡◌, List, [], ◌∷◌, ◌++◌, leb, length, take, Result, Ok, Err}
use Rattle.limits.specs.Numbers.{prime}
use Rattle.limits.specs.Questions.{Question, question, first_no, on_yes}
use Rattle.limits.specs.Asks.{width_asks}
use Rattle.words.specs.Store.{all_below, put_words}
use Rattle.words.specs.Pieces.{words_of, steps_of, held_asks}
use Rattle.limits.specs.Outcome.{Outcome, outcome_of}
use Rattle.instance.specs.Parts.{parts_of}
use Rattle.held.specs.Held.{instance_asks}
use Rattle.instance.specs.declared.PermutationInstance.{PermutationInstance}
use Rattle.header.specs.Form.{version}
use Rattle.encoding.specs.Form.{instance_bytes, witness_bytes}
use Rattle.limits.specs.declared.Refused.{Refused}

-- ---- what a write answers: the outcome, and how many bytes it wrote, 0 where it was refused
pub record Written : Type 0 where
  pub outcome : Outcome
  pub len : ℕ

-- from what the function answers
abbrev pub written : Result ℕ Refused → Written
written (Ok len) = record { outcome = Ok tt; len = len }
written (Err e) = record { outcome = Err e; len = 0 }

-- by its number
abbrev pub written_of : ℕ → List ℕ → Written
written_of k bytes = record { outcome = outcome_of k; len = on_yes k (length bytes) 0 }

-- the output afterwards: the bytes at its front and the rest as it was; a refusal leaves it as it was
abbrev pub written_out : ℕ → List ℕ → List ℕ → List ℕ
written_out k bytes out = on_yes k (put_words 0 bytes out) out

-- what a write ensures whose answer has the form `told`: the answer, and the output as it leaves it
pub record Writes {A : Type 0} (told : Written → A) (k : ℕ) (bytes before : List ℕ) (r : A) (after : List ℕ) : Type 0 where
  pub answer : r ≡ told (written_of k bytes)
  pub out : after ≡ written_out k bytes before

-- ---- SFRI of held parts, gated or not
abbrev pub instance_to_bytes : PermutationInstance → (label publics queries equations : List ℕ) → List ℕ
instance_to_bytes ins label publics queries equations =
    instance_bytes version ins.width label (parts_of ins publics queries equations)

-- 1, 2 and 11 of the held parts, and 10: does the output hold the bytes?
abbrev pub instance_to_bytes_asks : PermutationInstance → (label publics queries equations : List ℕ) → ℕ → List Question
instance_to_bytes_asks ins label publics queries equations out =
    instance_asks ins label publics queries equations
    ++ (question 10 (leb (length (instance_to_bytes ins label publics queries equations)) out) ∷ [])

-- the number of a write of SFRI, or 0
unfoldable pub instance_to_bytes_no : PermutationInstance → (label publics queries equations : List ℕ) → ℕ → ℕ
instance_to_bytes_no ins label publics queries equations out =
    first_no (instance_to_bytes_asks ins label publics queries equations out)

-- what `instance_to_bytes` ensures
abbrev pub InstanceWrites : {A : Type 0} → (Written → A) → PermutationInstance → (label publics queries equations before : List ℕ) → A → List ℕ → Type 0
InstanceWrites told ins label publics queries equations before r after =
    Writes told (instance_to_bytes_no ins label publics queries equations (length before)) (instance_to_bytes ins label publics queries equations) before r after

-- ---- SFRW of the first `steps` steps of a trace
abbrev pub witness_to_bytes : (width steps : ℕ) → List ℕ → List ℕ
witness_to_bytes width steps trace =
    witness_bytes version width (steps_of width steps trace)

-- 1, 2, 11 of the held steps, then 10
abbrev pub steps_asks : (width steps : ℕ) → List ℕ → List Question
steps_asks width steps trace =
    width_asks width
    ++ (held_asks width steps (length trace) ++ (question 11 (all_below prime (take (words_of width steps) trace)) ∷ []))

-- and 10: does the output hold the bytes?
abbrev pub witness_to_bytes_asks : (width steps : ℕ) → List ℕ → ℕ → List Question
witness_to_bytes_asks width steps trace out =
    steps_asks width steps trace ++ (question 10 (leb (length (witness_to_bytes width steps trace)) out) ∷ [])

-- the number of a write of SFRW, or 0
unfoldable pub witness_to_bytes_no : (width steps : ℕ) → List ℕ → ℕ → ℕ
witness_to_bytes_no width steps trace out = first_no (witness_to_bytes_asks width steps trace out)

-- what `witness_to_bytes` ensures
abbrev pub WitnessWrites : {A : Type 0} → (Written → A) → (width steps : ℕ) → (trace before : List ℕ) → A → List ℕ → Type 0
WitnessWrites told width steps trace before r after =
    Writes told (witness_to_bytes_no width steps trace (length before)) (witness_to_bytes width steps trace) before r after
