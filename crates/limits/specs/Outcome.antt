-- What a call answers: a value, or the number of the question that said no. Assumes nothing.
use Rattle.std.specs.Prelude.{ℕ, zero, suc, Bool, true, false, List, [], ◌∷◌, Result, Ok, Err}
use Rattle.std.specs.Result.{result_and}
use Rattle.limits.specs.Questions.{Question}
use Rattle.limits.specs.declared.Refused.{Refused}

-- the refusal of a number
abbrev pub refusal : ℕ → Refused
refusal k = record { 0 = k }

-- an answer by its number: this value at 0, else refused with the number
abbrev pub answer_of : {A : Type 0} → ℕ → A → Result A Refused
answer_of zero a = Ok a
answer_of (suc k) a = Err (refusal (suc k))

-- the documents' number of an answer: 0 is yes
abbrev pub answer_number : {A : Type 0} → Result A Refused → ℕ
answer_number (Ok a) = 0
answer_number (Err e) = e.0

-- is it accepted?
abbrev pub is_accepted : {A : Type 0} → Result A Refused → Bool
is_accepted (Ok a) = true
is_accepted (Err e) = false

-- ---- where there is no value to give
abbrev pub Outcome : Type 0
Outcome = Result (Unit {0}) Refused

-- accepted at 0, else refused with the number
abbrev pub outcome_of : ℕ → Outcome
outcome_of k = answer_of k tt

-- the documents' number of it
abbrev pub outcome_number : Outcome → ℕ
outcome_number = answer_number

-- one question put, number k
abbrev pub asked : ℕ → Bool → Outcome
asked k true = Ok tt
asked k false = Err (refusal k)

-- questions put in order: the first no
abbrev pub outcome : List Question → Outcome
outcome [] = Ok tt
outcome (q ∷ qs) = result_and (asked q.number q.says) (outcome qs)

-- an answer as the call gives it, where a contract says how it is told
abbrev pub as_is : {A : Type 0} → A → A
as_is a = a
