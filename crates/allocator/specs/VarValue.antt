-- The value of a wire that was looked at: some or none, or refused. Assumes nothing.
use Rattle.std.specs.Prelude.{ℕ, Option, Result}
use Rattle.limits.specs.Outcome.{answer_number}
use Rattle.limits.specs.declared.Refused.{Refused}

-- what the look answers
abbrev pub VarValue : Type 0
VarValue = Result (Option ℕ) Refused

-- document 01's number of the answer: 0 where there is a value, and where there is none
abbrev pub value_number : VarValue → ℕ
value_number = answer_number
