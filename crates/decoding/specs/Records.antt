-- What the calls that read answer, as C and the histories have it: an outcome beside the values, which are zeros where
-- it is refused. Assumes nothing.
use Rattle.std.specs.Prelude.{ℕ, Result, Ok, Err}
use Rattle.limits.specs.Outcome.{Outcome}
use Rattle.limits.specs.declared.Refused.{Refused}
use Rattle.instance.specs.Looks.{no_instance}
use Rattle.instance.specs.declared.PermutationInstance.{PermutationInstance}
use Rattle.decoding.specs.declared.Span.{Span}
use Rattle.decoding.specs.declared.InstanceRead.{InstanceRead as Read}

-- of a read of an instance: its record, and where its label lies
pub record InstanceRead : Type 0 where
  pub outcome : Outcome
  pub instance : PermutationInstance
  pub label : Span

-- of a read of a witness: the number of steps
pub record WitnessRead : Type 0 where
  pub outcome : Outcome
  pub steps : ℕ

-- the outcome of an answer, without its value
abbrev pub outcome_only : {A : Type 0} → Result A Refused → Outcome
outcome_only (Ok a) = Ok tt
outcome_only (Err e) = Err e

-- where a part of the bytes lies
abbrev pub span : (at len : ℕ) → Span
span at len = record { at = at; len = len }

-- what a read of an instance answers, told so
abbrev pub told_instance : Result Read Refused → InstanceRead
told_instance (Ok read) = record { outcome = Ok tt; instance = read.instance; label = read.label }
told_instance (Err e) = record { outcome = Err e; instance = no_instance; label = span 0 0 }

-- what a read of a witness answers
abbrev pub told_steps : Result ℕ Refused → WitnessRead
told_steps (Ok steps) = record { outcome = Ok tt; steps = steps }
told_steps (Err e) = record { outcome = Err e; steps = 0 }
