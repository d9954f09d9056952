-- The gate's answer as one record. Assumes nothing.
use Rattle.std.specs.Prelude.{Result, Ok, Err}
use Rattle.limits.specs.Outcome.{Outcome}
use Rattle.limits.specs.declared.Refused.{Refused}
use Rattle.instance.specs.Looks.{no_instance}
use Rattle.instance.specs.declared.PermutationInstance.{PermutationInstance}

-- the outcome, and the instance: zeros where the gate refuses
pub record Compiled : Type 0 where
  pub outcome : Outcome
  pub instance : PermutationInstance

-- of the gate's result
abbrev pub gated : Result PermutationInstance Refused → Compiled
gated (Ok ins) = record { outcome = Ok tt; instance = ins }
gated (Err e) = record { outcome = Err e; instance = no_instance }
