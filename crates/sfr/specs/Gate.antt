-- The gate's answer as a struct for C: document 01's number, and the instance's record; and which part the heading
-- is. Assumes nothing.
use Rattle.std.specs.Prelude.{ℕ, true, false}
use Rattle.instance.specs.Looks.{heading}
use Rattle.compile.specs.Records.{Compiled}
use Rattle.limits.specs.Outcome.{outcome_number}
use Rattle.sfr.specs.declared.gate.SfrInstanceAnswer.{SfrInstanceAnswer}
use Rattle.sfr.specs.declared.gate.SfrHeading.{SfrHeading}

-- the gate's number and the instance's record
abbrev pub compiled_answer : Compiled → SfrInstanceAnswer
compiled_answer c = record { number = outcome_number c.outcome; instance = c.instance }

-- the heading of a label and a name of these lengths: is it the name, and how long is it?
abbrev pub heading_answer : ℕ → ℕ → SfrHeading
heading_answer label name = record { named = heading label false true; len = heading label label name }
