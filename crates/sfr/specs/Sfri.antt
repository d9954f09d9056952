-- The answer of a read as a struct for C: document 01's number, the instance's record and where the label lies.
-- Assumes nothing.
use Rattle.std.specs.Prelude.{ℕ}
use Rattle.limits.specs.Outcome.{outcome_number}
use Rattle.narg.specs.Reader.{Got}
use Rattle.decoding.specs.Read.{File}
use Rattle.decoding.specs.Answers.{instance_answer}
use Rattle.decoding.specs.Records.{InstanceRead}
use Rattle.sfr.specs.declared.sfri.SfrInstanceRead.{SfrInstanceRead}

-- the three, taken from what the read answers
abbrev pub read_of : InstanceRead → SfrInstanceRead
read_of r = record { number = outcome_number r.outcome; instance = r.instance; label = r.label }

-- by what the read gets
abbrev pub read_answer : ℕ → Got File → SfrInstanceRead
read_answer width g = read_of (instance_answer width g)
