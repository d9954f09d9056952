-- The answers of calls on a trace as structs for C: document 01's number, and the values of each case.
-- Assumes nothing.
use Rattle.std.specs.Prelude.{ℕ, Ok, Err}
use Rattle.limits.specs.Outcome.{outcome_number, Outcome}
use Rattle.witness.specs.declared.PermutationWitness.{PermutationWitness}
use Rattle.witness.specs.Trace.{Traced}
use Rattle.encoding.specs.Answers.{Written}
use Rattle.decoding.specs.Records.{WitnessRead}
use Rattle.sfr.specs.declared.trace.SfrTraceAnswer.{SfrTraceAnswer}
use Rattle.sfr.specs.declared.trace.SfrWritten.{SfrWritten}

-- a builder's call: its number and the trace's record
abbrev pub traced_answer : Traced → SfrTraceAnswer
traced_answer t = record { number = outcome_number t.outcome; trace = t.witness }

-- a write: its number, and how many bytes were written
abbrev pub written_answer : Written → SfrWritten
written_answer w = record { number = outcome_number w.outcome; len = w.len }

-- a trace that was read has the width that it was read at; after a refusal the record is zeros
abbrev pub read_record : ℕ → Outcome → ℕ → PermutationWitness
read_record width (Ok tt) steps = record { width = width; steps = steps }
read_record width (Err e) steps = record { width = 0; steps = 0 }

-- a trace's read: its number and that record
abbrev pub trace_read : ℕ → WitnessRead → SfrTraceAnswer
trace_read width r = record { number = outcome_number r.outcome; trace = read_record width r.outcome r.steps }
