-- The answers of calls on a relation as structs for C: the documents' number, and the values of each case.
-- Assumes nothing.
use Rattle.std.specs.Prelude.{true, false, Some, None, Result, Ok, Err}
use Rattle.limits.specs.Outcome.{outcome_number}
use Rattle.limits.specs.declared.Refused.{Refused}
use Rattle.allocator.specs.VarValue.{VarValue}
use Rattle.permutation.specs.Records.{IsAllocated, Recorded, Allocated}
use Rattle.permutation.specs.Answers.{first_number, first_var}
use Rattle.permutation.specs.declared.SetVars.{SetVars}
use Rattle.tickets.specs.declared.SetTickets.{SetTickets}
use Rattle.allocator.specs.declared.Set.{Set}
use Rattle.allocator.specs.declared.Set.TheVariants as set_is
use Rattle.sfr.specs.declared.relation.SfrRelationAnswer.{SfrRelationAnswer}
use Rattle.sfr.specs.declared.relation.SfrSetAnswer.{SfrSetAnswer}
use Rattle.sfr.specs.declared.relation.SfrTally.{SfrTally}
use Rattle.sfr.specs.declared.relation.SfrTicketTally.{SfrTicketTally}
use Rattle.sfr.specs.declared.relation.SfrValue.{SfrValue}
use Rattle.sfr.specs.declared.relation.SfrFlag.{SfrFlag}

-- a call that has no value to give: its number and the record
abbrev pub recorded_answer : Recorded → SfrRelationAnswer
recorded_answer r = record { number = outcome_number r.outcome; first = 0; relation = r.relation }

-- an allocation: its number, the first new wire and the record
abbrev pub allocated_answer : Allocated → SfrRelationAnswer
allocated_answer r = record { number = first_number r.first; first = first_var r.first; relation = r.relation }

-- a set: its number, and whether it is fresh, no after a refusal
abbrev pub set_answer : Result Set Refused → SfrSetAnswer
set_answer (Ok set_is.Fresh) = record { number = 0; fresh = true }
set_answer (Ok set_is.Repeated) = record { number = 0; fresh = false }
set_answer (Err e) = record { number = e.0; fresh = false }

-- a set list: its number, how many of its first pairs were accepted, and how many of those were fresh
abbrev pub tally_of : SetVars → SfrTally
tally_of r = record { number = outcome_number r.outcome; accepted = r.accepted; fresh = r.fresh }

-- a ticket text: its number, how many of its first lines were accepted, and how many of those were fresh
abbrev pub ticket_tally_of : SetTickets → SfrTicketTally
ticket_tally_of r = record { number = outcome_number r.outcome; accepted = r.accepted; fresh = r.fresh }

-- a look at a value: its number, whether there is one, and the value or 0
abbrev pub value_answer : VarValue → SfrValue
value_answer (Ok (Some v)) = record { number = 0; some = true; value = v }
value_answer (Ok None) = record { number = 0; some = false; value = 0 }
value_answer (Err e) = record { number = e.0; some = false; value = 0 }

-- a look whether a wire is allocated: its number and yes or no, no after a refusal
abbrev pub flag_of : IsAllocated → SfrFlag
flag_of (Ok true) = record { number = 0; yes = true }
flag_of (Ok false) = record { number = 0; yes = false }
flag_of (Err e) = record { number = e.0; yes = false }
