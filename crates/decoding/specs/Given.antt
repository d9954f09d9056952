-- What the private readers of both byte forms tell. Where a reader refuses, its stores may hold
-- anything. Only private contracts cite what is here. Assumes nothing.
use Rattle.std.specs.Prelude.{ℕ, ◌≡◌, Bool, true, false, List, length, replicate, Result, Err, Ok}
use Rattle.limits.specs.Questions.{ask}
use Rattle.limits.specs.Outcome.{refusal}
use Rattle.limits.specs.declared.Refused.{Refused}
use Rattle.words.specs.Pieces.{flat}
use Rattle.narg.specs.Reader.{Got, got, stop}
use Rattle.narg.specs.Cursor.{cursor}
use Rattle.narg.specs.declared.Cursor.{Cursor}
use Rattle.allocator.specs.Slots.{Pair}
use Rattle.instance.specs.declared.PermutationInstance.{PermutationInstance}
use Rattle.header.specs.Form.{version}
use Rattle.items.specs.Answers.{padded}
use Rattle.parts.specs.Answers.{label_past, parts_end, instance_read}
use Rattle.parts.specs.Told.{PartsStored}
use Rattle.zero_wire.specs.Zero.{starts_at_zero}
use Rattle.decoding.specs.Read.{rooms, Rule, plain_rule, strict_rule, File, read_file, read_instance, read_witness}
use Rattle.decoding.specs.Answers.{header_end, label_start, Stores, rooms_of, instance_got, witness_from_bytes, span}
use Rattle.decoding.specs.declared.InstanceRead.{InstanceRead}

-- an instance that was read, by its record and where its label lies
abbrev pub read_at : PermutationInstance → (at len : ℕ) → InstanceRead
read_at ins at len = record { instance = ins; label = span at len }

-- of a file
abbrev pub file_read : ℕ → File → InstanceRead
file_read width f = read_at (instance_read width f.parts) label_start (length f.label)

-- ---- the rule of a read that is strict or isn't
abbrev pub rule_of : Bool → Rule
rule_of true = strict_rule
rule_of false = plain_rule

-- its number for a wire count and pairs that increase
abbrev pub rule_no : Bool → (vars : ℕ) → List Pair → ℕ
rule_no true vars ps = ask 46 (starts_at_zero vars ps)
rule_no false vars ps = 0

-- ---- the file: label and parts
-- where it ends
abbrev pub file_end : File → ℕ
file_end f = parts_end (label_past header_end f.label) f.parts

-- what its reader answers
abbrev pub file_answer : ℕ → Got File → Result (InstanceRead × Cursor) Refused
file_answer width (got f rest) = Ok (file_read width f, cursor (file_end f))
file_answer width (stop k) = Err (refusal k)

-- what it leaves of the stores (before, after)
unfoldable pub FileLeft : Got File → (p q e p' q' e' : List ℕ) → Type 0
FileLeft (got f rest) p q e p' q' e' = PartsStored f.parts p q e p' q' e'
FileLeft (stop k) p q e p' q' e' = Unit {0}

-- what it gets after 1 and 2, with these stores lent
abbrev pub file_here : (width : ℕ) (bytes p q e : List ℕ) → Got File
file_here width bytes p q e = read_file version width (rooms (length p) (length q) (length e) 0) bytes

-- a file read into three stores
pub record FileTold (width : ℕ) (bytes p q e p' q' e' : List ℕ) (r : Result (InstanceRead × Cursor) Refused) : Type 0 where
  pub answer : r ≡ file_answer width (file_here width bytes p q e)
  pub left : FileLeft (file_here width bytes p q e) p q e p' q' e'

-- ---- the whole: the file, the gate and the end
-- what a read leaves of the stores and the scratch
pub record Kept (f : File) (before after : Stores) : Type 0 where
  pub parts : PartsStored f.parts before.publics before.queries before.equations after.publics after.queries after.equations
  pub scratch : after.scratch ≡ replicate (length before.scratch) 0

-- so where it accepts
unfoldable pub InstanceLeft : Got File → (before after : Stores) → Type 0
InstanceLeft (got f rest) before after = Kept f before after
InstanceLeft (stop k) before after = Unit {0}

-- what it gets after 1 and 2, with these stores lent
abbrev pub instance_here : Rule → (width : ℕ) (bytes : List ℕ) → Stores → Got File
instance_here rule width bytes before = read_instance rule version width (rooms_of before) bytes

-- what its reader answers
abbrev pub whole_answer : ℕ → Got File → Result InstanceRead Refused
whole_answer width (got f rest) = Ok (file_read width f)
whole_answer width (stop k) = Err (refusal k)

-- an instance read into its stores
pub record InstanceTold (rule : Rule) (width : ℕ) (bytes : List ℕ) (before after : Stores) (r : Result InstanceRead Refused) : Type 0 where
  pub answer : r ≡ whole_answer width (instance_got rule width bytes before)
  pub left : InstanceLeft (instance_got rule width bytes before) before after

-- ---- the steps
-- what their reader leaves of the trace
unfoldable pub StepsLeft : Got (List (List ℕ)) → (t t' : List ℕ) → Type 0
StepsLeft (got steps rest) t t' = t' ≡ padded (length t) (flat steps)
StepsLeft (stop k) t t' = Unit {0}

-- what it gets after 1 and 2, with this trace lent
abbrev pub steps_here : (width : ℕ) (bytes t : List ℕ) → Got (List (List ℕ))
steps_here width bytes t = read_witness version width (length t) bytes

-- how many steps its reader answers
abbrev pub steps_answer : Got (List (List ℕ)) → Result ℕ Refused
steps_answer (got steps rest) = Ok (length steps)
steps_answer (stop k) = Err (refusal k)

-- the steps read into a trace
pub record StepsTold (width : ℕ) (bytes t t' : List ℕ) (r : Result ℕ Refused) : Type 0 where
  pub answer : r ≡ steps_answer (witness_from_bytes width bytes (length t))
  pub left : StepsLeft (witness_from_bytes width bytes (length t)) t t'
