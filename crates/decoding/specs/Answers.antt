-- What the calls that read answer, and what they leave of the lent stores. Assumes nothing.
use Rattle.limits.specs.Outcome.{refusal}
use Rattle.std.specs.Prelude.{ℕ, ◌+◌, ◌≡◌, List, [], ◌++◌, length, replicate, Result, Err, Ok}
use Rattle.std.specs.Result.{IfOk}
use Rattle.limits.specs.declared.Refused.{Refused}
use Rattle.std.specs.Borrow.{Bor}
use Rattle.limits.specs.Questions.{Question, first_no}
use Rattle.limits.specs.Asks.{store_asks}
use Rattle.words.specs.Pieces.{flat}
use Rattle.narg.specs.Reader.{Got, got, stop}
use Rattle.instance.specs.Looks.{no_instance}
use Rattle.header.specs.Form.{version}
-- a store after a read
pub use Rattle.items.specs.Answers.{padded}
use Rattle.items.specs.Answers.{got_after, store_after, pieces_asks}
use Rattle.parts.specs.Answers.{read_parts_asks, instance_read, words_of_publics, words_of_queries, words_of_equations}
use Rattle.decoding.specs.Read.{Rooms, rooms, Rule, File, read_instance, read_witness}
use Rattle.decoding.specs.declared.InstanceFile.{InstanceFile}
pub use Rattle.decoding.specs.Records.{span}
use Rattle.decoding.specs.Records.{InstanceRead, WitnessRead, outcome_only}

-- ---- 1 and 2 first, then the bytes field by field
-- 1, and 2 of each store
abbrev pub read_asks : ℕ → Rooms → List Question
read_asks width rooms = read_parts_asks width rooms ++ store_asks rooms.scratch

-- what a read of SFRI gets, plain or strict by its rule, or the number of its first no
unfoldable pub instance_from_bytes : Rule → (width : ℕ) (bytes : List ℕ) → Rooms → Got File
instance_from_bytes rule width bytes rooms =
    got_after (first_no (read_asks width rooms)) (read_instance rule version width rooms bytes)

-- what a read of SFRW gets, after 1 and 2 of its one store, or the number of its first no
unfoldable pub witness_from_bytes : (width : ℕ) (bytes : List ℕ) → ℕ → Got (List (List ℕ))
witness_from_bytes width bytes room =
    got_after (first_no (pieces_asks width room)) (read_witness version width room bytes)

-- a header has 13 bytes
abbrev pub header_end : ℕ
header_end = 13

-- where a label lies in SFRI: behind the header and the label's length, 4 bytes
abbrev pub label_start : ℕ
label_start = header_end + 4

-- the answer of an accepted read: the record, and where the label lies
abbrev pub accepted_instance : ℕ → File → InstanceRead
accepted_instance width file =
    record {
      outcome = Ok tt;
      instance = instance_read width file.parts;
      label = span label_start (length file.label);
    }

-- the answer of a refused read: zeros, so that its label is empty
abbrev pub refused_instance : ℕ → InstanceRead
refused_instance k = record { outcome = Err (refusal k); instance = no_instance; label = span 0 0 }

-- the answer
abbrev pub instance_answer : ℕ → Got File → InstanceRead
instance_answer width (got file rest) = accepted_instance width file
instance_answer width (stop k) = refused_instance k

-- the label that was read, empty where the read refuses
abbrev pub label_read : Got File → List ℕ
label_read (got file rest) = file.label
label_read (stop k) = []

-- and where that part lies, from where the bytes lie: the block and the byte in it; of a refused read, at their start
abbrev pub label_place : Got File → ℕ × ℕ → ℕ × ℕ
label_place (got file rest) place = (place.0, label_start + place.1)
label_place (stop k) place = place

-- the store of publics after a read: the pairs that were read, then 0
abbrev pub publics_after : ℕ → Got File → List ℕ
publics_after = store_after (λ file. words_of_publics file.parts)

-- the store of queries: those that were read, then 0
abbrev pub queries_after : ℕ → Got File → List ℕ
queries_after = store_after (λ file. words_of_queries file.parts)

-- the store of equations: those that were read, then 0
abbrev pub equations_after : ℕ → Got File → List ℕ
equations_after = store_after (λ file. words_of_equations file.parts)

-- the answer of a refused read of SFRW
abbrev pub refused_witness : ℕ → WitnessRead
refused_witness k = record { outcome = Err (refusal k); steps = 0 }

-- the number of steps that were read, 0 where the read refuses
abbrev pub witness_answer : Got (List (List ℕ)) → WitnessRead
witness_answer (got steps rest) = record { outcome = Ok tt; steps = length steps }
witness_answer (stop k) = refused_witness k

-- the trace after a read: the steps that were read, then 0
abbrev pub trace_after : ℕ → Got (List (List ℕ)) → List ℕ
trace_after = store_after flat

-- ---- an SFRI read: its answer, and what it leaves of what it was lent
-- what the three stores and the scratch hold
pub record Stores : Type 0 where
  pub publics : List ℕ
  pub queries : List ℕ
  pub equations : List ℕ
  pub scratch : List ℕ

-- these, put together
abbrev pub stores : (publics queries equations scratch : List ℕ) → Stores
stores publics queries equations scratch =
    record { publics = publics; queries = queries; equations = equations; scratch = scratch }

-- how many words each has
abbrev pub rooms_of : Stores → Rooms
rooms_of s = rooms (length s.publics) (length s.queries) (length s.equations) (length s.scratch)

-- the three stores as the read leaves them, and scratch all 0
pub record StoresAfter (g : Got File) (before after : Stores) : Type 0 where
  pub publics : after.publics ≡ publics_after (length before.publics) g
  pub queries : after.queries ≡ queries_after (length before.queries) g
  pub equations : after.equations ≡ equations_after (length before.equations) g
  pub scratch : after.scratch ≡ replicate (length before.scratch) 0

-- what a read of these bytes gets with these stores lent
abbrev pub instance_got : Rule → (width : ℕ) (bytes : List ℕ) → Stores → Got File
instance_got rule width bytes before = instance_from_bytes rule width bytes (rooms_of before)

-- the read that answers by numbers, whatever form its answer has
pub record InstanceReads (rule : Rule) {A : Type 0} (answer_of : Got File → A) (width : ℕ) (bytes : List ℕ) (before after : Stores) (r : A) : Type 0 where
  pub answer : r ≡ answer_of (instance_got rule width bytes before)
  pub left : StoresAfter (instance_got rule width bytes before) before after

-- a file that was read: its record, and the label itself, by its bytes and its place in the bytes lent
pub record HoldsFile (width : ℕ) (g : Got File) (bytes : Bor (List ℕ)) (f : InstanceFile) : Type 0 where
  pub instance : f.instance ≡ (instance_answer width g).instance
  pub label : f.label.now ≡ label_read g
  pub place : f.label.ref_ptr ≡ label_place g bytes.ref_ptr

-- the read that answers so
pub record FileReads (rule : Rule) (width : ℕ) (bytes : Bor (List ℕ)) (before after : Stores) (r : Result InstanceFile Refused) : Type 0 where
  pub outcome : outcome_only r ≡ (instance_answer width (instance_got rule width bytes.now before)).outcome
  pub file : IfOk r (HoldsFile width (instance_got rule width bytes.now before) bytes)
  pub left : StoresAfter (instance_got rule width bytes.now before) before after
