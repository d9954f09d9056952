-- Demand 3, the one claim: about what an accepted fresh leaves, any list of calls after it, the gate, both byte
-- forms written and read, and the check of what was read, or of what the gate made with no bytes between.
--
--   (1) each call accepts where no question says no, else it answers the first that does; an accepted allocate or
--       mint answers the ledger's count as it was before; how many sets were accepted, and how many of those were
--       fresh, is told by the ledger and the call's arguments alone (`told`); the use counts and the stray count are
--       those of the cells of the queries that the ledger has (`used`)
--   (2) so do the gate and the writes, by 01's own lists of questions; and which of them, and of the reads', can
--       still say no is told by the ledger and the sizes of what is lent alone (`gates`, `writes`, `reads`)
--   (3) what was read is what was written: width and counts, label bytes, held words, steps (`same`); and the strict
--       read gets what the plain one gets (`strictly`), so all that is said of a read holds of both
--   (4) the check accepts or answers 31 to 35, and it accepts exactly where the ledger at the gate has an
--       assignment as document 01 demands (`checks`)
--
-- Nothing is assumed but that fresh accepted: any width, any words in the stores, any list of calls with refused
-- ones among them, any label (another at the write than at the gate too), trace, sizes and scratch. The ledger is
-- fed calls and answers and never sees a state; an assignment is there for known wires and for no other; what a
-- step is comes from the permutation's definition. An outcome is accepted or refused, not only a number. What gate,
-- byte forms and check answer and leave here are the definitions that the open functions' contracts cite, and each
-- call of the list is made by code that answers and leaves what the list has there (crate `calls`). Assumes nothing.
use Rattle.std.specs.Prelude.{ℕ, ◌≤◌, ◌≡◌, true, List, length, take}
use Rattle.limits.specs.Numbers.{prime, max_count}
use Rattle.limits.specs.Questions.{Question, first_no}
use Rattle.limits.specs.Outcome.{outcome_of}
use Rattle.words.specs.Store.{all_below}
use Rattle.words.specs.Pieces.{words_of}
use Rattle.narg.specs.Reader.{Got}
use Rattle.permute.specs.Parameters.{parameters_of, sound_parameters}
use Rattle.instance.specs.Parts.{held_publics, held_queries, held_equations, parts_of}
use Rattle.instance.specs.declared.PermutationInstance.{PermutationInstance}
use Rattle.compile.specs.Gate.{GateLent, gate_lent, compile_asks, compile, compile_publics}
use Rattle.compile.specs.Records.{Compiled}
use Rattle.validity.specs.Valid.{steps_of, is_witness_valid}
use Rattle.decoding.specs.Read.{Rooms, plain_rule, strict_rule, File}
use Rattle.encoding.specs.Answers.{written_of, written_out, instance_to_bytes, instance_to_bytes_asks, instance_to_bytes_no, witness_to_bytes, witness_to_bytes_asks, witness_to_bytes_no}
use Rattle.decoding.specs.Answers.{instance_from_bytes, witness_from_bytes, instance_answer, publics_after, queries_after, equations_after, witness_answer, trace_after, label_read}
use Rattle.encoding.specs.Answers.{Written}
use Rattle.decoding.specs.Records.{InstanceRead}
use Rattle.decoding.specs.Records.{WitnessRead}
use Rattle.history.specs.Ledger.{Ledger}
use Rattle.history.specs.Sat.{Evaluates}
use Rattle.history.specs.Calls.{Call, State, Lengths, lengths_of, fresh, first_ledger, log, final, ledger_of}
use Rattle.history.specs.Left.{compile_left, instance_write_left, instance_read_left, witness_write_left, witness_read_left}
use Rattle.history.specs.Demand.{Accepted, Answers, AllTold, Used, Checked}

-- ---- the check
-- a trace store that 2 and 11 let through: it holds the steps, and they are units
pub record TraceHeld (w steps : ℕ) (trace : List ℕ) : Type 0 where
  pub size : length trace ≤ max_count
  pub room : words_of w steps ≤ length trace
  pub units : all_below prime (take (words_of w steps) trace) ≡ true

-- (4) of held parts and a trace: for all parameters that 17 lets through, and every scratch that 2 and 16 do
abbrev pub Checks : (w : ℕ) → Ledger → PermutationInstance → (label publics queries equations : List ℕ)
    → (steps : ℕ) (trace : List ℕ) → Type 0
Checks w l ins label publics queries equations steps trace =
    (rounds : ℕ) (params : List ℕ) → sound_parameters w rounds params ≡ true
    → (scratch : ℕ) → ins.vars ≤ scratch → scratch ≤ max_count
    → Checked (Evaluates w (parameters_of w rounds params)) l (parts_of ins publics queries equations) (steps_of w steps trace)
    (is_witness_valid ins label publics queries equations steps trace rounds params scratch)

-- ---- a trace through its bytes
-- lent: a step count, the trace store, the output, and the store that is read into
pub record TraceLent : Type 0 where
  pub steps : ℕ
  pub trace : List ℕ
  pub out : List ℕ
  pub room : ℕ

module _ (w : ℕ) (t : TraceLent) where
  -- the number of the write
  abbrev witness_no : ℕ
  witness_no = witness_to_bytes_no w t.steps t.trace (length t.out)

  -- SFRW written: the answer, and exactly the bytes that it counts
  abbrev pub witness_written : Written
  witness_written = written_of witness_no (witness_to_bytes w t.steps t.trace)

  -- the bytes: as many of the output's as the answer counts
  abbrev pub witness_bytes_made : List ℕ
  witness_bytes_made = take witness_written.len (written_out witness_no (witness_to_bytes w t.steps t.trace) t.out)

  -- and read: the answer, and the store
  abbrev witness_got : Got (List (List ℕ))
  witness_got = witness_from_bytes w witness_bytes_made t.room

  -- the answer
  abbrev pub witness_read_back : WitnessRead
  witness_read_back = witness_answer witness_got

  -- the store that was read into, afterwards
  abbrev pub trace_read_back : List ℕ
  trace_read_back = trace_after t.room witness_got

  -- (2), (3) of SFRW
  pub record Traced : Type 0 where
    pub writes : Answers witness_written.outcome (first_no (witness_to_bytes_asks w t.steps t.trace (length t.out)))
        (first_no (witness_write_left w t.steps t.trace (length t.out)))
    pub reads : Accepted witness_written.outcome → witness_read_back.outcome ≡ outcome_of (first_no (witness_read_left w t.steps t.room))
    -- read equals written in step count and held words
    pub same-steps : Accepted witness_written.outcome → Accepted witness_read_back.outcome → witness_read_back.steps ≡ t.steps
    pub same-words : Accepted witness_written.outcome → Accepted witness_read_back.outcome
        → take (words_of w t.steps) trace_read_back ≡ take (words_of w t.steps) t.trace

-- ---- an instance through its bytes
-- lent: the label, the output, and the lengths of the stores that are read into
pub record FileLent : Type 0 where
  pub label : List ℕ
  pub out : List ℕ
  pub rooms : Rooms

-- `asked` and `stated`: the stores of queries and equations as they are at the write; `ins` and `made`: the instance
-- and the publics that the gate made
module _ (w : ℕ) (asked stated : List ℕ) (ins : PermutationInstance) (made : List ℕ) (f : FileLent) where
  -- the number of the write
  abbrev instance_no : ℕ
  instance_no = instance_to_bytes_no ins f.label made asked stated (length f.out)

  -- the bytes that an accepted write writes
  abbrev instance_bytes_meant : List ℕ
  instance_bytes_meant = instance_to_bytes ins f.label made asked stated

  -- SFRI written: the answer, and exactly the bytes that it counts
  abbrev pub instance_written : Written
  instance_written = written_of instance_no instance_bytes_meant

  -- the bytes: as many of the output's as the answer counts
  abbrev pub instance_bytes_made : List ℕ
  instance_bytes_made = take instance_written.len (written_out instance_no instance_bytes_meant f.out)

  -- and read: the answer, the label, and the stores
  abbrev instance_got : Got File
  instance_got = instance_from_bytes plain_rule w instance_bytes_made f.rooms

  -- the answer, with the record that was read
  abbrev pub instance_read_back : InstanceRead
  instance_read_back = instance_answer w instance_got

  -- the label
  abbrev pub label_read_back : List ℕ
  label_read_back = label_read instance_got

  -- the publics, afterwards
  abbrev pub publics_read_back : List ℕ
  publics_read_back = publics_after f.rooms.publics instance_got

  -- the queries, afterwards
  abbrev pub queries_read_back : List ℕ
  queries_read_back = queries_after f.rooms.queries instance_got

  -- the equations, afterwards
  abbrev pub equations_read_back : List ℕ
  equations_read_back = equations_after f.rooms.equations instance_got

  -- (3) read equals written in width and counts, label bytes, and held words
  pub record SameFile : Type 0 where
    pub instance : instance_read_back.instance ≡ ins
    pub label : label_read_back ≡ f.label
    pub publics : held_publics ins publics_read_back ≡ held_publics ins made
    pub queries : held_queries ins queries_read_back ≡ held_queries ins asked
    pub equations : held_equations ins equations_read_back ≡ held_equations ins stated

  -- (2) to (4) of SFRI, beside the ledger
  pub record Filed (l : Ledger) : Type 0 where
    pub writes : Answers instance_written.outcome (first_no (instance_to_bytes_asks ins f.label made asked stated (length f.out)))
        (first_no (instance_write_left w l f.label (length f.out)))
    pub reads : Accepted instance_written.outcome → instance_read_back.outcome ≡ outcome_of (first_no (instance_read_left w l f.rooms))
    pub same : Accepted instance_written.outcome → Accepted instance_read_back.outcome → SameFile
    -- and strictly (document 02, R-7): the same file, or the same number, which is never 46
    pub strictly : Accepted instance_written.outcome → instance_from_bytes strict_rule w instance_bytes_made f.rooms ≡ instance_got
    -- the check of what was read, for every trace through its bytes
    pub checks : Accepted instance_written.outcome → Accepted instance_read_back.outcome
        → (t : TraceLent) → Accepted (witness_written w t).outcome → Accepted (witness_read_back w t).outcome
        → Checks w l instance_read_back.instance label_read_back publics_read_back queries_read_back equations_read_back
        (witness_read_back w t).steps (trace_read_back w t)

-- (2) to (4) after a gate that accepted this label
pub record Gated (w : ℕ) (queries equations : List ℕ) (ins : PermutationInstance) (made label : List ℕ) (l : Ledger) : Type 0 where
  -- the check of what the gate made, with no bytes between
  pub checks : (steps : ℕ) (trace : List ℕ) → TraceHeld w steps trace → Checks w l ins label made queries equations steps trace
  -- through the bytes; the label that is written may be another than the gate's
  pub files : (f : FileLent) → Filed w queries equations ins made f l

-- ---- the gate
-- what it is lent on a state
abbrev pub lent_to_gate : State → (label publics scratch : List ℕ) → GateLent
lent_to_gate s label publics scratch =
    gate_lent s.relation label s.slots s.queries s.equations s.uses (length publics) (length scratch)

-- its questions
abbrev pub compiled_asks : State → (label publics scratch : List ℕ) → List Question
compiled_asks s label publics scratch = compile_asks (lent_to_gate s label publics scratch)

-- its answer
abbrev pub compiled : State → (label publics scratch : List ℕ) → Compiled
compiled s label publics scratch = compile (lent_to_gate s label publics scratch)

-- the publics afterwards
abbrev pub publics_made : State → (label publics scratch : List ℕ) → List ℕ
publics_made s label publics scratch = compile_publics (lent_to_gate s label publics scratch)

-- a call of the gate: its questions, its answer, and the publics that it leaves
pub record GateDone : Type 0 where
  pub asked : List Question
  pub answer : Compiled
  pub publics : List ℕ

-- of a relation alone, by what is lent beside the state
abbrev pub gate_of : State → (label publics scratch : List ℕ) → GateDone
gate_of s label publics scratch =
    record {
      asked = compiled_asks s label publics scratch;
      answer = compiled s label publics scratch;
      publics = publics_made s label publics scratch;
    }

-- (2) to (4) of a relation's gate and what follows it, at its width: `lengths` are those of its stores, `queries` and
-- `equations` as they are at the write, l is the ledger at the gate
pub record Judged (w : ℕ) (lengths : Lengths) (queries equations : List ℕ) (gate : (label publics scratch : List ℕ) → GateDone) (l : Ledger)
    : Type 0 where
  -- (2) the gate
  pub gates : (label publics scratch : List ℕ)
      → Answers (gate label publics scratch).answer.outcome (first_no (gate label publics scratch).asked)
      (first_no (compile_left lengths l label (length publics) (length scratch)))
  -- (2) to (4) after a gate that accepts
  pub gated : (label publics scratch : List ℕ) → Accepted (gate label publics scratch).answer.outcome
      → Gated w queries equations (gate label publics scratch).answer.instance (gate label publics scratch).publics label l
  -- (2), (3) of a trace
  pub traced : (t : TraceLent) → Traced w t

-- ---- the whole
module _ (w : ℕ) (slots queries equations uses : List ℕ) (cs : List Call) where
  -- what fresh leaves
  abbrev pub begin : State
  begin = fresh w slots queries equations uses

  -- what the calls leave
  abbrev pub last : State
  last = final begin cs

  -- the ledger at the gate, fed the calls and their answers
  abbrev pub last_ledger : Ledger
  last_ledger = ledger_of w first_ledger (log begin cs)

  -- demand 3 of this list of calls: all four of the head
  pub record Whole : Type 0 where
    -- (1) along the list
    pub told : AllTold w begin first_ledger cs
    -- the use counts at its end; a list's beginning is a list, so at every place of it
    pub used : Used w (length last.slots) last_ledger last.uses last.relation.stray
    -- (2) to (4), where the sizes of the four stores are what they were at first
    pub judged : Judged w (lengths_of begin) last.queries last.equations (gate_of last) last_ledger
