-- What each call on a relation's wires answers, and what it leaves of record and slots: by its number, which is 0
-- where it is accepted. Assumes nothing.
use Rattle.std.specs.Prelude.{ℕ, ◌+◌, List, Some, None, Result, Ok, Err, eqb, ltb, length, get_or, set, replicate}
use Rattle.limits.specs.Numbers.{unassigned}
use Rattle.limits.specs.Questions.{pick, ask, ◌▸◌, on_yes}
use Rattle.limits.specs.Outcome.{answer_of, answer_number, outcome_of, refusal}
use Rattle.limits.specs.declared.Refused.{Refused}
use Rattle.permutation.specs.Records.{First, Recorded, Allocated, IsAllocated}
pub use Rattle.permutation.specs.Records.{relation}
use Rattle.allocator.specs.Slots.{Pair, pairs, is_fresh, grown_slots, with_pair, SetRun, ran, run_after, set_run}
use Rattle.allocator.specs.Assign.{set_of}
use Rattle.permutation.specs.Numbers.{new_relation_no, allocate_vars_no, set_var_no, set_vars_no, value_of_no, is_allocated_no}
use Rattle.permutation.specs.declared.PermutationRelation.{PermutationRelation}
use Rattle.allocator.specs.declared.Set.{Set}
use Rattle.permutation.specs.declared.SetVars.{SetVars}
use Rattle.allocator.specs.VarValue.{VarValue}

-- ---- answers by number
-- the first new wire at 0, else refused with the number
abbrev pub first_of : ℕ → ℕ → First
first_of = answer_of

-- document 01's number of an allocation's answer: 0 is yes
abbrev pub first_number : First → ℕ
first_number = answer_number

-- the first new wire, 0 after a refusal
abbrev pub first_var : First → ℕ
first_var (Ok x) = x
first_var (Err e) = 0

-- of a look whether a wire is allocated
abbrev pub is_allocated_number : IsAllocated → ℕ
is_allocated_number = answer_number

-- the outcome with the record: the new one at 0, else the one that was given
abbrev pub recorded_of : ℕ → PermutationRelation → PermutationRelation → Recorded
recorded_of k new given = record { outcome = outcome_of k; relation = on_yes k new given }

-- the first new wire with the record, in the same way
abbrev pub allocated_of : ℕ → ℕ → PermutationRelation → PermutationRelation → Allocated
allocated_of k var new given = record { first = first_of k var; relation = on_yes k new given }

-- ---- records
-- n wires more
abbrev pub more_vars : PermutationRelation → ℕ → PermutationRelation
more_vars rel n = relation rel.width (rel.vars + n) rel.queries rel.equations rel.words rel.stray

-- ---- fresh: one wire, slot 0 becomes 0, and every use count; refused, a record of zeros
-- the answer: a record with one wire
abbrev pub new_relation : ℕ → (slots uses : List ℕ) → Recorded
new_relation width slots uses =
    recorded_of (new_relation_no width (length slots) (length uses)) (relation width 1 0 0 0 0) (relation 0 0 0 0 0 0)

-- the slots where it is accepted
abbrev pub fresh_slots : List ℕ → List ℕ
fresh_slots slots = set slots 0 0

-- the slots afterwards
abbrev pub new_slots : ℕ → (slots uses : List ℕ) → List ℕ
new_slots width slots uses = on_yes (new_relation_no width (length slots) (length uses)) (fresh_slots slots) slots

-- the use store where it is accepted
abbrev pub fresh_uses : List ℕ → List ℕ
fresh_uses uses = replicate (length uses) 0

-- the use store afterwards
abbrev pub new_uses : ℕ → (slots uses : List ℕ) → List ℕ
new_uses width slots uses = on_yes (new_relation_no width (length slots) (length uses)) (fresh_uses uses) uses

-- ---- allocate: the next n wires, all slots unassigned, answered by the wire count before the call
-- the answer, with n wires more in the record
abbrev pub allocate_vars : PermutationRelation → List ℕ → ℕ → Allocated
allocate_vars rel slots n = allocated_of (allocate_vars_no rel (length slots) n) rel.vars (more_vars rel n) rel

-- the slots afterwards
abbrev pub allocate_vars_slots : PermutationRelation → List ℕ → ℕ → List ℕ
allocate_vars_slots rel slots n = on_yes (allocate_vars_no rel (length slots) n) (grown_slots rel.vars n slots) slots

-- ---- set: the slot becomes the value
-- the answer, fresh where the slot was unassigned; the record has nothing new
abbrev pub set_var : PermutationRelation → List ℕ → Pair → Result Set Refused
set_var rel slots p = set_of (set_var_no rel slots p) (is_fresh slots p)

-- the slots afterwards
abbrev pub set_var_slots : PermutationRelation → List ℕ → Pair → List ℕ
set_var_slots rel slots p = on_yes (set_var_no rel slots p) (with_pair slots p) slots

-- ---- set list: nothing is tried where 1 or 2 says no; 9 comes after the common pairs, which stay set
-- the number, how many pairs were accepted, how many of those were fresh, and the slots
unfoldable pub set_vars_run : PermutationRelation → List ℕ → List ℕ → List ℕ → SetRun
set_vars_run rel slots vars values =
    let r = set_run rel.vars slots (pairs vars values) in
    run_after (set_vars_no rel (length slots) vars values)
    (ran (r.number ▸ ask 9 (eqb (length vars) (length values))) r.accepted r.fresh r.slots) slots

-- a run's answer: the outcome of its number, and its tallies
abbrev pub set_vars_of : SetRun → SetVars
set_vars_of run = record { outcome = outcome_of run.number; accepted = run.accepted; fresh = run.fresh }

-- the answer
abbrev pub set_vars : PermutationRelation → List ℕ → List ℕ → List ℕ → SetVars
set_vars rel slots vars values = set_vars_of (set_vars_run rel slots vars values)

-- the slots afterwards: those of that run
abbrev pub set_vars_slots : PermutationRelation → List ℕ → List ℕ → List ℕ → List ℕ
set_vars_slots rel slots vars values = (set_vars_run rel slots vars values).slots

-- ---- value of a wire: its slot, none where it is unassigned or beyond the count
-- what a slot says of its wire
abbrev pub slot_value : ℕ → VarValue
slot_value held = pick (eqb held unassigned) (Ok None) (Ok (Some held))

-- the answer
abbrev pub value_of : PermutationRelation → List ℕ → ℕ → VarValue
value_of rel slots var =
    on_yes (value_of_no rel (length slots) var)
    (pick (ltb var rel.vars) (slot_value (get_or slots var unassigned)) (Ok None))
    (Err (refusal (value_of_no rel (length slots) var)))

-- ---- is it allocated: is it below the count?
-- the answer
abbrev pub is_allocated : PermutationRelation → ℕ → IsAllocated
is_allocated rel var =
    on_yes (is_allocated_no rel var)
    (Ok (ltb var rel.vars))
    (Err (refusal (is_allocated_no rel var)))
