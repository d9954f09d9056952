-- The calls on the wires of relation r of an allocator: the number of the front of each call's questions, its answer, and
-- the slots afterwards. A call that its front lets through does what the same call does to a relation alone that has the
-- shared wire count for its own; else nothing. Assumes nothing.
use Rattle.limits.specs.Outcome.{refusal}
use Rattle.limits.specs.declared.Refused.{Refused}
use Rattle.allocator.specs.VarValue.{VarValue}
use Rattle.permutation.specs.Records.{IsAllocated}
use Rattle.std.specs.Prelude.{ℕ, ◌+◌, List, length, Result, Err}
use Rattle.limits.specs.Questions.{first_no, on_yes}
use Rattle.allocator.specs.declared.Set.{Set}
use Rattle.allocator.specs.Slots.{Pair, SetRun, run_after}
use Rattle.permutation.specs.Relation.{relation_front, allocate_vars_front, set_vars_front, is_allocated_front}
use Rattle.permutation.specs.Answers.{allocate_vars, allocate_vars_slots, set_var, set_var_slots, set_vars_run, value_of, is_allocated}
use Rattle.tickets.specs.Tickets.{set_tickets_run}
use Rattle.sharing.specs.Shares.{on_allocator, shares}
use Rattle.sharing.specs.Answers.{allocated_on, allocated_not}
use Rattle.sharing.specs.declared.VarAllocator.{VarAllocator}
use Rattle.sharing.specs.declared.SharedRelation.{SharedRelation}
use Rattle.sharing.specs.Records.{AllocatedOn}

module _ (a : VarAllocator) (r : ℕ) (m : SharedRelation) where
  -- ---- numbers of fronts
  -- 1, 2, 42 of a call that looks at the slots
  unfoldable pub relation_on_no : (len : ℕ) → ℕ
  relation_on_no len = first_no (relation_front (shares a r m) (on_allocator a m) len)

  -- allocate: 1, 2, 42, 5, 43
  unfoldable pub allocate_vars_on_no : (len n : ℕ) → ℕ
  allocate_vars_on_no len n = first_no (allocate_vars_front (shares a r m) (on_allocator a m) len n)

  -- set list: 1, 2, 42
  unfoldable pub set_vars_on_no : (len : ℕ) → (vars values : List ℕ) → ℕ
  set_vars_on_no len vars values = first_no (set_vars_front (shares a r m) (on_allocator a m) len vars values)

  -- is it allocated: 1, 2, 42
  unfoldable pub is_allocated_on_no : ℕ
  is_allocated_on_no = first_no (is_allocated_front (shares a r m) (on_allocator a m))

  -- ---- allocate
  -- the answer: the relation obtains n wires more
  abbrev pub allocate_vars_on : List ℕ → ℕ → AllocatedOn
  allocate_vars_on slots n =
      let k = allocate_vars_on_no (length slots) n in
      on_yes k (allocated_on a m (allocate_vars (on_allocator a m) slots n) (m.obtained + n)) (allocated_not a m k)

  -- the slots afterwards
  abbrev pub allocate_vars_on_slots : List ℕ → ℕ → List ℕ
  allocate_vars_on_slots slots n = on_yes (allocate_vars_on_no (length slots) n) (allocate_vars_slots (on_allocator a m) slots n) slots

  -- ---- set
  -- the answer, fresh where the shared slot was unassigned
  abbrev pub set_var_on : List ℕ → Pair → Result Set Refused
  set_var_on slots p =
      let k = relation_on_no (length slots) in
      on_yes k (set_var (on_allocator a m) slots p) (Err (refusal k))

  -- the slots afterwards
  abbrev pub set_var_on_slots : List ℕ → Pair → List ℕ
  set_var_on_slots slots p = on_yes (relation_on_no (length slots)) (set_var_slots (on_allocator a m) slots p) slots

  -- ---- set list and tickets: nothing is tried where the front says no
  -- how far the pairs came, with the number and the slots
  unfoldable pub set_vars_on_run : (slots vars values : List ℕ) → SetRun
  set_vars_on_run slots vars values =
      run_after (set_vars_on_no (length slots) vars values) (set_vars_run (on_allocator a m) slots vars values) slots

  -- how far the lines came, likewise
  unfoldable pub set_tickets_on_run : (slots text : List ℕ) → SetRun
  set_tickets_on_run slots text = run_after (relation_on_no (length slots)) (set_tickets_run (on_allocator a m) slots text) slots

  -- ---- value of a wire, and is it allocated
  -- the answer
  abbrev pub value_of_on : List ℕ → ℕ → VarValue
  value_of_on slots var =
      let k = relation_on_no (length slots) in
      on_yes k (value_of (on_allocator a m) slots var) (Err (refusal k))

  -- the answer
  abbrev pub is_allocated_on : ℕ → IsAllocated
  is_allocated_on var = on_yes is_allocated_on_no (is_allocated (on_allocator a m) var) (Err (refusal is_allocated_on_no))
