-- The calls of relation r of an allocator that record: the number of the front of each call's questions, its answer, and
-- the stores afterwards, in the way of `shared_vars/specs/Answers`. Assumes nothing.
use Rattle.std.specs.Prelude.{ℕ, ◌+◌, List, ◌++◌, leb, length}
use Rattle.limits.specs.Questions.{pick, ◌▸◌, first_no, on_yes}
use Rattle.expr.specs.Equation.{Term}
use Rattle.recording.specs.Relation.{add_permutation_front, mint_sizes, mint_asks, allocate_permutation_front, add_equation_front}
use Rattle.recording.specs.Answers.{add_permutation, add_permutation_queries, add_permutation_uses, allocate_permutation, allocate_permutation_slots, allocate_permutation_queries, allocate_permutation_uses, add_equation, add_equation_equations}
use Rattle.sharing.specs.Shares.{on_allocator, quota_asks, shares}
use Rattle.sharing.specs.Answers.{allocated_on, allocated_not, recorded_on, recorded_not}
use Rattle.sharing.specs.declared.VarAllocator.{VarAllocator}
use Rattle.sharing.specs.declared.SharedRelation.{SharedRelation}
use Rattle.sharing.specs.Records.{AllocatedOn, RecordedOn}

module _ (a : VarAllocator) (r : ℕ) (m : SharedRelation) where
  -- ---- numbers of fronts
  -- record: 1, 2, 42
  unfoldable pub add_permutation_on_no : (slots len uses : ℕ) → (input output : List ℕ) → ℕ
  add_permutation_on_no slots len uses input output =
      first_no (add_permutation_front (shares a r m) (on_allocator a m) slots len uses input output)

  -- mint: 1, 2, 42, 9, 3, 5, 43
  unfoldable pub allocate_permutation_on_no : (slots len uses : ℕ) → (input : List ℕ) → ℕ
  allocate_permutation_on_no slots len uses input =
      first_no (allocate_permutation_front (shares a r m) (on_allocator a m) slots len uses input)

  -- mint, before it is handed on: 1, 2, 42; and 9, 3, 5 only where 43 then says no, since a mint of a relation alone asks
  -- them too
  unfoldable pub mint_front_no : (slots len uses : ℕ) → (input : List ℕ) → ℕ
  mint_front_no slots len uses input =
      first_no (mint_sizes (shares a r m) (on_allocator a m) slots len uses input)
      ▸ pick (leb (m.obtained + m.width) m.quota) 0 (first_no (mint_asks (on_allocator a m) input ++ quota_asks m.quota m.obtained m.width))

  -- equation: 1, 2, 42
  unfoldable pub add_equation_on_no : (len : ℕ) → ℕ
  add_equation_on_no len = first_no (add_equation_front (shares a r m) (on_allocator a m) len)

  -- ---- record
  -- the answer; of the slots only the length is looked at
  abbrev pub add_permutation_on : (slots : ℕ) → (queries uses input output : List ℕ) → RecordedOn
  add_permutation_on slots queries uses input output =
      let k = add_permutation_on_no slots (length queries) (length uses) input output in
      on_yes k (recorded_on m (add_permutation (on_allocator a m) slots queries uses input output)) (recorded_not m k)

  -- the queries afterwards
  abbrev pub add_permutation_on_queries : (slots : ℕ) → (queries uses input output : List ℕ) → List ℕ
  add_permutation_on_queries slots queries uses input output =
      on_yes (add_permutation_on_no slots (length queries) (length uses) input output)
      (add_permutation_queries (on_allocator a m) slots queries uses input output) queries

  -- the use store afterwards
  abbrev pub add_permutation_on_uses : (slots : ℕ) → (queries uses input output : List ℕ) → List ℕ
  add_permutation_on_uses slots queries uses input output =
      on_yes (add_permutation_on_no slots (length queries) (length uses) input output)
      (add_permutation_uses (on_allocator a m) slots queries uses input output) uses

  -- ---- mint
  -- the answer: the relation obtains as many wires more as it is wide
  abbrev pub allocate_permutation_on : (slots queries uses input : List ℕ) → AllocatedOn
  allocate_permutation_on slots queries uses input =
      let k = allocate_permutation_on_no (length slots) (length queries) (length uses) input in
      on_yes k (allocated_on a m (allocate_permutation (on_allocator a m) slots queries uses input) (m.obtained + m.width)) (allocated_not a m k)

  -- the slots afterwards
  abbrev pub allocate_permutation_on_slots : (slots queries uses input : List ℕ) → List ℕ
  allocate_permutation_on_slots slots queries uses input =
      on_yes (allocate_permutation_on_no (length slots) (length queries) (length uses) input)
      (allocate_permutation_slots (on_allocator a m) slots queries uses input) slots

  -- the queries afterwards
  abbrev pub allocate_permutation_on_queries : (slots queries uses input : List ℕ) → List ℕ
  allocate_permutation_on_queries slots queries uses input =
      on_yes (allocate_permutation_on_no (length slots) (length queries) (length uses) input)
      (allocate_permutation_queries (on_allocator a m) slots queries uses input) queries

  -- the use store afterwards
  abbrev pub allocate_permutation_on_uses : (slots queries uses input : List ℕ) → List ℕ
  allocate_permutation_on_uses slots queries uses input =
      on_yes (allocate_permutation_on_no (length slots) (length queries) (length uses) input)
      (allocate_permutation_uses (on_allocator a m) slots queries uses input) uses

  -- ---- equation
  -- the answer
  abbrev pub add_equation_on : (equations : List ℕ) → List Term → ℕ → RecordedOn
  add_equation_on equations terms image =
      let k = add_equation_on_no (length equations) in
      on_yes k (recorded_on m (add_equation (on_allocator a m) equations terms image)) (recorded_not m k)

  -- the equations afterwards
  abbrev pub add_equation_on_equations : (equations : List ℕ) → List Term → ℕ → List ℕ
  add_equation_on_equations equations terms image =
      on_yes (add_equation_on_no (length equations)) (add_equation_equations (on_allocator a m) equations terms image) equations
