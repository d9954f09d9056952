-- An equation or a query of relation r of an allocator withdrawn: the number of the front of each call's questions, its
-- answer, and the stores afterwards, in the way of `shared_recording/specs/Answers`. Assumes nothing.
use Rattle.std.specs.Prelude.{ℕ, List, length}
use Rattle.limits.specs.Questions.{first_no, on_yes}
use Rattle.withdraw.specs.Relation.{withdraw_query_front}
use Rattle.withdraw.specs.Answers.{withdraw_equation, withdraw_equation_equations, withdraw_query, withdraw_query_queries, withdraw_query_uses}
use Rattle.sharing.specs.Shares.{on_allocator, shares}
use Rattle.sharing.specs.Answers.{recorded_on, recorded_not}
use Rattle.sharing.specs.declared.VarAllocator.{VarAllocator}
use Rattle.sharing.specs.declared.SharedRelation.{SharedRelation}
use Rattle.sharing.specs.Records.{RecordedOn}
use Rattle.shared_recording.specs.Answers.{add_equation_on_no}

module _ (a : VarAllocator) (r : ℕ) (m : SharedRelation) where
  -- ---- an equation: 1, 2, 42 as an equation call puts them
  -- the answer
  abbrev pub withdraw_equation_on : (equations : List ℕ) → ℕ → RecordedOn
  withdraw_equation_on equations i =
      let k = add_equation_on_no a r m (length equations) in
      on_yes k (recorded_on m (withdraw_equation (on_allocator a m) equations i)) (recorded_not m k)

  -- the equations afterwards
  abbrev pub withdraw_equation_on_equations : (equations : List ℕ) → ℕ → List ℕ
  withdraw_equation_on_equations equations i =
      on_yes (add_equation_on_no a r m (length equations)) (withdraw_equation_equations (on_allocator a m) equations i) equations

  -- ---- a query
  -- the number of the front: 1, 2, 42
  unfoldable pub withdraw_query_on_no : (slots queries uses : ℕ) → ℕ
  withdraw_query_on_no slots queries uses = first_no (withdraw_query_front (shares a r m) (on_allocator a m) slots queries uses)

  -- the answer; of the slots only the length is looked at
  abbrev pub withdraw_query_on : (slots : ℕ) → (queries uses : List ℕ) → ℕ → RecordedOn
  withdraw_query_on slots queries uses i =
      let k = withdraw_query_on_no slots (length queries) (length uses) in
      on_yes k (recorded_on m (withdraw_query (on_allocator a m) slots queries uses i)) (recorded_not m k)

  -- the queries afterwards
  abbrev pub withdraw_query_on_queries : (slots : ℕ) → (queries uses : List ℕ) → ℕ → List ℕ
  withdraw_query_on_queries slots queries uses i =
      on_yes (withdraw_query_on_no slots (length queries) (length uses)) (withdraw_query_queries (on_allocator a m) slots queries uses i) queries

  -- the use store afterwards
  abbrev pub withdraw_query_on_uses : (slots : ℕ) → (queries uses : List ℕ) → ℕ → List ℕ
  withdraw_query_on_uses slots queries uses i =
      on_yes (withdraw_query_on_no slots (length queries) (length uses)) (withdraw_query_uses (on_allocator a m) slots queries uses i) uses
