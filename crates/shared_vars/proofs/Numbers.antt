-- The number that each call on the wires of relation r of an allocator shows is the first no of its whole list of
-- questions, in document 01's order. Assumes nothing.
use Prim.Native.Nat.{ℕ}
use mathlib.Core.Path.{◌≡◌, refl}
use mathlib.Core.List.{List}
use lib.ListN.{length}
use Rattle.limits.specs.Questions.{first_no}
use Rattle.allocator.specs.Slots.{Pair, is_fresh, room_asks, pair_asks, SetRun}
use Rattle.allocator.specs.Assign.{set_number}
use Rattle.allocator.proofs.Assign.{set-number}
use Rattle.allocator.specs.VarValue.{value_number}
use Rattle.permutation.specs.Sharing.{Sharing}
use Rattle.permutation.specs.Relation.{relation_front, allocate_vars_front, allocate_vars_asks_with, set_var_asks_with, set_vars_front, set_vars_asks_with, var_asks, value_of_asks_with, is_allocated_front, is_allocated_asks_with}
use Rattle.permutation.specs.Numbers.{allocate_vars_no, set_var_no, value_of_no, is_allocated_no}
use Rattle.permutation.specs.Answers.{first_number, is_allocated_number}
use Rattle.permutation.specs.declared.PermutationRelation.{PermutationRelation}
use Rattle.permutation.proofs.Answered.{first-number}
use Rattle.permutation.proofs.Sets.{set_vars-number}
use Rattle.permutation.proofs.Looked.{value-number, is_allocated-number}
use Rattle.tickets.specs.Lines.{lines_asks}
use Rattle.tickets.specs.Tickets.{set_tickets_asks_with}
use Rattle.tickets.proofs.Laws.{set_tickets-number}
use Rattle.sharing.specs.Shares.{on_allocator, shares}
use Rattle.sharing.specs.declared.VarAllocator.{VarAllocator}
use Rattle.sharing.specs.declared.SharedRelation.{SharedRelation}
use Rattle.sharing.specs.Records.{AllocatedOn}
use Rattle.sharing.proofs.Numbers.{puts-in, subsequence, number-on}
use Rattle.shared_vars.specs.Answers.{relation_on_no, allocate_vars_on_no, set_vars_on_no, is_allocated_on_no, allocate_vars_on, set_var_on, set_vars_on_run, set_tickets_on_run, value_of_on, is_allocated_on}

module _ (a : VarAllocator) (r : ℕ) (m : SharedRelation) where
  abbrev x : PermutationRelation
  x = on_allocator a m

  abbrev h : Sharing
  h = shares a r m

  -- allocate
  pub allocate_vars_on-number : (slots : List ℕ) (n : ℕ)
      → first_number (allocate_vars_on a r m slots n).first ≡ first_no (allocate_vars_asks_with h x (length slots) n)
  unfolding allocate_vars_on_no allocate_vars_no
  allocate_vars_on-number slots n =
      number-on a r m (λ (g : Sharing). allocate_vars_front g x (length slots) n)
      (search puts-in depth 20) (search subsequence depth 40)
      (λ (q : AllocatedOn). first_number q.first) (room_asks a.vars (length slots) n) _ _
      (first-number (allocate_vars_no x (length slots) n) a.vars) refl

  -- set
  pub set_var_on-number : (slots : List ℕ) (p : Pair) → set_number (set_var_on a r m slots p) ≡ first_no (set_var_asks_with h x slots p)
  unfolding relation_on_no set_var_no
  set_var_on-number slots p =
      number-on a r m (λ (g : Sharing). relation_front g x (length slots))
      (search puts-in depth 20) (search subsequence depth 40)
      set_number (pair_asks a.vars slots p) _ _ (set-number (set_var_no x slots p) (is_fresh slots p)) refl

  -- set list
  pub set_vars_on-number : (slots vars values : List ℕ)
      → (set_vars_on_run a r m slots vars values).number ≡ first_no (set_vars_asks_with h x slots vars values)
  unfolding set_vars_on_no set_vars_on_run
  set_vars_on-number slots vars values =
      number-on a r m (λ (g : Sharing). set_vars_front g x (length slots) vars values)
      (search puts-in depth 20) (search subsequence depth 40)
      (λ (q : SetRun). q.number) _ _ _ (set_vars-number x slots vars values) refl

  -- tickets
  pub set_tickets_on-number : (slots text : List ℕ) → (set_tickets_on_run a r m slots text).number ≡ first_no (set_tickets_asks_with h x slots text)
  unfolding relation_on_no set_tickets_on_run
  set_tickets_on-number slots text =
      number-on a r m (λ (g : Sharing). relation_front g x (length slots))
      (search puts-in depth 20) (search subsequence depth 40)
      (λ (q : SetRun). q.number) (lines_asks a.vars slots text) _ _ (set_tickets-number x slots text) refl

  -- value of a wire
  pub value_of_on-number : (slots : List ℕ) (var : ℕ) → value_number (value_of_on a r m slots var) ≡ first_no (value_of_asks_with h x (length slots) var)
  unfolding relation_on_no value_of_no
  value_of_on-number slots var =
      number-on a r m (λ (g : Sharing). relation_front g x (length slots))
      (search puts-in depth 20) (search subsequence depth 40)
      value_number (var_asks var) _ _ (value-number x slots var) refl

  -- is it allocated
  pub is_allocated_on-number : (var : ℕ) → is_allocated_number (is_allocated_on a r m var) ≡ first_no (is_allocated_asks_with h x var)
  unfolding is_allocated_on_no is_allocated_no
  is_allocated_on-number var =
      number-on a r m (λ (g : Sharing). is_allocated_front g x)
      (search puts-in depth 20) (search subsequence depth 40)
      is_allocated_number (var_asks var) _ _ (is_allocated-number x var) refl
