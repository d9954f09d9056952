-- The first opening does to the store what fresh does: it asks and answers what fresh does, leaves the stores that
-- fresh leaves, and where it is accepted the count is that of a fresh relation. Assumes nothing.
use Prim.Native.Nat.{ℕ, zero, suc}
use mathlib.Core.Path.{◌≡◌, refl, ap, ◌∙◌}
use mathlib.Core.List.{List}
use lib.ListN.{length}
use Rattle.std.specs.Prelude.{Ok}
use Rattle.limits.specs.Questions.{ask, first_of_two, on_yes}
use Rattle.limits.specs.Outcome.{outcome_of}
use Rattle.permutation.specs.Numbers.{new_relation_no}
use Rattle.permutation.specs.Answers.{relation, new_relation, fresh_slots, new_slots, fresh_uses, new_uses}
use Rattle.sharing.specs.Opening.{with_allocator_no, with_allocator, with_allocator_slots, with_allocator_uses}
use Rattle.sharing.specs.declared.VarAllocator.{VarAllocator}

-- nothing is opened, whatever stands for the count
module _ (vars width quota : ℕ) where
  abbrev none : VarAllocator
  none = record { vars = vars; opened = 0 }

  number_is : (len uses : ℕ) → with_allocator_no none width len uses ≡ new_relation_no width len uses
  unfolding ask first_of_two with_allocator_no new_relation_no
  number_is len uses = refl

  module _ (slots uses : List ℕ) where
    pub first-outcome : (with_allocator none width quota slots uses).outcome ≡ (new_relation width slots uses).outcome
    first-outcome = ap outcome_of (number_is (length slots) (length uses))

    pub first-slots : with_allocator_slots none width slots uses ≡ new_slots width slots uses
    first-slots = ap (λ (k : ℕ). on_yes k (fresh_slots slots) slots) (number_is (length slots) (length uses))

    pub first-uses : with_allocator_uses none width slots uses ≡ new_uses width slots uses
    first-uses = ap (λ (k : ℕ). on_yes k (fresh_uses uses) uses) (number_is (length slots) (length uses))

    pub first_count : (new_relation width slots uses).outcome ≡ Ok tt
        → (with_allocator none width quota slots uses).allocator.vars ≡ (new_relation width slots uses).relation.vars
    first_count accepted = ap (λ (k : ℕ). (on_yes k (record { vars = 1; opened = 1 }) none).vars) (number_is (length slots) (length uses)) ∙ go (new_relation_no width (length slots) (length uses)) accepted
      where
        go : (k : ℕ) → outcome_of k ≡ Ok tt
            → (on_yes k (record { vars = 1; opened = 1 }) none).vars ≡ (on_yes k (relation width 1 0 0 0 0) (relation 0 0 0 0 0 0)).vars
        go zero e = refl
        go (suc k) e = cc
