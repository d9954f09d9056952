-- What each call on a relation's wires does, its parts by name: the answer, told as the caller has it (`as_is` or, for
-- C, as a struct), and each lent store. A store's ₀ is what it held before the call, its ₁ what it holds after it.
-- Assumes nothing.
use Rattle.std.specs.Prelude.{ℕ, ◌≡◌, List, Result}
use Rattle.allocator.specs.Slots.{Pair}
use Rattle.allocator.specs.Assign.{Runs}
use Rattle.permutation.specs.Answers.{new_relation, new_slots, new_uses, allocate_vars, allocate_vars_slots, set_var, set_var_slots, set_vars_run, set_vars_of}
use Rattle.permutation.specs.declared.PermutationRelation.{PermutationRelation}
use Rattle.limits.specs.declared.Refused.{Refused}
use Rattle.allocator.specs.declared.Set.{Set}
use Rattle.permutation.specs.Records.{Recorded, Allocated}
use Rattle.permutation.specs.declared.SetVars.{SetVars}

-- fresh
pub record MakesRelation {A : Type 0} (told : Recorded → A) (width : ℕ) (slots₀ uses₀ : List ℕ) (r : A) (slots₁ uses₁ : List ℕ) : Type 0 where
  pub answer : r ≡ told (new_relation width slots₀ uses₀)
  pub slots : slots₁ ≡ new_slots width slots₀ uses₀
  pub uses : uses₁ ≡ new_uses width slots₀ uses₀

-- allocate
pub record AllocatesVars {A : Type 0} (told : Allocated → A) (rel : PermutationRelation) (slots₀ : List ℕ) (n : ℕ)
    (r : A) (slots₁ : List ℕ) : Type 0 where
  pub answer : r ≡ told (allocate_vars rel slots₀ n)
  pub slots : slots₁ ≡ allocate_vars_slots rel slots₀ n

-- set
pub record SetsVar {A : Type 0} (told : Result Set Refused → A) (rel : PermutationRelation) (slots₀ : List ℕ) (p : Pair)
    (r : A) (slots₁ : List ℕ) : Type 0 where
  pub answer : r ≡ told (set_var rel slots₀ p)
  pub slots : slots₁ ≡ set_var_slots rel slots₀ p

-- set list: `Runs` has the parts
abbrev pub SetsVars : {A : Type 0} → (SetVars → A) → PermutationRelation → (slots₀ vars values : List ℕ) → A → (slots₁ : List ℕ) → Type 0
SetsVars told rel slots₀ vars values = Runs (λ run. told (set_vars_of run)) (set_vars_run rel slots₀ vars values)
