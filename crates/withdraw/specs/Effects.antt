-- What each withdrawal does, its parts by name, as in `recording/specs/Effects`. Assumes nothing.
use Rattle.permutation.specs.Records.{Recorded}
use Rattle.std.specs.Prelude.{ℕ, ◌≡◌, List, length}
use Rattle.permutation.specs.declared.PermutationRelation.{PermutationRelation}
use Rattle.withdraw.specs.Answers.{withdraw_equation, withdraw_equation_equations, withdraw_query, withdraw_query_queries, withdraw_query_uses}

-- an equation withdrawn
pub record WithdrawsEquation {A : Type 0} (told : Recorded → A) (rel : PermutationRelation) (equations₀ : List ℕ) (i : ℕ)
    (r : A) (equations₁ : List ℕ) : Type 0 where
  pub answer : r ≡ told (withdraw_equation rel equations₀ i)
  pub equations : equations₁ ≡ withdraw_equation_equations rel equations₀ i

-- a query withdrawn: the slots are only looked at
pub record WithdrawsQuery {A : Type 0} (told : Recorded → A) (rel : PermutationRelation) (slots queries₀ uses₀ : List ℕ) (i : ℕ)
    (r : A) (queries₁ uses₁ : List ℕ) : Type 0 where
  pub answer : r ≡ told (withdraw_query rel (length slots) queries₀ uses₀ i)
  pub queries : queries₁ ≡ withdraw_query_queries rel (length slots) queries₀ uses₀ i
  pub uses : uses₁ ≡ withdraw_query_uses rel (length slots) queries₀ uses₀ i
