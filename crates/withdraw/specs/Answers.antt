-- What a withdrawal answers, and what it leaves of record and stores: by its number, which is 0 where it is accepted.
-- Later items move down by one, and the freed words become 0. Assumes nothing.
use Rattle.permutation.specs.Records.{Recorded}
use Rattle.std.specs.Prelude.{ℕ, ◌+◌, ◌-◌, true, List, take, drop}
use Rattle.limits.specs.Questions.{on_yes}
use Rattle.words.specs.Pieces.{words_of}
use Rattle.expr.specs.Equation.{equations_end, size_at}
use Rattle.uses.specs.Uses.{uses_after, stray_after}
use Rattle.strike.specs.Strike.{struck_words}
use Rattle.permutation.specs.Answers.{relation, recorded_of}
use Rattle.permutation.specs.declared.PermutationRelation.{PermutationRelation}
use Rattle.withdraw.specs.Relation.{withdraw_equation_no, cells_at, withdraw_query_no}

-- ---- an equation
-- where equation i begins ..
abbrev pub place_of : PermutationRelation → (equations : List ℕ) → ℕ → ℕ
place_of rel equations i = equations_end i (take rel.words equations)

-- .. and how many words it takes
abbrev pub size_of : PermutationRelation → (equations : List ℕ) → ℕ → ℕ
size_of rel equations i = size_at (drop (place_of rel equations i) (take rel.words equations))

-- one equation of so many words less
abbrev pub less_equation : PermutationRelation → (size : ℕ) → PermutationRelation
less_equation rel size =
    relation rel.width rel.vars rel.queries (rel.equations - 1) (rel.words - size) rel.stray

-- the answer
abbrev pub withdraw_equation : PermutationRelation → (equations : List ℕ) → ℕ → Recorded
withdraw_equation rel equations i =
    recorded_of (withdraw_equation_no rel equations i) (less_equation rel (size_of rel equations i)) rel

-- the equations afterwards
abbrev pub withdraw_equation_equations : PermutationRelation → (equations : List ℕ) → ℕ → List ℕ
withdraw_equation_equations rel equations i =
    on_yes (withdraw_equation_no rel equations i)
    (struck_words (place_of rel equations i) (size_of rel equations i) rel.words equations) equations

-- ---- a query
-- one query of these cells less, beside a store of so many slots
abbrev pub less_query : PermutationRelation → (slots : ℕ) → (cells : List ℕ) → PermutationRelation
less_query rel slots cells =
    relation rel.width rel.vars (rel.queries - 1) rel.equations rel.words (stray_after true slots rel.stray cells)

-- the answer
abbrev pub withdraw_query : PermutationRelation → (slots : ℕ) → (queries uses : List ℕ) → ℕ → Recorded
withdraw_query rel slots queries uses i =
    recorded_of (withdraw_query_no rel slots queries uses i) (less_query rel slots (cells_at rel queries i)) rel

-- the queries afterwards
abbrev pub withdraw_query_queries : PermutationRelation → (slots : ℕ) → (queries uses : List ℕ) → ℕ → List ℕ
withdraw_query_queries rel slots queries uses i =
    on_yes (withdraw_query_no rel slots queries uses i)
    (struck_words (words_of rel.width i) (rel.width + rel.width) (words_of rel.width rel.queries) queries) queries

-- the use store afterwards
abbrev pub withdraw_query_uses : PermutationRelation → (slots : ℕ) → (queries uses : List ℕ) → ℕ → List ℕ
withdraw_query_uses rel slots queries uses i =
    on_yes (withdraw_query_no rel slots queries uses i) (uses_after true uses (cells_at rel queries i)) uses
