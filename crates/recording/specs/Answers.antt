-- What each call that records answers, and what it leaves of record and stores: by its number, which is 0 where it is
-- accepted. Assumes nothing.
use Rattle.permutation.specs.Records.{Recorded, Allocated}
use Rattle.std.specs.Prelude.{ℕ, ◌+◌, ◌<◌, false, List, ◌++◌, length}
use Rattle.limits.specs.Numbers.{word_end}
use Rattle.limits.specs.Questions.{on_yes}
use Rattle.words.specs.Store.{put_words}
use Rattle.words.specs.Pieces.{words_of}
use Rattle.uses.specs.Uses.{uses_after, stray_after}
use Rattle.allocator.specs.Slots.{grown_slots}
use Rattle.expr.specs.Equation.{Term, equation, equation_words, equation_size}
use Rattle.recording.specs.Relation.{mint_cells}
use Rattle.recording.specs.Numbers.{add_permutation_no, allocate_permutation_no, add_equation_no}
use Rattle.permutation.specs.declared.PermutationRelation.{PermutationRelation}
use Rattle.permutation.specs.Answers.{allocated_of, more_vars, recorded_of, relation}

-- ---- records
-- one query more, of these cells, beside a store of so many slots
abbrev pub one_query : PermutationRelation → (slots : ℕ) → (cells : List ℕ) → PermutationRelation
one_query rel slots cells =
    relation rel.width rel.vars (rel.queries + 1) rel.equations rel.words (stray_after false slots rel.stray cells)

-- one equation of t terms more, and the words that it takes
abbrev pub one_equation : PermutationRelation → ℕ → PermutationRelation
one_equation rel t =
    relation rel.width rel.vars rel.queries (rel.equations + 1) (rel.words + equation_size t) rel.stray

-- the new counts of that are words
pub record EquationFits (rel : PermutationRelation) (t : ℕ) : Type 0 where
  pub equations : rel.equations + 1 < word_end
  pub words : rel.words + equation_size t < word_end

-- ---- record: inputs then outputs at the end of the queries, each cell counted
-- the store with these cells behind the queries that it holds
abbrev pub queries_with : PermutationRelation → List ℕ → List ℕ → List ℕ
queries_with rel cells queries = put_words (words_of rel.width rel.queries) cells queries

-- the answer, with one query more in the record; of the slots only the length is looked at
abbrev pub add_permutation : PermutationRelation → (slots : ℕ) → (queries uses input output : List ℕ) → Recorded
add_permutation rel slots queries uses input output =
    recorded_of (add_permutation_no rel slots (length queries) uses input output) (one_query rel slots (input ++ output)) rel

-- the queries afterwards
abbrev pub add_permutation_queries : PermutationRelation → (slots : ℕ) → (queries uses input output : List ℕ) → List ℕ
add_permutation_queries rel slots queries uses input output =
    on_yes (add_permutation_no rel slots (length queries) uses input output) (queries_with rel (input ++ output) queries) queries

-- the use store afterwards
abbrev pub add_permutation_uses : PermutationRelation → (slots : ℕ) → (queries uses input output : List ℕ) → List ℕ
add_permutation_uses rel slots queries uses input output =
    on_yes (add_permutation_no rel slots (length queries) uses input output) (uses_after false uses (input ++ output)) uses

-- ---- mint: w more wires, and the query from the inputs to them; both or neither
-- the answer, the first new wire, with w wires and one query more in the record
abbrev pub allocate_permutation : PermutationRelation → (slots queries uses input : List ℕ) → Allocated
allocate_permutation rel slots queries uses input =
    allocated_of (allocate_permutation_no rel (length slots) (length queries) uses input) rel.vars
    (one_query (more_vars rel rel.width) (length slots) (mint_cells rel input)) rel

-- the slots afterwards: those of the w new wires unassigned
abbrev pub allocate_permutation_slots : PermutationRelation → (slots queries uses input : List ℕ) → List ℕ
allocate_permutation_slots rel slots queries uses input =
    on_yes (allocate_permutation_no rel (length slots) (length queries) uses input)
    (grown_slots rel.vars rel.width slots) slots

-- the queries afterwards: the inputs and the new wires behind those that were there
abbrev pub allocate_permutation_queries : PermutationRelation → (slots queries uses input : List ℕ) → List ℕ
allocate_permutation_queries rel slots queries uses input =
    on_yes (allocate_permutation_no rel (length slots) (length queries) uses input)
    (queries_with rel (mint_cells rel input) queries) queries

-- the use store afterwards
abbrev pub allocate_permutation_uses : PermutationRelation → (slots queries uses input : List ℕ) → List ℕ
allocate_permutation_uses rel slots queries uses input =
    on_yes (allocate_permutation_no rel (length slots) (length queries) uses input)
    (uses_after false uses (mint_cells rel input)) uses

-- ---- equation: its words at the end of the used words
-- the answer, with one equation more in the record
abbrev pub add_equation : PermutationRelation → List ℕ → List Term → ℕ → Recorded
add_equation rel equations terms image =
    recorded_of (add_equation_no rel (length equations) terms image) (one_equation rel (length terms)) rel

-- the equations afterwards
abbrev pub add_equation_equations : PermutationRelation → List ℕ → List Term → ℕ → List ℕ
add_equation_equations rel equations terms image =
    on_yes (add_equation_no rel (length equations) terms image)
    (put_words rel.words (equation_words (equation terms image)) equations) equations
