-- Small cases of both withdrawals, computed: the order of 11 and 10, counts at their ends, and freed words. Assumes nothing.
use mathlib.Core.Path.{◌≡◌, refl}
use Prim.Native.Nat.{ℕ}
use mathlib.Core.List.{List, [], ◌∷◌}
use Rattle.limits.specs.Questions.{ask, first_of_two}
use Rattle.permutation.specs.Answers.{relation, recorded_of}
use Rattle.permutation.specs.declared.PermutationRelation.{PermutationRelation}
use Rattle.expr.specs.Equation.{size_at}
use Rattle.uses.specs.Uses.{times, strays, uses_after, all_fit}
use Rattle.withdraw.specs.Relation.{withdraw_equation_no, withdraw_query_no}
use Rattle.withdraw.specs.Answers.{withdraw_equation, withdraw_equation_equations, withdraw_query, withdraw_query_queries, withdraw_query_uses}

-- ---- a query
-- width 1, 3 wires, one query, and this stray count
abbrev one : ℕ → PermutationRelation
one stray = relation 1 3 1 0 0 stray

-- the query (1, 1) beside 3 slots and this use store
abbrev ones : ℕ → List ℕ → ℕ → ℕ
ones stray uses i = withdraw_query_no (one stray) 3 (1 ∷ 1 ∷ []) uses i

pub record QueryNumbers : Type 0 where
  pub accepted : ones 0 (0 ∷ 2 ∷ 0 ∷ []) 0 ≡ 0
  pub no_such : ones 0 (0 ∷ 2 ∷ 0 ∷ []) 1 ≡ 45
  -- 1 and 2 before 45, and 45 before 11 and 10: past the query lie cells on wire 2, which has no count
  pub width-first : withdraw_query_no (relation 0 4 1 0 0 0) 3 (1 ∷ 1 ∷ []) [] 1 ≡ 1
  pub wires-first : withdraw_query_no (relation 1 4 1 0 0 0) 3 (1 ∷ 1 ∷ []) [] 1 ≡ 2
  pub no-such-first : withdraw_query_no (one 0) 3 (1 ∷ 1 ∷ 2 ∷ 2 ∷ []) (0 ∷ 2 ∷ 0 ∷ []) 1 ≡ 45
  pub no-such-short : withdraw_query_no (one 0) 3 (1 ∷ 1 ∷ 2 ∷ 2 ∷ []) [] 1 ≡ 45
  -- a use store of the wrong length: 10, but 11 first where a count that it has would fall below 0
  pub short : ones 0 (0 ∷ 2 ∷ []) 0 ≡ 10
  pub short-and-low : ones 0 (0 ∷ 1 ∷ []) 0 ≡ 11
  pub short-of-it : ones 0 (0 ∷ []) 0 ≡ 10
  pub low : ones 0 (0 ∷ 1 ∷ 0 ∷ []) 0 ≡ 11
  -- a count above 2^30 that comes down to it, and one that does not
  pub to-the-most : ones 0 (0 ∷ 1073741826 ∷ 0 ∷ []) 0 ≡ 0
  pub above-it : ones 0 (0 ∷ 1073741827 ∷ 0 ∷ []) 0 ≡ 11
  -- a stray count that no cell changes is not asked
  pub stray-unasked : ones 4294967295 (0 ∷ 2 ∷ 0 ∷ []) 0 ≡ 0
  -- the query (1, 5), which names a wire beyond the slots
  pub stray-low : withdraw_query_no (one 0) 3 (1 ∷ 5 ∷ []) (0 ∷ 1 ∷ 0 ∷ []) 0 ≡ 11
  pub stray-taken : withdraw_query_no (one 1) 3 (1 ∷ 5 ∷ []) (0 ∷ 1 ∷ 0 ∷ []) 0 ≡ 0

pub query-numbers : QueryNumbers
unfolding ask first_of_two withdraw_query_no all_fit times strays
query-numbers = record {
  accepted = refl;
  no_such = refl;
  width-first = refl;
  wires-first = refl;
  no-such-first = refl;
  no-such-short = refl;
  short = refl;
  short-and-low = refl;
  short-of-it = refl;
  low = refl;
  to-the-most = refl;
  above-it = refl;
  stray-unasked = refl;
  stray-low = refl;
  stray-taken = refl;
}

-- two queries, (1, 5) and (2, 2), and a word past them; no count is left of the one withdrawn
abbrev two : PermutationRelation
two = relation 1 3 2 0 0 1

abbrev held : List ℕ
held = 1 ∷ 5 ∷ 2 ∷ 2 ∷ 9 ∷ []

pub record QueryStores : Type 0 where
  pub first-answer : withdraw_query two 3 held (0 ∷ 1 ∷ 2 ∷ []) 0 ≡ recorded_of 0 (relation 1 3 1 0 0 0) two
  pub first-words : withdraw_query_queries two 3 held (0 ∷ 1 ∷ 2 ∷ []) 0 ≡ 2 ∷ 2 ∷ 0 ∷ 0 ∷ 9 ∷ []
  pub first-uses : withdraw_query_uses two 3 held (0 ∷ 1 ∷ 2 ∷ []) 0 ≡ 0 ∷ 0 ∷ 2 ∷ []
  pub second-answer : withdraw_query two 3 held (0 ∷ 1 ∷ 2 ∷ []) 1 ≡ recorded_of 0 (relation 1 3 1 0 0 1) two
  pub second-words : withdraw_query_queries two 3 held (0 ∷ 1 ∷ 2 ∷ []) 1 ≡ 1 ∷ 5 ∷ 0 ∷ 0 ∷ 9 ∷ []
  pub second-uses : withdraw_query_uses two 3 held (0 ∷ 1 ∷ 2 ∷ []) 1 ≡ 0 ∷ 1 ∷ 0 ∷ []
  -- refused: nothing changes
  pub refused-words : withdraw_query_queries two 3 held (0 ∷ 1 ∷ 1 ∷ []) 1 ≡ held
  pub refused-uses : withdraw_query_uses two 3 held (0 ∷ 1 ∷ 1 ∷ []) 1 ≡ 0 ∷ 1 ∷ 1 ∷ []

pub query-stores : QueryStores
unfolding ask first_of_two withdraw_query_no all_fit times strays uses_after
query-stores = record {
  first-answer = refl;
  first-words = refl;
  first-uses = refl;
  second-answer = refl;
  second-words = refl;
  second-uses = refl;
  refused-words = refl;
  refused-uses = refl;
}

-- ---- an equation
-- so many equations in so many words; the words are 1 · wire 1 = 4 and 0 = 7, and a word past them
abbrev stated : (equations words : ℕ) → PermutationRelation
stated equations words = relation 1 3 0 equations words 0

abbrev words : List ℕ
words = 1 ∷ 1 ∷ 1 ∷ 4 ∷ 0 ∷ 7 ∷ 9 ∷ []

pub record EquationCases : Type 0 where
  pub first-answer : withdraw_equation (stated 2 6) words 0 ≡ recorded_of 0 (stated 1 2) (stated 2 6)
  pub first-words : withdraw_equation_equations (stated 2 6) words 0 ≡ 0 ∷ 7 ∷ 0 ∷ 0 ∷ 0 ∷ 0 ∷ 9 ∷ []
  pub second-answer : withdraw_equation (stated 2 6) words 1 ≡ recorded_of 0 (stated 1 4) (stated 2 6)
  pub second-words : withdraw_equation_equations (stated 2 6) words 1 ≡ 1 ∷ 1 ∷ 1 ∷ 4 ∷ 0 ∷ 0 ∷ 9 ∷ []
  pub no_such : withdraw_equation_no (stated 2 6) words 2 ≡ 45
  -- 2 before 45, and 45 before 11
  pub words-first : withdraw_equation_no (stated 2 8) words 2 ≡ 2
  pub no-such-first : withdraw_equation_no (stated 1 6) words 1 ≡ 45
  -- the equations end before the used words, past them, or within one
  pub ends-early : withdraw_equation_no (stated 1 6) words 0 ≡ 11
  pub ends-late : withdraw_equation_no (stated 2 4) words 1 ≡ 11
  pub ends-within : withdraw_equation_no (stated 2 5) words 0 ≡ 11
  pub refused-words : withdraw_equation_equations (stated 2 5) words 0 ≡ words

pub equation-cases : EquationCases
unfolding ask first_of_two withdraw_equation_no size_at
equation-cases = record {
  first-answer = refl;
  first-words = refl;
  second-answer = refl;
  second-words = refl;
  no_such = refl;
  words-first = refl;
  no-such-first = refl;
  ends-early = refl;
  ends-late = refl;
  ends-within = refl;
  refused-words = refl;
}
