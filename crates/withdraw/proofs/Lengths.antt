-- A withdrawal keeps the length of every store, and the words that it frees are 0: of a store's words those before the
-- freed ones, the freed ones, and those past the old end, which stay. Assumes nothing.
use Prim.Native.Nat.{ℕ, ◌+◌, ◌-◌, ◌≤◌}
use mathlib.Core.Path.{◌≡◌, ap, ◌∙◌}
use mathlib.Core.Bool.{true}
use mathlib.Core.List.{List, ◌++◌}
use native.Mathlib.Omega.{arith}
use lib.ListN.{length, take, drop, replicate, length-append, length-take, length-drop}
use lib.Seq.{drop_at}
use Rattle.limits.specs.Questions.{on_yes}
use Rattle.limits.proofs.Questions.{on_yes-length}
use Rattle.words.specs.Pieces.{words_of}
use Rattle.uses.specs.Uses.{uses_after}
use Rattle.uses.proofs.Counts.{after-length}
use Rattle.strike.specs.Strike.{struck_words}
use Rattle.strike.proofs.Moves.{struck-size}
use Rattle.permutation.specs.declared.PermutationRelation.{PermutationRelation}
use Rattle.withdraw.specs.Relation.{withdraw_equation_no, cells_at, withdraw_query_no}
use Rattle.withdraw.specs.Answers.{place_of, size_of, withdraw_equation_equations, withdraw_query_queries, withdraw_query_uses}
use Rattle.withdraw.proofs.Accepted.{withdraw_equation-yes, size_fits, withdraw_query-yes, query-fits}

-- from where the words that are left end, n zeros, and then what was past the old end
struck-freed : (at n end : ℕ) (s : List ℕ) → at + n ≤ end → end ≤ length s
    → drop (end - n) (struck_words at n end s) ≡ replicate n 0 ++ drop end s
struck-freed at n end s h k =
    drop_at (take (end - n) (take at s ++ drop (at + n) s)) (replicate n 0 ++ drop end s) (end - n)
    (simp (length-take, length-append, length-drop) (omega arith))

-- ---- a query
module _ (rel : PermutationRelation) (slots : ℕ) (queries uses : List ℕ) (i : ℕ) where
  abbrev left : List ℕ
  left = struck_words (words_of rel.width i) (rel.width + rel.width) (words_of rel.width rel.queries) queries

  pub withdraw_query_queries-length : length (withdraw_query_queries rel slots queries uses i) ≡ length queries
  withdraw_query_queries-length =
      on_yes-length (withdraw_query_no rel slots queries uses i) left queries
      (λ z.
      let y = withdraw_query-yes rel slots queries uses i z in
      struck-size (words_of rel.width i) (rel.width + rel.width) (words_of rel.width rel.queries) queries
      (query-fits rel slots queries uses i y) y.held)

  pub withdraw_query_uses-length : length (withdraw_query_uses rel slots queries uses i) ≡ length uses
  withdraw_query_uses-length =
      on_yes-length (withdraw_query_no rel slots queries uses i) (uses_after true uses (cells_at rel queries i)) uses
      (λ z. after-length true uses (cells_at rel queries i))

  -- accepted: exactly the freed words are 0, and the words past the old end stay
  pub withdraw_query-freed : withdraw_query_no rel slots queries uses i ≡ 0
      → drop (words_of rel.width rel.queries - (rel.width + rel.width)) (withdraw_query_queries rel slots queries uses i)
      ≡ replicate (rel.width + rel.width) 0 ++ drop (words_of rel.width rel.queries) queries
  withdraw_query-freed z =
      let y = withdraw_query-yes rel slots queries uses i z in
      ap (λ (k : ℕ). drop (words_of rel.width rel.queries - (rel.width + rel.width)) (on_yes k left queries)) z
      ∙ struck-freed (words_of rel.width i) (rel.width + rel.width) (words_of rel.width rel.queries) queries
      (query-fits rel slots queries uses i y) y.held

-- ---- an equation
module _ (rel : PermutationRelation) (equations : List ℕ) (i : ℕ) where
  abbrev rest : List ℕ
  rest = struck_words (place_of rel equations i) (size_of rel equations i) rel.words equations

  pub withdraw_equation_equations-length : length (withdraw_equation_equations rel equations i) ≡ length equations
  withdraw_equation_equations-length =
      on_yes-length (withdraw_equation_no rel equations i) rest equations
      (λ z.
      let y = withdraw_equation-yes rel equations i z in
      struck-size (place_of rel equations i) (size_of rel equations i) rel.words equations (size_fits rel equations i y) y.held)

  pub withdraw_equation-freed : withdraw_equation_no rel equations i ≡ 0
      → drop (rel.words - size_of rel equations i) (withdraw_equation_equations rel equations i)
      ≡ replicate (size_of rel equations i) 0 ++ drop rel.words equations
  withdraw_equation-freed z =
      let y = withdraw_equation-yes rel equations i z in
      ap (λ (k : ℕ). drop (rel.words - size_of rel equations i) (on_yes k rest equations)) z
      ∙ struck-freed (place_of rel equations i) (size_of rel equations i) rel.words equations (size_fits rel equations i y) y.held
