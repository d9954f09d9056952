-- A withdrawal keeps what record and stores hold in step with a book from which its item is struck where it is accepted; a
-- refused one alters nothing. Assumes nothing.
use Prim.Native.Nat.{ℕ, zero, suc, ◌+◌}
use mathlib.Core.Path.{◌≡◌, refl, ap, ◌∙◌}
use mathlib.Core.Bool.{true}
use mathlib.Core.List.{List, []}
use lib.ListN.{length, take, drop, get_or}
use Rattle.limits.specs.Questions.{on_yes}
use Rattle.limits.specs.Outcome.{outcome_number, outcome_of}
use Rattle.words.specs.Pieces.{words_of}
use Rattle.uses.specs.Uses.{uses_after}
use Rattle.allocator.specs.Slots.{Pair}
use Rattle.expr.specs.Equation.{Equation}
use Rattle.strike.specs.Strike.{without, struck_words}
use Rattle.permutation.specs.declared.PermutationRelation.{PermutationRelation}
use Rattle.recording.specs.State.{Holds}
use Rattle.withdraw.specs.Relation.{withdraw_equation_no, cells_at, withdraw_query_no}
use Rattle.withdraw.specs.Answers.{place_of, size_of, less_equation, withdraw_equation, withdraw_equation_equations, less_query, withdraw_query, withdraw_query_queries, withdraw_query_uses}
use Rattle.withdraw.proofs.Accepted.{withdraw_equation-yes, withdraw_query-yes}
use Rattle.withdraw.proofs.Withdrawn.{cells_are, query-withdrawn, counts-withdrawn, equation-withdrawn}

module _ (width : ℕ) (rel : PermutationRelation) (slots queries equations uses : List ℕ)
    (n : ℕ) (sets : List Pair) (asked : List (List ℕ)) (stated : List Equation)
    (o : Holds width rel slots queries equations uses n sets asked stated) where
  -- ---- a query
  pub withdraw_query-keeps : (i : ℕ)
      → Holds width (withdraw_query rel (length slots) queries uses i).relation slots (withdraw_query_queries rel (length slots) queries uses i) equations
      (withdraw_query_uses rel (length slots) queries uses i) n sets
      (on_yes (outcome_number (withdraw_query rel (length slots) queries uses i).outcome) (without i asked) asked) stated
  withdraw_query-keeps i =
      go (withdraw_query_no rel (length slots) queries uses i)
      (λ z.
      let y = withdraw_query-yes rel (length slots) queries uses i z in
      let q = o.in_queries in
      let c : cells ≡ get_or asked i [] =
      ap (λ (w : ℕ). take (w + w) (drop (words_of w i) queries)) o.width_is ∙ cells_are width rel.queries queries asked q i y.some in
      record {
        least = o.least;
        most = o.most;
        width_is = o.width_is;
        count = o.count;
        in_slots = o.in_slots;
        in_queries = rw o.width_is (query-withdrawn width rel.queries queries asked q i y.some);
        in_equations = o.in_equations;
        counts = rw c (counts-withdrawn width rel.queries queries asked q i y.some (length slots) uses rel.stray o.counts);
      })
    where
      cells : List ℕ
      cells = cells_at rel queries i

      new : PermutationRelation
      new = less_query rel (length slots) cells

      left : List ℕ
      left = struck_words (words_of rel.width i) (rel.width + rel.width) (words_of rel.width rel.queries) queries

      go : (k : ℕ) → (k ≡ 0 → Holds width new slots left equations (uses_after true uses cells) n sets (without i asked) stated)
          → Holds width (on_yes k new rel) slots (on_yes k left queries) equations (on_yes k (uses_after true uses cells) uses) n sets
          (on_yes (outcome_number (outcome_of k)) (without i asked) asked) stated
      go zero f = f refl
      go (suc k) f = o

  -- ---- an equation
  pub withdraw_equation-keeps : (i : ℕ)
      → Holds width (withdraw_equation rel equations i).relation slots queries (withdraw_equation_equations rel equations i) uses n sets asked
      (on_yes (outcome_number (withdraw_equation rel equations i).outcome) (without i stated) stated)
  withdraw_equation-keeps i =
      go (withdraw_equation_no rel equations i)
      (λ z.
      let y = withdraw_equation-yes rel equations i z in
      record {
        least = o.least;
        most = o.most;
        width_is = o.width_is;
        count = o.count;
        in_slots = o.in_slots;
        in_queries = o.in_queries;
        in_equations = equation-withdrawn rel.equations rel.words equations stated o.in_equations i y.some;
        counts = o.counts;
      })
    where
      new : PermutationRelation
      new = less_equation rel (size_of rel equations i)

      left : List ℕ
      left = struck_words (place_of rel equations i) (size_of rel equations i) rel.words equations

      go : (k : ℕ) → (k ≡ 0 → Holds width new slots queries left uses n sets asked (without i stated))
          → Holds width (on_yes k new rel) slots queries (on_yes k left equations) uses n sets asked
          (on_yes (outcome_number (outcome_of k)) (without i stated) stated)
      go zero f = f refl
      go (suc k) f = o
