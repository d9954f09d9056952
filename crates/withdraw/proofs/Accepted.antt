-- What an accepted withdrawal's questions say, as facts on numbers: one record a call. Assumes nothing.
use Prim.Native.Nat.{ℕ, ◌+◌, ◌≤◌, ◌<◌}
use mathlib.Core.Path.{◌≡◌}
use mathlib.Core.Bool.{true}
use mathlib.Core.List.{List}
use native.Mathlib.Omega.{arith}
use native.Mathlib.Nat.{mul-le-mul_right, add-mul}
use borrow.Author.Tests.{ltb-true, leb-true, eqb-true}
use lib.ListN.{length, take, length-take}
use Rattle.limits.specs.Numbers.{max_count}
use Rattle.limits.proofs.Questions.{puts, puts-yes}
use Rattle.words.specs.Pieces.{words_of}
use Rattle.expr.specs.Equation.{ends_right}
use Rattle.strike.specs.Strike.{struck_words, fit_struck}
use Rattle.strike.proofs.Ends.{place-fits}
use Rattle.strike.proofs.Moves.{struck-is}
use Rattle.permutation.specs.declared.PermutationRelation.{PermutationRelation}
use Rattle.withdraw.specs.Relation.{withdraw_equation_asks, withdraw_equation_no, withdraw_query_asks, withdraw_query_no}
use Rattle.withdraw.specs.Answers.{place_of, size_of}

-- ---- an equation
pub record WithdrawEquation (rel : PermutationRelation) (equations : List ℕ) (i : ℕ) : Type 0 where
  pub store : length equations ≤ max_count
  pub held : rel.words ≤ length equations
  pub some : i < rel.equations
  pub ends : ends_right rel.equations (take rel.words equations) ≡ true

pub withdraw_equation-yes : (rel : PermutationRelation) (equations : List ℕ) (i : ℕ) → withdraw_equation_no rel equations i ≡ 0
    → WithdrawEquation rel equations i
unfolding withdraw_equation_no
withdraw_equation-yes rel equations i e =
    let says = puts-yes (withdraw_equation_asks rel equations i) e in
    record {
      store = leb-true _ _ (says 2 _ tt (search puts depth 20));
      held = leb-true _ _ (says 2 _ tt (search puts depth 20));
      some = ltb-true _ _ (says 45 _ tt (search puts depth 20));
      ends = says 11 _ tt (search puts depth 20);
    }

module _ (rel : PermutationRelation) (equations : List ℕ) (i : ℕ) (y : WithdrawEquation rel equations i) where
  pub size_fits : place_of rel equations i + size_of rel equations i ≤ rel.words
  size_fits =
      let h = place-fits rel.equations i (take rel.words equations) y.some y.ends in
      let l = length-take rel.words equations in
      omega (arith, y.held)

  pub equation-struck : fit_struck (place_of rel equations i) (size_of rel equations i) rel.words equations
      ≡ struck_words (place_of rel equations i) (size_of rel equations i) rel.words equations
  equation-struck = struck-is (place_of rel equations i) (size_of rel equations i) rel.words equations size_fits y.held

-- ---- a query
pub record WithdrawQuery (rel : PermutationRelation) (slots : ℕ) (queries uses : List ℕ) (i : ℕ) : Type 0 where
  pub least : 1 ≤ rel.width
  pub store : length queries ≤ max_count
  pub held : words_of rel.width rel.queries ≤ length queries
  pub some : i < rel.queries
  pub same : length uses ≡ slots

pub withdraw_query-yes : (rel : PermutationRelation) (slots : ℕ) (queries uses : List ℕ) (i : ℕ)
    → withdraw_query_no rel slots queries uses i ≡ 0 → WithdrawQuery rel slots queries uses i
unfolding withdraw_query_no
withdraw_query-yes rel slots queries uses i e =
    let says = puts-yes (withdraw_query_asks rel slots queries uses i) e in
    record {
      least = leb-true _ _ (says 1 _ tt (search puts depth 20));
      store = leb-true _ _ (says 2 _ tt (search puts depth 20));
      held = leb-true _ _ (says 2 _ tt (search puts depth 20));
      some = ltb-true _ _ (says 45 _ tt (search puts depth 20));
      same = eqb-true _ _ (says 10 _ tt (search puts depth 20));
    }

-- a piece of n, whole
pub piece-fits : (width i n : ℕ) → i < n → words_of width i + (width + width) ≤ words_of width n
piece-fits width i n h =
    let k : i + 1 ≤ n = omega arith in
    let m = mul-le-mul_right {m = i + 1} {n = n} (width + width) k in
    let a = add-mul i 1 (width + width) in
    omega arith

module _ (rel : PermutationRelation) (slots : ℕ) (queries uses : List ℕ) (i : ℕ) (y : WithdrawQuery rel slots queries uses i) where
  pub query-fits : words_of rel.width i + (rel.width + rel.width) ≤ words_of rel.width rel.queries
  query-fits = piece-fits rel.width i rel.queries y.some

  pub query-struck : fit_struck (words_of rel.width i) (rel.width + rel.width) (words_of rel.width rel.queries) queries
      ≡ struck_words (words_of rel.width i) (rel.width + rel.width) (words_of rel.width rel.queries) queries
  query-struck =
      struck-is (words_of rel.width i) (rel.width + rel.width) (words_of rel.width rel.queries) queries query-fits y.held
