-- A withdrawal: its number in two parts, what is asked before a query's counts or an equation's walk, and what is asked
-- then; and what it answers and leaves where one says no. Assumes nothing.
use Prim.Native.Nat.{ℕ, zero, suc, ◌+◌, ◌-◌, ◌≤◌, ◌<◌}
use mathlib.Core.Path.{◌≡◌, refl, sym, ap, ap₂, ◌∙◌}
use mathlib.Core.Bool.{true}
use mathlib.Core.List.{List, [], ◌∷◌, ◌++◌, append_assoc, append-nil}
use native.Mathlib.Omega.{arith}
use native.Mathlib.Nat.{add-sub_cancel_left}
use borrow.Author.Tests.{ltb-true, leb-true}
use lib.Dec.{ltb}
use lib.ListN.{length, take, drop}
use Rattle.std.specs.Prelude.{Result, Ok, Err}
use Rattle.limits.specs.Outcome.{Outcome, as_is, answer_of}
use Rattle.limits.specs.declared.Refused.{Refused}
use Rattle.limits.specs.Questions.{ask, ◌▸◌, Question, question, first_no}
use Rattle.limits.specs.Asks.{store_asks}
use Rattle.limits.proofs.Answered.{accepted-zero, refused-number, refused-own, store-refused, store-accepted}
use Rattle.limits.proofs.Questions.{goes_on, stays, ▸-zero, first_no-append, puts, puts-yes}
use Rattle.expr.specs.Equation.{size_at, equations_end, ends_right}
use Rattle.uses.specs.Uses.{stray_after, uses_asks, CountsCells}
use Rattle.uses.proofs.Left.{counts-answer, uses-left, same-cells}
use Rattle.words.specs.Pieces.{words_of}
use Rattle.permutation.specs.Records.{relation, recorded}
use Rattle.permutation.specs.Relation.{relation_asks, queries_asks}
use Rattle.permutation.proofs.Answered.{recorded-refused, recorded-accepted}
use Rattle.permutation.specs.declared.PermutationRelation.{PermutationRelation}
use Rattle.strike.specs.Strike.{fit_struck}
use Rattle.recording.specs.Relation.{add_equation_sizes}
use Rattle.withdraw.specs.Relation.{withdraw_equation_no, cells_at, withdraw_query_no}
use Rattle.withdraw.specs.Answers.{place_of, size_of, less_equation, withdraw_query_uses}
use Rattle.withdraw.specs.Effects.{WithdrawsEquation, WithdrawsQuery}
use Rattle.withdraw.proofs.Accepted.{WithdrawEquation, withdraw_equation-yes, size_fits, equation-struck, piece-fits, withdraw_query-yes, query-struck}

-- what is answered where it is accepted
value_is : {A : Type 0} (k : ℕ) {a b : A} {r : Result A Refused} → r ≡ answer_of k a → r ≡ Ok b → b ≡ a
value_is zero is was = cc
value_is (suc k) is was = cc

-- ---- a number in two parts: the sizes with 45, and what is asked last
module _ (sizes : List Question) (some : Question) (last : List Question) where
  abbrev front : List Question
  front = sizes ++ (some ∷ [])

  parts : first_no (sizes ++ (some ∷ last)) ≡ first_no front ▸ first_no last
  parts = ap first_no (sym (append_assoc sizes (some ∷ []) last)) ∙ first_no-append front last

  early : (k : ℕ) → first_no front ≡ k → (k ≡ 0 → ⊥) → k ≡ first_no (sizes ++ (some ∷ last))
  early k e h = sym (parts ∙ ap (λ (m : ℕ). m ▸ first_no last) e ∙ stays k (first_no last) h)

  late : first_no front ≡ 0 → first_no last ≡ first_no (sizes ++ (some ∷ last))
  late z = sym (parts ∙ goes_on (first_no front) (first_no last) z)

-- ---- a query
-- refused: everything stays
pub query-refused : (rel : PermutationRelation) (slots queries uses : List ℕ) (i : ℕ) {o : Outcome} {e : Refused} → o ≡ Err e
    → e.0 ≡ withdraw_query_no rel (length slots) queries uses i → (e.0 ≡ 0 → ⊥)
    → WithdrawsQuery as_is rel slots queries uses i (recorded o rel) queries uses
query-refused rel slots queries uses i {e = e} is n h = record {
  answer = ap (λ (o : Outcome). recorded o rel) is ∙ recorded-refused _ e.0 n _ rel h;
  queries = store-refused _ e.0 n _ queries h;
  uses = store-refused _ e.0 n _ uses h;
}

module _ (rel : PermutationRelation) (slots queries uses : List ℕ) (i : ℕ) where
  abbrev query-front : List Question
  query-front = relation_asks rel (length slots) ++ (queries_asks rel (length queries) ++ store_asks (length uses))

  abbrev query-some : Question
  query-some = question 45 (ltb i rel.queries)

  abbrev query-last : List Question
  query-last = uses_asks true (length slots) uses rel.stray (cells_at rel queries i)

  pub query-early : {k : ℕ} → first_no (query-front ++ (query-some ∷ [])) ≡ k → (k ≡ 0 → ⊥) → k ≡ withdraw_query_no rel (length slots) queries uses i
  unfolding withdraw_query_no
  query-early {k} e h = early query-front query-some query-last k e h

  module _ (z : first_no (query-front ++ (query-some ∷ [])) ≡ 0) where
    -- the query lies in the store
    pub query-in : words_of rel.width i + (rel.width + rel.width) ≤ length queries
    query-in =
        let says = puts-yes (query-front ++ (query-some ∷ [])) z in
        let f = piece-fits rel.width i rel.queries (ltb-true _ _ (says 45 _ tt (search puts depth 20))) in
        let h : words_of rel.width rel.queries ≤ length queries = leb-true _ _ (says 2 _ tt (search puts depth 20)) in
        omega arith

    query-late : first_no query-last ▸ 0 ≡ withdraw_query_no rel (length slots) queries uses i
    unfolding withdraw_query_no
    query-late = ▸-zero _ ∙ late query-front query-some query-last z

    -- its cells counted, and what that answers and leaves
    module _ (cells : List ℕ) (c : cells ≡ take (words_of rel.width i + (rel.width + rel.width) - words_of rel.width i) (drop (words_of rel.width i) queries))
        (r : Result ℕ Refused) (left : List ℕ) (t : CountsCells true (length slots) uses rel.stray (cells ++ []) (Ok tt) r left) where
      counts : CountsCells true (length slots) uses rel.stray (cells_at rel queries i) (Ok tt) r left
      counts =
          same-cells true _ _ _ _ _ _ _ t _
          (append-nil cells ∙ c
          ∙ ap (λ (k : ℕ). take k (drop (words_of rel.width i) queries)) (add-sub_cancel_left (words_of rel.width i) (rel.width + rel.width)))

      counted : r ≡ answer_of (withdraw_query_no rel (length slots) queries uses i) (stray_after true (length slots) rel.stray (cells_at rel queries i))
      counted =
          counts-answer true _ _ _ _ _ _ _ counts 0 refl
          ∙ ap (λ (k : ℕ). answer_of k (stray_after true (length slots) rel.stray (cells_at rel queries i))) query-late

      uses_are : left ≡ withdraw_query_uses rel (length slots) queries uses i
      uses_are = uses-left true _ _ _ _ _ _ _ counts 0 refl _ query-late

      -- 11 or 10: everything stays
      pub counted-refused : {o : Outcome} {e : Refused} → o ≡ Err e → r ≡ Err e → WithdrawsQuery as_is rel slots queries uses i (recorded o rel) queries left
      counted-refused is was =
          let w = query-refused rel slots queries uses i is (sym (refused-number _ _ counted was)) (refused-own _ _ counted was) in
          record { answer = w.answer; queries = w.queries; uses = uses_are }

      -- the query is struck
      pub query-withdrawn : (stray : ℕ) → r ≡ Ok stray → (rest : List ℕ)
          → rest ≡ fit_struck (words_of rel.width i) (rel.width + rel.width) (words_of rel.width rel.queries) queries
          → WithdrawsQuery as_is rel slots queries uses i
          (recorded (Ok tt) (relation rel.width rel.vars (rel.queries - 1) rel.equations rel.words stray)) rest left
      query-withdrawn stray was rest l =
          let no = accepted-zero _ _ counted was in
          let y = withdraw_query-yes rel (length slots) queries uses i no in
          record {
            answer =
                ap (λ (n : ℕ). recorded (Ok tt) (relation rel.width rel.vars (rel.queries - 1) rel.equations rel.words n))
                (value_is (withdraw_query_no rel (length slots) queries uses i) counted was)
                ∙ recorded-accepted _ 0 (sym no) _ rel refl;
            queries = l ∙ query-struck rel (length slots) queries uses i y ∙ store-accepted _ 0 (sym no) _ queries refl;
            uses = uses_are;
          }

-- ---- an equation
-- refused: everything stays
pub equation-refused : (rel : PermutationRelation) (equations : List ℕ) (i : ℕ) {o : Outcome} {e : Refused} → o ≡ Err e
    → e.0 ≡ withdraw_equation_no rel equations i → (e.0 ≡ 0 → ⊥)
    → WithdrawsEquation as_is rel equations i (recorded o rel) equations
equation-refused rel equations i {e = e} is n h = record {
  answer = ap (λ (o : Outcome). recorded o rel) is ∙ recorded-refused _ e.0 n _ rel h;
  equations = store-refused _ e.0 n _ equations h;
}

module _ (rel : PermutationRelation) (equations : List ℕ) (i : ℕ) where
  abbrev equation-front : List Question
  equation-front = add_equation_sizes rel (length equations)

  abbrev equation-has : Question
  equation-has = question 45 (ltb i rel.equations)

  abbrev equation-last : Question
  equation-last = question 11 (ends_right rel.equations (take rel.words equations))

  pub equation-early : {k : ℕ} → first_no (equation-front ++ (equation-has ∷ [])) ≡ k → (k ≡ 0 → ⊥) → k ≡ withdraw_equation_no rel equations i
  unfolding withdraw_equation_no
  equation-early {k} e h = early equation-front equation-has (equation-last ∷ []) k e h

  module _ (z : first_no (equation-front ++ (equation-has ∷ [])) ≡ 0) where
    pub equation-some : i < rel.equations
    equation-some = ltb-true _ _ (puts-yes (equation-front ++ (equation-has ∷ [])) z 45 _ tt (search puts depth 20))

    equation-late : ask 11 (ends_right rel.equations (take rel.words equations)) ≡ withdraw_equation_no rel equations i
    unfolding withdraw_equation_no
    equation-late = sym (▸-zero _) ∙ late equation-front equation-has (equation-last ∷ []) z

    -- the walk over the used words, and what it answers
    module _ (held : List ℕ) (w : held ≡ take rel.words equations) (r : Result ℕ Refused)
        (e : r ≡ answer_of (ask 11 (ends_right rel.equations held)) (equations_end i held)) where
      walked : r ≡ answer_of (withdraw_equation_no rel equations i) (place_of rel equations i)
      walked = e ∙ rw w (ap (λ (k : ℕ). answer_of k (place_of rel equations i)) equation-late)

      -- 11: everything stays
      pub walked-refused : {o : Outcome} {e : Refused} → o ≡ Err e → r ≡ Err e → WithdrawsEquation as_is rel equations i (recorded o rel) equations
      walked-refused is was = equation-refused rel equations i is (sym (refused-number _ _ walked was)) (refused-own _ _ walked was)

      -- a place: the equation there is struck
      module _ (at : ℕ) (was : r ≡ Ok at) (size : ℕ) (s : size ≡ size_at (drop at held)) where
        no : withdraw_equation_no rel equations i ≡ 0
        no = accepted-zero _ _ walked was

        y : WithdrawEquation rel equations i
        y = withdraw_equation-yes rel equations i no

        placed : at ≡ place_of rel equations i
        placed = value_is (withdraw_equation_no rel equations i) walked was

        sized : size ≡ size_of rel equations i
        sized = s ∙ ap₂ (λ (m : ℕ) (l : List ℕ). size_at (drop m l)) placed w

        pub size_used : size ≤ rel.words
        size_used = let f = size_fits rel equations i y in omega (arith, sized)

        pub equation-withdrawn : (left : List ℕ) → left ≡ fit_struck at size rel.words equations
            → WithdrawsEquation as_is rel equations i (recorded (Ok tt) (less_equation rel size)) left
        equation-withdrawn left l = record {
          answer =
              ap (λ (m : ℕ). recorded (Ok tt) (less_equation rel m)) sized ∙ recorded-accepted _ 0 (sym no) _ rel refl;
          equations =
              l
              ∙ ap₂ (λ (m n : ℕ). fit_struck m n rel.words equations) placed sized
              ∙ equation-struck rel equations i y
              ∙ store-accepted _ 0 (sym no) _ equations refl;
        }
