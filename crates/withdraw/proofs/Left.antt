-- Where record and stores are in step with a book, a withdrawal's number is the first no of what the book and the sizes
-- leave open: the counts are those of the book's cells, and the equations end at the used words. Assumes nothing.
use Prim.Native.Nat.{ℕ, suc, ◌+◌, ◌*◌, ◌≤◌, ◌<◌}
use mathlib.Core.Path.{◌≡◌, refl, sym, ap, ◌∙◌}
use mathlib.Core.Bool.{Bool, true, false}
use mathlib.Core.List.{List, [], ◌∷◌, ◌++◌}
use native.Mathlib.Omega.{arith}
use borrow.Author.Tests.{le-leb, leb-true, ltb-true, eq-eqb}
use lib.Dec.{ltb, leb}
use lib.ListN.{length, take, drop, get_or}
use Rattle.limits.specs.Numbers.{max_count}
use Rattle.limits.specs.Questions.{ask, ◌▸◌, Question, question, first_no}
use Rattle.limits.specs.Asks.{store_asks}
use Rattle.limits.proofs.Questions.{goes_on, stays, ask-yes, ask-no}
use Rattle.words.specs.Pieces.{words_of, flat}
use Rattle.words.proofs.Held.{begins-fits, flat-length}
use Rattle.uses.specs.Uses.{uses_fit, uses_asks}
use Rattle.allocator.specs.Slots.{Pair}
use Rattle.expr.specs.Equation.{Equation, equations_words, equations_end, ends_right}
use Rattle.expr.proofs.Held.{two-each}
use Rattle.permutation.specs.Sharing.{after_five}
use Rattle.permutation.specs.Relation.{queries_asks}
use Rattle.permutation.specs.declared.PermutationRelation.{PermutationRelation}
use Rattle.recording.specs.State.{Holds}
use Rattle.recording.proofs.Left.{after-width, after-count, after-relation, uses-long}
use Rattle.withdraw.specs.Relation.{withdraw_equation_asks_with, cells_at, withdraw_query_asks_with}
use Rattle.withdraw.specs.Left.{withdraw_left}
use Rattle.withdraw.proofs.Withdrawn.{cells_are, counts-fit, ends-are}

-- what comes after a question only counts where that says yes
after-no : (k : ℕ) (b : Bool) (x y : ℕ) → (b ≡ true → x ≡ y) → ask (suc k) b ▸ x ≡ ask (suc k) b ▸ y
after-no k true x y f = ap (λ (n : ℕ). ask (suc k) true ▸ n) (f refl)
after-no k false x y f =
    let no : ask (suc k) false ≡ 0 → ⊥ = λ e. absurd (omega (arith, ask-no (suc k) false refl)) in
    stays _ _ no ∙ sym (stays _ _ no)

ends-true : (count : ℕ) (held : List ℕ) → equations_end count held ≡ length held → ask 11 (ends_right count held) ▸ 0 ≡ 0
ends-true count held z = goes_on _ _ (ask-yes 11 _ (eq-eqb _ _ z))

module _ (width : ℕ) (rel : PermutationRelation) (slots queries equations uses : List ℕ)
    (n : ℕ) (sets : List Pair) (asked : List (List ℕ)) (stated : List Equation)
    (o : Holds width rel slots queries equations uses n sets asked stated) where
  long : length uses ≡ length slots
  long = uses-long width rel slots queries equations uses n sets asked stated o

  held_fits : words_of rel.width rel.queries ≤ length queries
  held_fits =
      let q = o.in_queries in
      let l = flat-length (width + width) asked q.widths in
      let f = begins-fits (flat asked) queries q.begins in
      rw (o.width_is, q.counts) (omega arith)

  -- ---- a query: 11 and 10 never say no
  pub withdraw_query-left : (within : ℕ → List Question) (i : ℕ)
      → first_no (withdraw_query_asks_with (after_five within) rel (length slots) queries uses i) ≡ first_no (withdraw_left (length asked) (length queries) i)
  withdraw_query-left within i =
      let q = o.in_queries in
      let u : length uses ≤ max_count = omega (arith, long, o.in_slots.most) in
      let last = uses_asks true (length slots) uses rel.stray (cells_at rel queries i) in
      after-relation width rel slots queries equations uses n sets asked stated o
      (queries_asks rel (length queries) ++ (store_asks (length uses) ++ (question 45 (ltb i rel.queries) ∷ last)))
      ∙ after-no 1 (leb (length queries) max_count) _ _
      (λ m.
      goes_on _ _ (ask-yes 2 _ (le-leb _ _ held_fits))
      ∙ goes_on _ _ (ask-yes 2 _ (le-leb _ _ u))
      ∙ ap (λ (k : ℕ). ask 45 (ltb i k) ▸ first_no last) q.counts
      ∙ after-no 44 (ltb i (length asked)) _ _
      (λ b.
      let h : i < rel.queries = omega (arith, q.counts, ltb-true i (length asked) b) in
      let c : cells_at rel queries i ≡ get_or asked i [] =
      ap (λ (w : ℕ). take (w + w) (drop (words_of w i) queries)) o.width_is ∙ cells_are width rel.queries queries asked q i h in
      let f = counts-fit width rel.queries queries asked q i h (length slots) uses rel.stray o.counts (leb-true _ _ m) in
      goes_on _ _ (ask-yes 11 _ (ap (uses_fit true (length slots) uses rel.stray) c ∙ f))
      ∙ goes_on _ _ (ask-yes 10 _ (eq-eqb _ _ long))))

  -- ---- an equation: 11 never says no
  pub withdraw_equation-left : (within : ℕ → List Question) (i : ℕ)
      → first_no (withdraw_equation_asks_with (after_five within) rel equations i) ≡ first_no (withdraw_left (length stated) (length equations) i)
  withdraw_equation-left within i =
      let e = o.in_equations in
      let f = begins-fits (equations_words stated) equations e.begins in
      let t = two-each stated in
      let w : rel.words ≤ length equations = omega (arith, e.words) in
      let m : 2 * rel.equations ≤ length equations = omega (arith, e.counts) in
      after-width width rel slots queries equations uses n sets asked stated o _
      ∙ ap (λ (k : ℕ). ask 2 (leb (length equations) max_count) ▸ k)
      (goes_on _ _ (ask-yes 2 _ (le-leb _ _ w))
      ∙ goes_on _ _ (ask-yes 2 _ (le-leb _ _ m))
      ∙ after-count width rel slots queries equations uses n sets asked stated o _
      ∙ ap (λ (k : ℕ). ask 45 (ltb i k) ▸ (ask 11 (ends_right rel.equations (take rel.words equations)) ▸ 0)) e.counts
      ∙ after-no 44 (ltb i (length stated)) _ _
      (λ b.
      let h : i < rel.equations = omega (arith, o.in_equations.counts, ltb-true i (length stated) b) in
      ends-true rel.equations (take rel.words equations) (ends-are rel.equations rel.words equations stated o.in_equations i h)))
