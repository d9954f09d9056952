-- Every call keeps what record and stores hold in step with a book that is fed the call's arguments and its
-- answer: fresh makes the beginning, an accepted call does what document 01 says of it, a refused one nothing,
-- and a set list joins as many pairs as its answer counts.
--
-- The refusals of each call are its second clause on the number; what is left is the accepted case.
-- Assumes nothing.
use Prim.Native.Nat.{ℕ, zero, suc, ◌+◌, ◌≤◌}
use mathlib.Core.Path.{◌≡◌, refl, ap, ap₂, ◌∙◌, subst}
use mathlib.Core.Bool.{true, false}
use mathlib.Core.List.{List, [], ◌∷◌, ◌++◌, map-id}
use native.Mathlib.Nat.{not-suc-le-zero}
use native.Mathlib.Omega.{arith}
use lib.Dec.{eqb}
use lib.ListN.{length, set, take, replicate, length-set, length-append}
use Rattle.std.specs.Prelude.{Ok}
use Rattle.limits.specs.Numbers.{max_count}
use Rattle.limits.specs.Questions.{ask, ◌▸◌, on_yes}
use Rattle.words.specs.Pieces.{flat, words_of}
use Rattle.words.specs.Store.{all_below, put_words}
use Rattle.uses.specs.Uses.{uses_after, stray_after, UseCounts}
use Rattle.uses.proofs.Right.{none-counted, joined-counted}
use Rattle.allocator.specs.Slots.{Pair, pair, pairs, pair_no, with_pair, grown_slots, ran, set_run}
use Rattle.allocator.proofs.Run.{run_length, after-length}
use Rattle.allocator.specs.Values.{joins}
use Rattle.expr.specs.Equation.{Term, Equation, equation, equation_words}
use Rattle.permutation.specs.Numbers.{new_relation_no, allocate_vars_no, set_var_no, set_vars_no}
use Rattle.recording.specs.Numbers.{add_permutation_no, allocate_permutation_no, add_equation_no}
use Rattle.limits.specs.Outcome.{outcome_number, outcome_of}
use Rattle.permutation.specs.Answers.{relation, first_number, first_of, new_relation, new_slots, new_uses, more_vars, allocate_vars, allocate_vars_slots, set_var_slots, set_vars, set_vars_run, set_vars_slots}
use Rattle.recording.specs.Relation.{up_from}
use Rattle.recording.specs.Answers.{one_query, one_equation, queries_with, add_permutation, add_permutation_queries, add_permutation_uses, allocate_permutation, allocate_permutation_slots, allocate_permutation_queries, allocate_permutation_uses, add_equation, add_equation_equations}
use Rattle.permutation.specs.State.{HoldsSlots}
use Rattle.recording.specs.State.{HoldsQueries, Holds}
use Rattle.permutation.specs.declared.PermutationRelation.{PermutationRelation}
use Rattle.permutation.proofs.Accepted.{New, new-yes, allocate_vars-yes, set_var-yes}
use Rattle.recording.proofs.Accepted.{add_permutation-yes, allocate_permutation-yes, add_equation-yes}
use Rattle.recording.proofs.Minted.{up_from-length}
use Rattle.permutation.proofs.Slots.{fresh_holds, grown-length, grown-holds, set_holds, after_holds, run_holds}
use Rattle.recording.proofs.Stores.{up_from-below, query-below, query-holds, equation-holds}

none_below : all_below max_count [] ≡ true
unfolding all_below
none_below = refl

-- ---- fresh, whatever lies in the stores
pub new-holds : (width : ℕ) (slots queries equations uses : List ℕ) → outcome_number (new_relation width slots uses).outcome ≡ 0
    → Holds width (new_relation width slots uses).relation (new_slots width slots uses) queries equations (new_uses width slots uses)
    1 (pair 0 0 ∷ []) [] []
new-holds width slots queries equations uses z =
    go (new_relation_no width (length slots) (length uses)) (new-yes width (length slots) (length uses)) z
  where
    go : (k : ℕ) → (k ≡ 0 → New width (length slots) (length uses)) → outcome_number (outcome_of k) ≡ 0
        → Holds width (on_yes k (relation width 1 0 0 0 0) (relation 0 0 0 0 0 0)) (on_yes k (set slots 0 0) slots) queries equations
        (on_yes k (replicate (length uses) 0) uses) 1 (pair 0 0 ∷ []) [] []
    go zero f z =
        let y = f refl in record {
          least = y.least;
          most = y.most;
          width_is = refl;
          count = refl;
          in_slots = fresh_holds slots y.room y.store;
          in_queries = record { counts = refl; widths = tt; below = none_below; begins = record { rest = queries; is = refl }; sized = λ h. absurd (not-suc-le-zero h) };
          in_equations = record { counts = refl; words = refl; below = refl; begins = record { rest = equations; is = refl }; sized = λ h. absurd (not-suc-le-zero h) };
          counts = rw (length-set slots 0 0, y.same) (none-counted (length slots));
        }
    go (suc k) f z = absurd (omega arith)

module _ (width : ℕ) (rel : PermutationRelation) (slots queries equations uses : List ℕ)
    (n : ℕ) (sets : List Pair) (asked : List (List ℕ)) (stated : List Equation)
    (o : Holds width rel slots queries equations uses n sets asked stated) where
  -- a query of the record's width joins
  query-joins : (input output : List ℕ) → length input ≡ rel.width → length output ≡ rel.width
      → all_below max_count input ≡ true → all_below max_count output ≡ true
      → length queries ≤ max_count → words_of rel.width (rel.queries + 1) ≤ length queries
      → HoldsQueries width (rel.queries + 1) (queries_with rel (input ++ output) queries) (asked ++ ((input ++ output) ∷ []))
  query-joins input output i u a b m r =
      rw o.width_is
      (query-holds width rel.queries queries asked (input ++ output)
      (length-append input output ∙ ap₂ (λ (k l : ℕ). k + l) (i ∙ o.width_is) (u ∙ o.width_is))
      (query-below input output a b) m (rw o.width_is at r) o.in_queries)

  -- the first new wire is the book's number as it was before
  first-is : (k : ℕ) → first_number (first_of k rel.vars) ≡ 0 → first_of k rel.vars ≡ Ok n
  first-is zero z = ap Ok o.count
  first-is (suc k) z = absurd (omega arith)

  -- ---- allocate
  pub allocate_vars-keeps : (a : ℕ)
      → Holds width (allocate_vars rel slots a).relation (allocate_vars_slots rel slots a) queries equations uses
      (on_yes (first_number (allocate_vars rel slots a).first) (n + a) n) sets asked stated
  allocate_vars-keeps a =
      go (allocate_vars_no rel (length slots) a)
      (λ z.
      let y = allocate_vars-yes rel (length slots) a z in
      record {
        least = o.least;
        most = o.most;
        width_is = o.width_is;
        count = ap (λ (k : ℕ). k + a) o.count;
        in_slots = grown-holds rel.vars a slots y.room sets o.in_slots;
        in_queries = o.in_queries;
        in_equations = o.in_equations;
        counts = rw (grown-length rel.vars a slots y.room) o.counts;
      })
    where
      go : (k : ℕ) → (k ≡ 0 → Holds width (more_vars rel a) (grown_slots rel.vars a slots) queries equations uses (n + a) sets asked stated)
          → Holds width (on_yes k (more_vars rel a) rel) (on_yes k (grown_slots rel.vars a slots) slots) queries equations uses
          (on_yes (first_number (first_of k rel.vars)) (n + a) n) sets asked stated
      go zero f = f refl
      go (suc k) f = o

  pub allocate_vars-first : (a : ℕ) → first_number (allocate_vars rel slots a).first ≡ 0 → (allocate_vars rel slots a).first ≡ Ok n
  allocate_vars-first a = first-is (allocate_vars_no rel (length slots) a)

  -- only the slots and the sets change
  pub with-slots : (slots₁ : List ℕ) (sets₁ : List Pair) → length slots₁ ≡ length slots → HoldsSlots rel.vars slots₁ sets₁
      → Holds width rel slots₁ queries equations uses n sets₁ asked stated
  with-slots slots₁ sets₁ l h = record {
    least = o.least;
    most = o.most;
    width_is = o.width_is;
    count = o.count;
    in_slots = h;
    in_queries = o.in_queries;
    in_equations = o.in_equations;
    counts = rw l o.counts;
  }

  -- ---- set
  pub set_var-keeps : (p : Pair)
      → Holds width rel (set_var_slots rel slots p) queries equations uses n (on_yes (set_var_no rel slots p) (p ∷ sets) sets) asked stated
  set_var-keeps p =
      go (set_var_no rel slots p)
      (λ z. with-slots (with_pair slots p) (p ∷ sets) (length-set slots p.var p.value)
      (set_holds rel.vars slots p (set_var-yes rel slots p z) sets o.in_slots))
    where
      go : (k : ℕ) → (k ≡ 0 → Holds width rel (with_pair slots p) queries equations uses n (p ∷ sets) asked stated)
          → Holds width rel (on_yes k (with_pair slots p) slots) queries equations uses n (on_yes k (p ∷ sets) sets) asked stated
      go zero f = f refl
      go (suc k) f = o

  -- ---- set list, accepted or refused: as many of its first pairs join as its answer counts
  set_vars-length : (vars values : List ℕ) → length (set_vars_slots rel slots vars values) ≡ length slots
  unfolding set_vars_run
  set_vars-length vars values =
      let r = set_run rel.vars slots (pairs vars values) in
      after-length (set_vars_no rel (length slots) vars values)
      (ran (r.number ▸ ask 9 (eqb (length vars) (length values))) r.accepted r.fresh r.slots) slots
      (run_length (pair_no rel.vars) (λ p. p) (pairs vars values) slots)

  pub set_vars-keeps : (vars values : List ℕ)
      → Holds width rel (set_vars_slots rel slots vars values) queries equations uses n
      (joins sets (take (set_vars rel slots vars values).accepted (pairs vars values))) asked stated
  unfolding set_vars_run
  set_vars-keeps vars values =
      with-slots (set_vars_slots rel slots vars values) (joins sets (take (set_vars rel slots vars values).accepted (pairs vars values)))
      (set_vars-length vars values)
      (subst (λ (ps : List Pair). HoldsSlots rel.vars (set_vars_slots rel slots vars values) (joins sets ps))
      (map-id (take (set_vars rel slots vars values).accepted (pairs vars values)))
      (after_holds (λ p. p) rel.vars sets (pairs vars values) (set_vars_no rel (length slots) vars values) _ slots
      (run_holds (λ p. p) rel.vars (pair_no rel.vars) (λ s p q. q) (pairs vars values) slots sets o.in_slots) o.in_slots))

  -- ---- record
  pub add_permutation-keeps : (input output : List ℕ)
      → Holds width (add_permutation rel (length slots) queries uses input output).relation slots
      (add_permutation_queries rel (length slots) queries uses input output) equations (add_permutation_uses rel (length slots) queries uses input output) n sets
      (on_yes (outcome_number (add_permutation rel (length slots) queries uses input output).outcome) (asked ++ ((input ++ output) ∷ [])) asked) stated
  add_permutation-keeps input output =
      go (add_permutation_no rel (length slots) (length queries) uses input output)
      (λ z.
      let y = add_permutation-yes rel (length slots) (length queries) uses input output z in
      record {
        least = o.least;
        most = o.most;
        width_is = o.width_is;
        count = o.count;
        in_slots = o.in_slots;
        in_queries = query-joins input output y.inputs y.outputs y.input_vars y.output_vars y.store y.room;
        in_equations = o.in_equations;
        counts = joined-counted (length slots) asked (input ++ output) uses rel.stray o.counts;
      })
    where
      new : PermutationRelation
      new = one_query rel (length slots) (input ++ output)

      go : (k : ℕ)
          → (k ≡ 0 → Holds width new slots (queries_with rel (input ++ output) queries) equations (uses_after false uses (input ++ output)) n sets
          (asked ++ ((input ++ output) ∷ [])) stated)
          → Holds width (on_yes k new rel) slots (on_yes k (queries_with rel (input ++ output) queries) queries) equations
          (on_yes k (uses_after false uses (input ++ output)) uses) n sets
          (on_yes (outcome_number (outcome_of k)) (asked ++ ((input ++ output) ∷ [])) asked) stated
      go zero f = f refl
      go (suc k) f = o

  -- ---- mint: its outputs are the wires from the book's number on
  pub allocate_permutation-keeps : (input : List ℕ)
      → Holds width (allocate_permutation rel slots queries uses input).relation (allocate_permutation_slots rel slots queries uses input)
      (allocate_permutation_queries rel slots queries uses input) equations (allocate_permutation_uses rel slots queries uses input)
      (on_yes (first_number (allocate_permutation rel slots queries uses input).first) (n + width) n) sets
      (on_yes (first_number (allocate_permutation rel slots queries uses input).first) (asked ++ ((input ++ up_from n width) ∷ [])) asked) stated
  allocate_permutation-keeps input =
      go (allocate_permutation_no rel (length slots) (length queries) uses input)
      (λ z.
      let y = allocate_permutation-yes rel (length slots) (length queries) uses input z in
      record {
        least = o.least;
        most = o.most;
        width_is = o.width_is;
        count = ap₂ (λ (k m : ℕ). k + m) o.count o.width_is;
        in_slots = grown-holds rel.vars rel.width slots y.slot_room sets o.in_slots;
        in_queries =
            subst
            (λ (l : List ℕ). HoldsQueries width (rel.queries + 1) (queries_with rel cells queries) (asked ++ ((input ++ l) ∷ [])))
            (ap₂ up_from o.count o.width_is)
            (query-joins input outputs y.inputs (up_from-length rel.vars rel.width) y.input_vars
            (up_from-below max_count rel.vars rel.width y.most) y.store y.room);
        in_equations = o.in_equations;
        counts =
            subst
            (λ (l : List ℕ). UseCounts (length grown) (flat (asked ++ ((input ++ l) ∷ []))) (uses_after false uses cells) (stray_after false (length slots) rel.stray cells))
            (ap₂ up_from o.count o.width_is)
            (rw (grown-length rel.vars rel.width slots y.slot_room)
            (joined-counted (length slots) asked cells uses rel.stray o.counts));
      })
    where
      outputs : List ℕ
      outputs = up_from rel.vars rel.width

      cells : List ℕ
      cells = input ++ outputs

      grown : List ℕ
      grown = grown_slots rel.vars rel.width slots

      new : PermutationRelation
      new = one_query (more_vars rel rel.width) (length slots) cells

      go : (k : ℕ)
          → (k ≡ 0 → Holds width new grown (queries_with rel cells queries) equations (uses_after false uses cells)
          (n + width) sets (asked ++ ((input ++ up_from n width) ∷ [])) stated)
          → Holds width (on_yes k new rel) (on_yes k grown slots)
          (on_yes k (queries_with rel cells queries) queries) equations (on_yes k (uses_after false uses cells) uses)
          (on_yes (first_number (first_of k rel.vars)) (n + width) n) sets
          (on_yes (first_number (first_of k rel.vars)) (asked ++ ((input ++ up_from n width) ∷ [])) asked) stated
      go zero f = f refl
      go (suc k) f = o

  pub allocate_permutation-first : (input : List ℕ) → first_number (allocate_permutation rel slots queries uses input).first ≡ 0
      → (allocate_permutation rel slots queries uses input).first ≡ Ok n
  allocate_permutation-first input = first-is (allocate_permutation_no rel (length slots) (length queries) uses input)

  -- ---- equation
  pub add_equation-keeps : (terms : List Term) (image : ℕ)
      → Holds width (add_equation rel equations terms image).relation slots queries (add_equation_equations rel equations terms image) uses n sets asked
      (on_yes (outcome_number (add_equation rel equations terms image).outcome) (stated ++ (equation terms image ∷ [])) stated)
  add_equation-keeps terms image =
      go (add_equation_no rel (length equations) terms image)
      (λ z.
      let y = add_equation-yes rel (length equations) terms image z in
      record {
        least = o.least;
        most = o.most;
        width_is = o.width_is;
        count = o.count;
        in_slots = o.in_slots;
        in_queries = o.in_queries;
        in_equations =
            equation-holds rel.equations rel.words equations stated terms image
            y.vars y.weights y.unit y.store y.room o.in_equations;
        counts = o.counts;
      })
    where
      new : PermutationRelation
      new = one_equation rel (length terms)

      store : List ℕ
      store = put_words rel.words (equation_words (equation terms image)) equations

      go : (k : ℕ) → (k ≡ 0 → Holds width new slots queries store uses n sets asked (stated ++ (equation terms image ∷ [])))
          → Holds width (on_yes k new rel) slots queries (on_yes k store equations) uses n sets asked
          (on_yes (outcome_number (outcome_of k)) (stated ++ (equation terms image ∷ [])) stated)
      go zero f = f refl
      go (suc k) f = o
