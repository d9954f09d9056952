-- Where record and stores are in step with a book, each call's number is the first no of what the book and the
-- sizes leave open: the other questions are settled by what is held. Assumes nothing.
use Prim.Native.Nat.{ℕ, zero, suc, ◌+◌, ◌*◌, ◌≤◌, ◌<◌}
use mathlib.Core.Path.{◌≡◌, refl, sym, ap, ap₂, subst, ◌∙◌}
use mathlib.Core.Bool.{Bool, true, false, not, ◌&&◌}
use mathlib.Core.List.{List, [], ◌∷◌, ◌++◌}
use native.Mathlib.Omega.{arith}
use borrow.Author.Tests.{le-leb, leb-true, leb-false, eq-eqb, eqb-true}
use lib.Dec.{T, eqb, ltb, leb}
use lib.ListN.{length, length-append}
use Rattle.limits.specs.Outcome.{refusal}
use Rattle.std.specs.Prelude.{Err, Ok}
use Rattle.allocator.specs.VarValue.{VarValue}
use Rattle.limits.specs.Numbers.{prime, max_count, max_width}
use Rattle.limits.specs.Questions.{ask, first_of_two, ◌▸◌, Question, question, first_no, on_yes}
use Rattle.limits.specs.Asks.{store_asks}
use Rattle.limits.proofs.Questions.{goes_on, ask-yes, ▸-zero, first_no-append, puts, puts-yes}
use Rattle.words.specs.Store.{all_below}
use Rattle.words.specs.Pieces.{words_of, flat, half_asks, halves_asks}
use Rattle.words.proofs.Pieces.{words_of-suc}
use Rattle.words.proofs.Held.{begins-fits, flat-length}
use Rattle.uses.specs.Uses.{strays, uses_of, uses_fit}
use Rattle.uses.proofs.Counts.{uses-length}
use Rattle.uses.proofs.Fits.{join-fits}
use Rattle.allocator.specs.Slots.{Pair, pairs, ran, set_run, most_asks, room_asks, grow_asks_with, pair_asks, pair_no}
use Rattle.permutation.specs.Sharing.{after_five}
use Rattle.expr.specs.Equation.{Term, Equation, term_vars, term_weights, equation_size, equations_words}
use Rattle.expr.proofs.Held.{two-each}
use Rattle.permutation.specs.Relation.{relation_asks, queries_asks, allocate_vars_asks_with}
use Rattle.recording.specs.Relation.{record_asks, join_asks, up_from, mint_cells, allocate_permutation_asks_with}
use Rattle.permutation.specs.Numbers.{set_var_no, set_vars_no, value_of_no, is_allocated_no}
use Rattle.recording.specs.Numbers.{add_permutation_no, add_equation_no}
use Rattle.permutation.specs.Answers.{value_of, is_allocated, set_vars_run}
use Rattle.recording.specs.State.{Holds}
use Rattle.permutation.specs.Left.{allocate_vars_left, set_var_left, pairs_left, pairs_set, lists_left, set_vars_left, set_vars_set, value_left, is_allocated_left}
use Rattle.recording.specs.Left.{join_left, add_permutation_left, allocate_permutation_left, add_equation_left}
use Rattle.permutation.specs.declared.PermutationRelation.{PermutationRelation}
use Rattle.recording.proofs.Minted.{up_from-length}
use Rattle.permutation.proofs.Left.{pair_left_lem, RunLeft, after-left, pairs-left, slot-given}

-- ---- a number that none of the first questions has
abbrev lacks : ℕ → List Question → Bool
lacks k [] = true
lacks k (q ∷ qs) = not (eqb q.number k) && lacks k qs

not-asked : (j k : ℕ) (b : Bool) → T (not (eqb j (suc k))) → ask j b ≡ suc k → ⊥
unfolding ask
not-asked j k true t e = absurd (omega arith)
not-asked j k false t e = absurd (subst (λ (b : Bool). T (not b)) (eq-eqb j (suc k) e) t)

either : (a b k : ℕ) → (a ≡ suc k → ⊥) → a ▸ b ≡ suc k → (a ≡ 0) × (b ≡ suc k)
unfolding first_of_two
either zero b k h e = (refl, e)
either (suc a) b k h e = absurd (h e)

and_parts : (a b : Bool) → T (a && b) → T a × T b
and_parts true b t = (tt, t)
and_parts false b t = absurd t

never : (k : ℕ) (qs : List Question) → T (lacks (suc k) qs) → first_no qs ≡ suc k → ⊥
never k [] t e = absurd (omega arith)
never k (q ∷ qs) t e =
    let p = and_parts (not (eqb q.number (suc k))) (lacks (suc k) qs) t in
    never k qs p.1 (either _ _ k (not-asked q.number k q.says p.0) e).1

past : (k : ℕ) (ps qs : List Question) → (first_no ps ≡ suc k → ⊥) → first_no (ps ++ qs) ≡ suc k → (first_no ps ≡ 0) × (first_no qs ≡ suc k)
past k ps qs h e = either (first_no ps) (first_no qs) k h (sym (first_no-append ps qs) ∙ e)

-- ---- what is settled: 1, the counts, the slots
module _ (width : ℕ) (rel : PermutationRelation) (slots queries equations uses : List ℕ)
    (n : ℕ) (sets : List Pair) (asked : List (List ℕ)) (stated : List Equation)
    (o : Holds width rel slots queries equations uses n sets asked stated) where
  -- a number after the questions that are settled
  pub after-width : (k : ℕ) → ask 1 (leb 1 rel.width) ▸ (ask 1 (leb rel.width max_width) ▸ k) ≡ k
  after-width k =
      let e = o.width_is in
      let a = o.least in
      let b = o.most in
      goes_on _ _ (ask-yes 1 _ (le-leb 1 rel.width (omega arith)))
      ∙ goes_on _ _ (ask-yes 1 _ (le-leb rel.width max_width (omega arith)))

  pub after-count : (k : ℕ) → ask 2 (leb 1 rel.vars) ▸ (ask 2 (leb rel.vars max_count) ▸ k) ≡ k
  after-count k =
      let s = o.in_slots in
      goes_on _ _ (ask-yes 2 _ (le-leb 1 rel.vars s.least))
      ∙ goes_on _ _ (ask-yes 2 _ (le-leb rel.vars max_count (omega (arith, s.room, s.most))))

  pub after-relation : (qs : List Question) → first_no (relation_asks rel (length slots) ++ qs) ≡ first_no qs
  after-relation qs =
      let s = o.in_slots in
      after-width _
      ∙ goes_on _ _ (ask-yes 2 _ (le-leb (length slots) max_count s.most))
      ∙ after-count _
      ∙ goes_on _ _ (ask-yes 2 _ (le-leb rel.vars (length slots) s.room))

  -- ---- the calls on slots
  -- with what comes after 5
  pub allocate_vars-left : (within : ℕ → List Question) (a : ℕ)
      → first_no (allocate_vars_asks_with (after_five within) rel (length slots) a) ≡ first_no (allocate_vars_left (within a) n (length slots) a)
  allocate_vars-left within a =
      after-relation (grow_asks_with (within a) rel.vars (length slots) a)
      ∙ ap (λ (k : ℕ). first_no (grow_asks_with (within a) k (length slots) a)) o.count

  pub set_var-left : (p : Pair) → set_var_no rel slots p ≡ first_no (set_var_left n sets p)
  unfolding set_var_no pair_no
  set_var-left p =
      after-relation (pair_asks rel.vars slots p)
      ∙ pair_left_lem rel.vars slots sets o.in_slots p
      ∙ ap (λ (k : ℕ). first_no (set_var_left k sets p)) o.count

  before-pairs : (vars values : List ℕ) → set_vars_no rel (length slots) vars values ≡ lists_left vars values
  unfolding set_vars_no
  before-pairs vars values = after-relation (store_asks (length vars) ++ store_asks (length values))

  -- the number, and the pairs that are set
  pub set_vars-left : (vars values : List ℕ)
      → RunLeft n sets (set_vars_set n sets vars values) (set_vars_left n sets vars values) (set_vars_run rel slots vars values)
  unfolding set_vars_run
  set_vars-left vars values =
      let ps = pairs vars values in
      let nine = ask 9 (eqb (length vars) (length values)) in
      let run = set_run rel.vars slots ps in
      let l = pairs-left rel.vars ps slots sets o.in_slots in
      subst (λ (m : ℕ). RunLeft m sets (set_vars_set m sets vars values) (set_vars_left m sets vars values) (set_vars_run rel slots vars values)) o.count
      (subst (λ (k : ℕ). RunLeft rel.vars sets (on_yes k (pairs_set rel.vars sets ps) []) (k ▸ (pairs_left rel.vars sets ps ▸ nine)) (set_vars_run rel slots vars values))
      (before-pairs vars values)
      (after-left rel.vars sets _ _ (set_vars_no rel (length slots) vars values) (ran (run.number ▸ nine) run.accepted run.fresh run.slots) slots
      (record { number = ap (λ (k : ℕ). k ▸ nine) l.number; accepted = l.accepted; fresh = l.fresh; below = l.below })))

  -- ---- the calls on queries
  held-queries : ask 2 (leb (words_of rel.width rel.queries) (length queries)) ≡ 0
  held-queries =
      let q = o.in_queries in
      let l : words_of rel.width rel.queries ≡ length (flat asked) =
      ap₂ words_of o.width_is q.counts ∙ sym (flat-length (width + width) asked q.widths) in
      let f = begins-fits (flat asked) queries q.begins in
      ask-yes 2 _ (le-leb (words_of rel.width rel.queries) (length queries) (rw l f))

  -- the use store has a word per slot, so 2 and 10 of it never say no
  pub uses-long : length uses ≡ length slots
  uses-long = ap length o.counts.uses-are ∙ uses-length (length slots) (flat asked)

  held-uses : ask 2 (leb (length uses) max_count) ≡ 0
  held-uses = ask-yes 2 _ (le-leb (length uses) max_count (omega (arith, uses-long, o.in_slots.most)))

  -- 11 by the book's queries, and 10
  pub join-left : (cells : List ℕ)
      → first_no (join_asks rel (length slots) (length queries) uses cells) ≡ first_no (join_left width (length slots) asked (length queries) cells)
  join-left cells =
      ap₂ (λ (b : Bool) (k : ℕ). ask 11 b ▸ k)
      (ap₂ (λ (u : List ℕ) (s : ℕ). uses_fit false (length slots) u s cells) o.counts.uses-are o.counts.stray-is)
      (goes_on _ _ (ask-yes 10 _ (eq-eqb (length uses) (length slots) uses-long))
      ∙ ap₂ (λ (w h : ℕ). ask 10 (leb (words_of w (h + 1)) (length queries)) ▸ 0) o.width_is o.in_queries.counts)

  pub add_permutation-left : (input output : List ℕ)
      → add_permutation_no rel (length slots) (length queries) uses input output
      ≡ first_no (add_permutation_left width (length slots) asked (length queries) input output)
  unfolding add_permutation_no
  add_permutation-left input output =
      after-relation
      (queries_asks rel (length queries) ++ (store_asks (length uses) ++ (store_asks (length input) ++ (store_asks (length output)
      ++ (record_asks rel input output ++ join_asks rel (length slots) (length queries) uses (input ++ output))))))
      ∙ ap (λ (k : ℕ). ask 2 (leb (length queries) max_count) ▸ k)
      (goes_on _ _ held-queries
      ∙ goes_on _ _ held-uses
      ∙ ap₂ (λ (w k : ℕ). ask 2 (leb (length input) max_count) ▸ (ask 2 (leb (length output) max_count)
      ▸ (ask 9 (eqb (length input) w) ▸ (ask 9 (eqb (length output) w) ▸ (ask 3 (all_below max_count input) ▸ (ask 3 (all_below max_count output) ▸ k))))))
      o.width_is (join-left (input ++ output)))

  pub allocate_permutation-left : (within : ℕ → List Question) (input : List ℕ)
      → first_no (allocate_permutation_asks_with (after_five within) rel (length slots) (length queries) uses input)
      ≡ first_no (allocate_permutation_left (within width) width n (length slots) asked (length queries) input)
  allocate_permutation-left within input =
      let last = join_asks rel (length slots) (length queries) uses (mint_cells rel input) in
      let room = room_asks rel.vars (length slots) rel.width in
      after-relation
      (queries_asks rel (length queries) ++ (store_asks (length uses) ++ (store_asks (length input)
      ++ (question 9 (eqb (length input) rel.width)
      ∷ question 3 (all_below max_count input)
      ∷ (most_asks rel.vars rel.width ++ (within rel.width ++ (room ++ last)))))))
      ∙ ap (λ (k : ℕ). ask 2 (leb (length queries) max_count) ▸ k)
      (goes_on _ _ held-queries
      ∙ goes_on _ _ held-uses
      ∙ ap (λ (k : ℕ). ask 2 (leb (length input) max_count) ▸ (ask 9 (eqb (length input) rel.width) ▸ (ask 3 (all_below max_count input)
      ▸ (ask 5 (leb (rel.vars + rel.width) max_count) ▸ k))))
      (first_no-append (within rel.width) (room ++ last)
      ∙ ap (λ (k : ℕ). first_no (within rel.width) ▸ (ask 6 (leb (rel.vars + rel.width) (length slots)) ▸ k)) (join-left (mint_cells rel input))
      ∙ sym (first_no-append (within rel.width) (room ++ join_left width (length slots) asked (length queries) (mint_cells rel input)))))
      ∙ ap₂ (λ (m w : ℕ). first_no (store_asks (length queries) ++ (store_asks (length input)
      ++ (question 9 (eqb (length input) w)
      ∷ question 3 (all_below max_count input)
      ∷ (most_asks m w ++ (within w ++ (room_asks m (length slots) w ++ join_left width (length slots) asked (length queries) (input ++ up_from m w))))))))
      o.count o.width_is

  -- ---- 11 is answered only where there is no room for the query
  pub eleven-yes : (len : ℕ) (cells : List ℕ) → length cells ≡ width + width → words_of width (length asked + 1) ≤ len → len ≤ max_count
      → uses_fit false (length slots) (uses_of (length slots) (flat asked)) (strays (length slots) (flat asked)) cells ≡ true
  eleven-yes len cells l h m =
      let f = flat-length (width + width) asked o.in_queries.widths in
      let s = words_of-suc width (length asked) in
      join-fits (length slots) (flat asked) cells (rw (length-append (flat asked) cells) (omega arith))

  join-eleven : (len : ℕ) (cells : List ℕ) → length cells ≡ width + width → len ≤ max_count
      → first_no (join_left width (length slots) asked len cells) ≡ 11 → len < words_of width (length asked + 1)
  join-eleven len cells l m e = go (leb (words_of width (length asked + 1)) len) refl
    where
      go : (b : Bool) → leb (words_of width (length asked + 1)) len ≡ b → len < words_of width (length asked + 1)
      go true h =
          let y = leb-true (words_of width (length asked + 1)) len h in
          absurd (never 10 (question 10 true ∷ []) tt
          (ap (λ (b : Bool). ask 10 b ▸ 0) (sym h) ∙ sym (goes_on _ _ (ask-yes 11 _ (eleven-yes len cells l y m))) ∙ e))
      go false h = leb-false (words_of width (length asked + 1)) len h

  pub add_permutation-eleven : (len : ℕ) (input output : List ℕ)
      → first_no (add_permutation_left width (length slots) asked len input output) ≡ 11 → len < words_of width (length asked + 1)
  add_permutation-eleven len input output e =
      let front = store_asks len ++ (store_asks (length input) ++ (store_asks (length output) ++ halves_asks width 3 max_count input output)) in
      let p = past 10 front (join_left width (length slots) asked len (input ++ output)) (never 10 front tt) e in
      let says = puts-yes front p.0 in
      let i = eqb-true (length input) width (says 9 _ tt (search puts depth 20)) in
      let u = eqb-true (length output) width (says 9 _ tt (search puts depth 20)) in
      let m = leb-true len max_count (says 2 _ tt (search puts depth 20)) in
      join-eleven len (input ++ output) (length-append input output ∙ ap₂ (λ (a b : ℕ). a + b) i u) m p.1

  -- with any questions between that do not answer 11
  pub allocate_permutation-eleven : (between : List Question) → (first_no between ≡ 11 → ⊥) → (len : ℕ) (input : List ℕ)
      → first_no (allocate_permutation_left between width n (length slots) asked len input) ≡ 11 → len < words_of width (length asked + 1)
  allocate_permutation-eleven between other len input e =
      let last = join_left width (length slots) asked len (input ++ up_from n width) in
      let room = room_asks n (length slots) width in
      let front = store_asks len ++ (store_asks (length input) ++ (half_asks width 3 max_count input ++ most_asks n width)) in
      let p = past 10 front (between ++ (room ++ last)) (never 10 front tt) e in
      let q = past 10 between (room ++ last) other p.1 in
      let r = past 10 room last (never 10 room tt) q.1 in
      let says = puts-yes front p.0 in
      let i = eqb-true (length input) width (says 9 _ tt (search puts depth 20)) in
      let m = leb-true len max_count (says 2 _ tt (search puts depth 20)) in
      join-eleven len (input ++ up_from n width)
      (length-append input (up_from n width) ∙ ap₂ (λ (a b : ℕ). a + b) i (up_from-length n width)) m r.1

  -- ---- the equations
  pub add_equation-left : (terms : List Term) (image : ℕ)
      → add_equation_no rel (length equations) terms image ≡ first_no (add_equation_left stated (length equations) terms image)
  unfolding add_equation_no
  add_equation-left terms image =
      let e = o.in_equations in
      let f = begins-fits (equations_words stated) equations e.begins in
      let t = two-each stated in
      let u : rel.words ≤ length equations = omega (arith, e.words) in
      let m : 2 * rel.equations ≤ length equations = omega (arith, e.counts) in
      after-width _
      ∙ ap (λ (k : ℕ). ask 2 (leb (length equations) max_count) ▸ k)
      (goes_on _ _ (ask-yes 2 _ (le-leb rel.words (length equations) u))
      ∙ goes_on _ _ (ask-yes 2 _ (le-leb (2 * rel.equations) (length equations) m))
      ∙ after-count _)
      ∙ ap
      (λ (k : ℕ). first_no (store_asks (length equations)
      ++ (question 3 (all_below max_count (term_vars terms))
      ∷ question 4 (all_below prime (term_weights terms))
      ∷ question 4 (ltb image prime)
      ∷ question 10 (leb (k + equation_size (length terms)) (length equations))
      ∷ [])))
      e.words

  -- ---- questions that write nothing
  value-asks : (x : ℕ) → value_of_no rel (length slots) x ≡ ask 3 (ltb x max_count)
  unfolding value_of_no
  value-asks x = after-relation (question 3 (ltb x max_count) ∷ []) ∙ ▸-zero _

  pub value-left : (x : ℕ) → value_of rel slots x ≡ value_left sets x
  value-left x =
      ap₂ (λ (k : ℕ) (v : VarValue). on_yes k v (Err (refusal k))) (value-asks x) (slot-given rel.vars slots sets o.in_slots x)

  allocated-asks : (x : ℕ) → is_allocated_no rel x ≡ ask 3 (ltb x max_count)
  unfolding is_allocated_no
  allocated-asks x = after-width _ ∙ after-count _ ∙ ▸-zero _

  pub is_allocated-left : (x : ℕ) → is_allocated rel x ≡ is_allocated_left n x
  is_allocated-left x =
      ap₂ (λ (k m : ℕ). on_yes k (Ok (ltb x m)) (Err (refusal k))) (allocated-asks x) o.count
