-- A set and a set list on a relation: 1 and 2 come first, then what the allocator says of the pairs.
-- Assumes nothing.
use Prim.Native.Nat.{ℕ, ◌≤◌}
use mathlib.Core.Path.{◌≡◌, refl, sym, ap, ap₂, ◌∙◌}
use mathlib.Core.List.{List, [], ◌∷◌, ◌++◌}
use native.Mathlib.Omega.{arith}
use lib.Dec.{eqb}
use lib.ListN.{length}
use Rattle.limits.specs.declared.Refused.{Refused}
use Rattle.std.specs.Prelude.{Result, Err, Ok}
use Rattle.limits.specs.Numbers.{max_count}
use Rattle.limits.specs.Questions.{ask, ◌▸◌, question, first_no, on_yes}
use Rattle.limits.proofs.Questions.{stays, goes_on, ▸-zero, first_no-append}
use Rattle.allocator.specs.Slots.{Pair, is_fresh, pair_asks, pair_no, pairs, items_asks, with_pair, SetRun, ran, set_run}
use Rattle.allocator.specs.Assign.{set_of, AssignsVar, how_far, Runs}
use Rattle.allocator.specs.declared.Set.{Set}
use Rattle.allocator.specs.declared.SetPairs.{SetPairs}
use Rattle.allocator.proofs.Assign.{set-refused}
use Rattle.allocator.proofs.Run.{pairs-within, accepted-within, fresh-within, run-number, after-number, stopped, items-told}
use Rattle.permutation.specs.Sharing.{alone}
use Rattle.permutation.specs.Relation.{relation_asks, set_vars_front, set_vars_asks}
use Rattle.permutation.specs.Numbers.{set_var_no, set_vars_no}
use Rattle.limits.specs.Outcome.{as_is, Outcome, outcome_of, refusal}
use Rattle.permutation.specs.Answers.{set_vars_run}
use Rattle.permutation.specs.Effects.{SetsVar, SetsVars}
use Rattle.permutation.specs.declared.PermutationRelation.{PermutationRelation}
use Rattle.permutation.specs.declared.SetVars.{SetVars}
use Rattle.limits.proofs.Answered.{stays_by}
use Rattle.permutation.proofs.Accepted.{set_vars-yes}

-- ---- a set; k: what 1 and 2 answer
module _ (rel : PermutationRelation) (slots : List ℕ) (p : Pair) (k : ℕ) (e : k ≡ first_no (relation_asks rel (length slots))) where
  number_is : set_var_no rel slots p ≡ k ▸ pair_no rel.vars slots p
  unfolding set_var_no pair_no
  number_is =
      first_no-append (relation_asks rel (length slots)) (pair_asks rel.vars slots p)
      ∙ ap (λ (n : ℕ). n ▸ first_no (pair_asks rel.vars slots p)) (sym e)

  pub front-refused : (k ≡ 0 → ⊥) → SetsVar as_is rel slots p (Err (refusal k)) slots
  front-refused h =
      let n : set_var_no rel slots p ≡ k = number_is ∙ stays _ _ h in
      record { answer = rw n (set-refused k (is_fresh slots p) h); slots = rw n (stays_by k _ _ h) }

  -- r, slots₁: what the allocator answers and leaves for the pair
  pub pair-answered : k ≡ 0 → (r : Result Set Refused) (slots₁ : List ℕ) → AssignsVar rel.vars slots p r slots₁ → SetsVar as_is rel slots p r slots₁
  pair-answered z r slots₁ d =
      let same : pair_no rel.vars slots p ≡ set_var_no rel slots p = sym (number_is ∙ goes_on _ _ z) in
      record {
        answer = d.answer ∙ ap (λ (n : ℕ). set_of n (is_fresh slots p)) same;
        slots = d.slots ∙ ap (λ (n : ℕ). on_yes n (with_pair slots p) slots) same;
      }

-- ---- a set list; k: what 1 and 2 answer
module _ (rel : PermutationRelation) (slots vars values : List ℕ) (k : ℕ) (e : k ≡ set_vars_no rel (length slots) vars values) where
  -- its tallies are no more than its pairs
  pub tallies-fit : k ≡ 0
      → let r = set_run rel.vars slots (pairs vars values) in (r.accepted ≤ max_count) × (r.fresh ≤ max_count)
  tallies-fit z =
      let y = set_vars-yes rel (length slots) vars values (sym e ∙ z) in
      let f = fresh-within (pair_no rel.vars) (λ p. p) slots (pairs vars values) in
      let n = accepted-within (pair_no rel.vars) (λ p. p) slots (pairs vars values) in
      let m = pairs-within vars values in
      (omega arith, omega arith)

  abbrev tell : Outcome → (accepted fresh : ℕ) → SetVars
  tell o n f = record { outcome = o; accepted = n; fresh = f }

  -- the pairs, and then 9
  abbrev both : SetRun
  both =
      let r = set_run rel.vars slots (pairs vars values) in
      ran (r.number ▸ ask 9 (eqb (length vars) (length values))) r.accepted r.fresh r.slots

  pub list-refused : (k ≡ 0 → ⊥) → SetsVars as_is rel slots vars values (tell (Err (refusal k)) 0 0) slots
  unfolding set_vars_run
  list-refused h = stopped tell (set_vars_no rel (length slots) vars values) k e slots both h

  -- q, slots₁: what the allocator answers and leaves for the pairs; o: what they and 9 come to
  pub pairs-told : k ≡ 0 → (q : SetPairs) (slots₁ : List ℕ) → Runs how_far (set_run rel.vars slots (pairs vars values)) q slots₁
      → (o : Outcome) → o ≡ outcome_of ((set_run rel.vars slots (pairs vars values)).number ▸ ask 9 (eqb (length vars) (length values)))
      → SetsVars as_is rel slots vars values (tell o q.accepted q.fresh) slots₁
  unfolding set_vars_run
  pairs-told z q slots₁ d o f =
      items-told tell (set_vars_no rel (length slots) vars values) k e slots both z _ q.accepted q.fresh slots₁
      (λ i. ran both.number (d.answer i).accepted (d.answer i).fresh (d.slots i)) o f

-- the number of the whole list, pairs and 9 included
pub set_vars-number : (rel : PermutationRelation) (slots vars values : List ℕ)
    → (set_vars_run rel slots vars values).number ≡ first_no (set_vars_asks rel slots vars values)
unfolding pair_no set_vars_no set_vars_run
set_vars-number rel slots vars values =
    let n = rel.vars in
    let front = set_vars_front alone rel (length slots) vars values in
    let these = items_asks (pair_asks n) (λ p. p) slots (pairs vars values) in
    let nine = question 9 (eqb (length vars) (length values)) ∷ [] in
    let run = set_run n slots (pairs vars values) in
    after-number (first_no front) (ran (run.number ▸ ask 9 (eqb (length vars) (length values))) run.accepted run.fresh run.slots) slots
    ∙ ap (λ (k : ℕ). first_no front ▸ k)
    (ap₂ ◌▸◌ (run-number (pair_no n) (λ p. p) (pair_asks n) (λ t p. refl) slots (pairs vars values)) (sym (▸-zero _)) ∙ sym (first_no-append these nine))
    ∙ sym (first_no-append front (these ++ nine))
