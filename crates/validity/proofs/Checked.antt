-- The check's parts in order: 31, the publics, the steps, the equations; each on the words that the one
-- before it left. Assumes nothing.
use Prim.Native.Nat.{ℕ, suc, ◌+◌, ◌*◌, ◌≤◌}
use mathlib.Core.Path.{◌≡◌, sym, ap, ◌∙◌}
use mathlib.Core.Bool.{Bool, true}
use mathlib.Core.List.{List, []}
use native.Mathlib.Omega.{arith}
use borrow.Author.Tests.{eq-eqb, ne_eqb}
use lib.Dec.{eqb, lit<}
use lib.ListN.{length, take, replicate, length-replicate}
use lib.Seq.{length-take-le}
use Rattle.limits.specs.Numbers.{prime}
use Rattle.limits.specs.Outcome.{Outcome, outcome_of}
use Rattle.limits.specs.Questions.{◌▸◌}
use Rattle.limits.proofs.Questions.{stays, goes_on, both, ask-yes, ask-no, ▸-assoc}
use Rattle.limits.proofs.Below.{below-replicate}
use Rattle.words.specs.Store.{all_below}
use Rattle.words.specs.Pieces.{words_of, pieces, steps_of}
use Rattle.words.proofs.Pieces.{length-pieces}
use Rattle.allocator.specs.Slots.{Pair}
use Rattle.allocator.specs.Values.{nothing, put_all}
use Rattle.expr.specs.Equation.{equations_at}
use Rattle.instance.specs.Parts.{held_publics, held_queries, held_equations, pairs_at, parts_of}
use Rattle.held.specs.Held.{publics_sound}
use Rattle.instance.specs.declared.PermutationInstance.{PermutationInstance}
use Rattle.validity.specs.Check.{publics_no, steps_no, equations_no, check_no, carried}
use Rattle.validity.specs.Scratch.{value_at, are_entries, Walked, PublicsPut, StepsPut, AllPut, Sound}
use Rattle.validity.proofs.Scratch.{nothing-entry}

-- ---- the publics and the steps
module _ {ins : PermutationInstance} {publics queries : List ℕ} {steps : ℕ} {trace : List ℕ} {len : ℕ}
    (sound : Sound ins publics queries steps trace len) where
  abbrev pairs_held : List Pair
  pairs_held = pairs_at ins.publics (held_publics ins publics)

  -- the words are all 0; the pairs as they are lent
  module _ {t ps : List ℕ} (z : t ≡ replicate len 0) (p : ps ≡ held_publics ins publics) where
    pub publics-asked : (2 * ins.publics ≤ length ps) × (publics_sound ins.publics ps ≡ true) × (are_entries t ≡ true)
    publics-asked = (
      rw (p, length-take-le (2 * ins.publics) publics sound.fit_publics) (omega arith),
      rw p sound.public,
      rw z (below-replicate (suc prime) len 0 (lit< tt)),
    )

    t-long : length t ≡ ins.vars
    t-long = ap length z ∙ length-replicate len 0 ∙ sound.words

    t-values : value_at t ≡ nothing
    t-values = ap value_at z ∙ nothing-entry len

    pub publics-put : {o : Outcome} {u : List ℕ} → PublicsPut t (pairs_at ins.publics ps) o u
        → Walked ins.vars (publics_no ins.vars pairs_held) (put_all nothing pairs_held) o u
    publics-put a = rw (t-long, t-values, p) at a

  -- the cells and units as they are lent
  pub steps-asked : steps ≡ ins.queries → (u : List ℕ) → are_entries u ≡ true → {cs us : List ℕ}
      → cs ≡ take (words_of ins.width steps) queries → us ≡ take (words_of ins.width steps) trace
      → (words_of ins.width steps ≤ length cs) × (words_of ins.width steps ≤ length us) × (all_below prime us ≡ true) × (are_entries u ≡ true)
  steps-asked e u v c d = (
    rw (c, length-take-le (words_of ins.width steps) queries (rw e sound.fit_queries)) (omega arith),
    rw (d, length-take-le (words_of ins.width steps) trace sound.fit_trace) (omega arith),
    rw d sound.units,
    v,
  )

  -- the publics are put
  module _ (ev : List ℕ → Bool) (e : steps ≡ ins.queries) {o : Outcome} {u : List ℕ}
      (a : Walked ins.vars (publics_no ins.vars pairs_held) (put_all nothing pairs_held) o u) where
    pub all-stops : {o' : Outcome} → o' ≡ o → (publics_no ins.vars pairs_held ≡ 0 → ⊥)
        → AllPut ev (parts_of ins publics queries []) (steps_of ins.width steps trace) o' u
    unfolding parts_of
    all-stops same h =
        record {
          answer = same ∙ a.answer ∙ ap outcome_of (sym (stays _ _ h));
          values = λ y. absurd (h (both _ _ y).0);
          long = a.long;
          units = a.units;
        }

    pub all-put : {cs us : List ℕ} → cs ≡ take (words_of ins.width steps) queries → us ≡ take (words_of ins.width steps) trace
        → publics_no ins.vars pairs_held ≡ 0 → {o' : Outcome} {v : List ℕ}
        → StepsPut ev u (pieces (ins.width + ins.width) steps cs) (pieces (ins.width + ins.width) steps us) o' v
        → AllPut ev (parts_of ins publics queries []) (steps_of ins.width steps trace) o' v
    unfolding parts_of
    all-put c d y b =
        let w = rw (a.long, a.values y, c, d) at b in
        record {
          answer = rw (sym e) (w.answer ∙ ap outcome_of (sym (goes_on _ _ y)));
          values = rw (sym e) (λ z. w.values (sym (goes_on _ _ y) ∙ z));
          long = w.long;
          units = w.units;
        }

-- ---- the check's number
module _ (ev : List ℕ → Bool) (ins : PermutationInstance) (publics queries equations : List ℕ) (steps : ℕ) (trace : List ℕ) where
  abbrev whole_no : ℕ
  whole_no = check_no ev (parts_of ins publics queries equations) (steps_of ins.width steps trace)

  -- 31 is asked of the counts
  counts-are : eqb (length (steps_of ins.width steps trace)) (length (parts_of ins publics queries equations).queries) ≡ eqb steps ins.queries
  unfolding parts_of
  counts-are =
      rw (
        length-pieces (ins.width + ins.width) steps (take (words_of ins.width steps) trace),
        length-pieces (ins.width + ins.width) ins.queries (held_queries ins queries),
      )

  pub check-31 : (steps ≡ ins.queries → ⊥) → 31 ≡ whole_no
  unfolding check_no
  check-31 h =
      let a = ask-no 31 _ (counts-are ∙ ne_eqb _ _ h) in
      sym (stays _ _ (λ z. absurd (let q : ⊥ = omega (arith, a, z) in q)) ∙ a)

  -- one step per query; publics and steps are put
  module _ (e : steps ≡ ins.queries) {o : Outcome} {u : List ℕ}
      (a : AllPut ev (parts_of ins publics queries []) (steps_of ins.width steps trace) o u) where
    -- their number
    abbrev put_no : ℕ
    put_no =
        publics_no (parts_of ins publics queries []).vars (parts_of ins publics queries []).publics
        ▸ steps_no ev (parts_of ins publics queries []).vars (put_all nothing (parts_of ins publics queries []).publics) (parts_of ins publics queries []).queries (steps_of ins.width steps trace)

    whole_is : whole_no ≡ put_no ▸ equations_no (carried (parts_of ins publics queries []) (steps_of ins.width steps trace)) (equations_at ins.equations (held_equations ins equations))
    unfolding check_no parts_of
    whole_is = goes_on _ _ (ask-yes 31 _ (counts-are ∙ eq-eqb _ _ e)) ∙ sym (▸-assoc _ _ _)

    pub check-stops : {o' : Outcome} → o' ≡ o → (put_no ≡ 0 → ⊥) → o' ≡ outcome_of whole_no
    unfolding parts_of
    check-stops same h = same ∙ a.answer ∙ ap outcome_of (sym (whole_is ∙ stays _ _ h))

    pub check-equations : put_no ≡ 0 → {es : List ℕ} → es ≡ held_equations ins equations → {o' : Outcome}
        → o' ≡ outcome_of (equations_no (value_at u) (equations_at ins.equations es)) → o' ≡ outcome_of whole_no
    unfolding parts_of
    check-equations z f g = (rw (a.values z, f) at g) ∙ ap outcome_of (sym (whole_is ∙ goes_on _ _ z))
