-- The loop over steps: one step is 32 and then its cells; the steps that are left, put to the words as they
-- are, come to the whole. Of those left as many are evaluations as are known to be. Assumes nothing.
use Prim.Native.Nat.{ℕ, zero, suc, ◌+◌, ◌-◌, ◌*◌, ◌≤◌, ◌<◌, min}
use mathlib.Core.Path.{◌≡◌, refl, sym, ap, ◌∙◌}
use mathlib.Core.Bool.{Bool, true}
use mathlib.Core.List.{List, [], ◌∷◌, ◌++◌}
use native.Mathlib.Omega.{arith}
use borrow.Author.Tests.{lt-ltb, ltb-true}
use lib.Dec.{ltb}
use lib.ListN.{length, take, drop}
use Rattle.std.specs.Prelude.{Err}
use Rattle.limits.specs.Outcome.{Outcome, outcome_of, refusal}
use Rattle.limits.specs.Numbers.{prime}
use Rattle.limits.specs.Questions.{ask, first_of_two, ◌▸◌, on_yes}
use Rattle.limits.proofs.Questions.{ask-yes, says-yes, both, goes_on, stays, ▸-assoc}
use Rattle.limits.proofs.Below.{below-take, below-drop}
use Rattle.words.specs.Store.{all_below}
use Rattle.words.specs.Pieces.{pieces}
use Rattle.allocator.specs.Slots.{Pair, pairs}
use Rattle.allocator.specs.Values.{Values, put_all, put}
use Rattle.permute.specs.Parameters.{leading}
use Rattle.permute.proofs.Trace.{pieces-cons, lent-piece, lent_length}
use Rattle.validity.specs.Values.{cells}
use Rattle.validity.specs.Check.{cells_no, steps_no}
use Rattle.validity.specs.Scratch.{value_at, are_entries, CellsPut, StepPut, StepsPut}
use Rattle.validity.proofs.Scratch.{Walking}
use Rattle.validity.proofs.Ahead.{first-is, next_known}

-- ---- one step
pub step-32 : (known : ℕ) (t : List ℕ) (ps : List Pair) → known ≡ 0 → are_entries t ≡ true → StepPut known t ps (Err (refusal 32)) t
unfolding first_of_two ask
step-32 zero t ps z u =
    record {
      answer = refl;
      values = λ y. absurd (let q : ⊥ = omega arith in q);
      long = refl;
      units = u;
    }
step-32 (suc known) t ps z u = absurd (let q : ⊥ = omega arith in q)

pub step-cells : (known : ℕ) (t : List ℕ) (ps : List Pair) (o : Outcome) (t' : List ℕ) → (known ≡ 0 → ⊥) → CellsPut t ps o t' → StepPut known t ps o t'
step-cells zero t ps o t' h w = absurd (h refl)
step-cells (suc known) t ps o t' h w =
    record {
      answer = w.answer ∙ ap outcome_of (sym (goes_on _ _ yes));
      values = λ z. w.values (sym (goes_on _ _ yes) ∙ z);
      long = w.long;
      units = w.units;
    }
  where
    yes : ask 32 (ltb 0 (suc known)) ≡ 0
    yes = ask-yes 32 _ (lt-ltb 0 (suc known) (omega arith))

-- ---- all steps
pub put_all-append : (g : Values) (ps qs : List Pair) → put_all g (ps ++ qs) ≡ put_all (put_all g ps) qs
put_all-append g [] qs = refl
put_all-append g (p ∷ ps) qs = put_all-append (put p g) ps qs

-- the place after a piece, where those that are left fit
piece-fits : (k at left n : ℕ) → at + left * k ≤ n → 0 < left → at + k + (left - 1) * k ≤ n
piece-fits k at zero n e h = absurd (let z : ⊥ = omega arith in z)
piece-fits k at (suc m) n e h = let z : suc m - 1 ≡ m = omega arith in rw z (omega arith)

-- the steps ss with their queries qs, of all, put to the words t
abbrev Rest : (List ℕ → Bool) → (t₀ : List ℕ) (queries steps : List (List ℕ)) (t : List ℕ) (qs ss : List (List ℕ)) → Type 0
Rest ev t₀ queries steps t qs ss =
    Walking (length t₀) (steps_no ev (length t₀) (value_at t₀) queries steps) (put_all (value_at t₀) (cells queries steps))
    (steps_no ev (length t₀) (value_at t) qs ss) (put_all (value_at t) (cells qs ss)) t

-- what is left of the walk over n steps of `size` words, which began with the words t₀
pub record StepsLeft (ev : List ℕ → Bool) (t₀ queries trace : List ℕ) (size n : ℕ) (t : List ℕ) (left at known : ℕ) : Type 0 where
  pub room-queries : at + left * size ≤ length queries
  pub room-trace : at + left * size ≤ length trace
  pub units : all_below prime trace ≡ true
  pub ahead : known ≤ leading ev (pieces size left (drop at trace))
  pub rest : Rest ev t₀ (pieces size n queries) (pieces size n trace) t (pieces size left (drop at queries)) (pieces size left (drop at trace))

module _ {ev : List ℕ → Bool} {t₀ queries trace : List ℕ} {size n : ℕ} {t : List ℕ} {left at known : ℕ}
    (w : StepsLeft ev t₀ queries trace size n t left at known) where
  module _ (h : 0 < left) where
    pub room_after : (at + size + (left - 1) * size ≤ length queries) × (at + size + (left - 1) * size ≤ length trace)
    room_after = (piece-fits size at left _ w.room-queries h, piece-fits size at left _ w.room-trace h)

    -- the query and the step as they are lent
    abbrev q : List ℕ
    q = take (at + size - at) (drop at queries)

    abbrev s : List ℕ
    s = take (at + size - at) (drop at trace)

    pub step-asked : (length q ≡ length s) × (all_below prime s ≡ true) × (are_entries t ≡ true)
    step-asked =
        let f = room_after in (
          lent_length queries at size (omega (arith, f.0)) ∙ sym (lent_length trace at size (omega (arith, f.1))),
          below-take prime (at + size - at) (drop at trace) (below-drop prime at trace w.units),
          w.rest.units,
        )

    -- m are known now, and the step answered o
    module _ {m : ℕ} (e : m ≡ on_yes known (leading ev (pieces size (min left 64) (take (length trace - at) (drop at trace)))) known)
        {o : Outcome} {t' : List ℕ} (r : StepPut m t (pairs q s) o t') where
      -- the step's own number
      abbrev k : ℕ
      k = ask 32 (ltb 0 m) ▸ cells_no (length t) (value_at t) (pairs q s)

      abbrev later_queries : List (List ℕ)
      later_queries = pieces size (left - 1) (drop (at + size) queries)

      abbrev later_steps : List (List ℕ)
      later_steps = pieces size (left - 1) (drop (at + size) trace)

      at-step : Rest ev t₀ (pieces size n queries) (pieces size n trace) t (q ∷ later_queries) (s ∷ later_steps)
      at-step =
          rw (lent-piece queries at size, lent-piece trace at size)
          (rw (pieces-cons size queries at left h, pieces-cons size trace at left h) at w.rest)

      -- the step's number, and then what is left
      number_is : k ▸ steps_no ev (length t₀) (put_all (value_at t) (pairs q s)) later_queries later_steps
          ≡ steps_no ev (length t₀) (value_at t₀) (pieces size n queries) (pieces size n trace)
      number_is =
          let f : ltb 0 m ≡ ev s =
          first-is _ size trace at left known h w.ahead m e ∙ ap ev (sym (lent-piece trace at size)) in
          rw (f, w.rest.long, ▸-assoc) at-step.number

      pub steps-stop : {o' : Outcome} → o' ≡ o → (k ≡ 0 → ⊥) → StepsPut ev t₀ (pieces size n queries) (pieces size n trace) o' t'
      steps-stop same z =
          record {
            answer = same ∙ r.answer ∙ ap outcome_of (sym (stays _ _ z) ∙ number_is);
            values = λ y. absurd (z (both _ _ (number_is ∙ y)).0);
            long = r.long ∙ w.rest.long;
            units = r.units;
          }

      pub some_known : k ≡ 0 → 0 < m
      some_known z = ltb-true 0 m (says-yes 31 _ (both _ _ z).0)

      pub steps-turn : k ≡ 0 → StepsLeft ev t₀ queries trace size n t' (left - 1) (at + size) (m - 1)
      steps-turn z =
          let v = r.values z in
          record {
            room-queries = room_after.0;
            room-trace = room_after.1;
            units = w.units;
            ahead = next_known _ size trace at left known h w.ahead m e (some_known z);
            rest =
                record {
                  number = rw v (sym (goes_on _ _ z) ∙ number_is);
                  values = rw v (sym (put_all-append (value_at t) (pairs q s) (cells later_queries later_steps)) ∙ at-step.values);
                  long = r.long ∙ w.rest.long;
                  units = r.units;
                };
          }
