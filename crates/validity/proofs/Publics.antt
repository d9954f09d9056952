-- The loop over public pairs: what is left of them, put to the words as they are, comes to the whole.
-- Assumes nothing.
use Prim.Native.Nat.{ℕ, suc, ◌+◌, ◌-◌, ◌*◌, ◌≤◌, ◌<◌}
use mathlib.Core.Path.{◌≡◌, refl, ap, ◌∙◌}
use mathlib.Core.Bool.{true}
use mathlib.Core.List.{List, ◌∷◌}
use native.Mathlib.Omega.{arith}
use native.Mathlib.Numerals.{add-one}
use borrow.Author.Tests.{lt-ltb, le-ltb}
use lib.ListN.{length, get_or, drop, set, length-set}
use Rattle.std.specs.Prelude.{Err}
use Rattle.limits.specs.Outcome.{refusal}
use Rattle.limits.specs.Numbers.{prime, max_count}
use Rattle.limits.specs.Questions.{ask, first_of_two}
use Rattle.limits.proofs.Below.{both_true, below-cons}
use Rattle.words.specs.Store.{all_below}
use Rattle.allocator.specs.Slots.{Pair, pair}
use Rattle.allocator.specs.Values.{Values, put_all}
use Rattle.instance.specs.Parts.{pairs_at, pair_vars, pair_values}
use Rattle.instance.proofs.Pairs.{pairs-at}
use Rattle.held.specs.Held.{publics_sound}
use Rattle.validity.specs.Check.{publics_no}
use Rattle.validity.specs.Scratch.{value_at, are_entries, PublicsPut}
use Rattle.validity.proofs.Scratch.{put-entry, put-units, Walking, stopped}

-- units of publics that are sound
sound-values : (n : ℕ) (held : List ℕ) → publics_sound n held ≡ true → all_below prime (pair_values (pairs_at n held)) ≡ true
unfolding publics_sound
sound-values n held e =
    (both_true (all_below max_count (pair_vars (pairs_at n held))) (all_below prime (pair_values (pairs_at n held))) e).1

-- the pairs ps of all, put to the words t
abbrev Rest : (t₀ : List ℕ) (all : List Pair) (t : List ℕ) (ps : List Pair) → Type 0
Rest t₀ all t ps =
    Walking (length t₀) (publics_no (length t₀) all) (put_all (value_at t₀) all) (publics_no (length t₀) ps) (put_all (value_at t) ps) t

-- what is left of the walk over `count` pairs, which began with the words t₀
pub record PublicsLeft (t₀ s : List ℕ) (count : ℕ) (t : List ℕ) (left at : ℕ) : Type 0 where
  pub values : all_below prime (pair_values (pairs_at left (drop at s))) ≡ true
  pub rest : Rest t₀ (pairs_at count s) t (pairs_at left (drop at s))

pub publics-start : (t s : List ℕ) (count : ℕ) → 2 * count ≤ length s → publics_sound count s ≡ true → are_entries t ≡ true
    → PublicsLeft t s count t count 0
publics-start t s count h e u =
    record { values = sound-values count s e; rest = record { number = refl; values = refl; long = refl; units = u } }

module _ {t₀ s : List ℕ} {count : ℕ} {t : List ℕ} {left at : ℕ} (w : PublicsLeft t₀ s count t left at) where
  module _ (h : 0 < left) where
    at_pair : Rest t₀ (pairs_at count s) t (pair (get_or s at 0) (get_or s (at + 1) 0) ∷ pairs_at (left - 1) (drop (at + 2) s))
    at_pair = rw (pairs-at s at left h) at w.rest

    pub publics-36 : length t ≤ get_or s at 0 → PublicsPut t₀ (pairs_at count s) (Err (refusal 36)) t
    unfolding ask first_of_two
    publics-36 x =
        let e : length t₀ ≤ get_or s at 0 = omega (arith, w.rest.long) in
        stopped at_pair 36 (λ z. absurd (let q : ⊥ = omega arith in q)) (rw (le-ltb (get_or s at 0) (length t₀) e))

    pub value-below : (get_or s (at + 1) 0 < prime) × (all_below prime (pair_values (pairs_at (left - 1) (drop (at + 2) s))) ≡ true)
    value-below = below-cons prime _ _ (rw (pairs-at s at left h) at w.values)

    pub publics-turn : get_or s at 0 < length t
        → PublicsLeft t₀ s count (set t (get_or s at 0) (get_or s (at + 1) 0 + 1)) (left - 1) (at + 2)
    unfolding ask first_of_two
    publics-turn x =
        let e : get_or s at 0 < length t₀ = omega (arith, w.rest.long) in
        let p = pair (get_or s at 0) (get_or s (at + 1) 0) in
        rw (add-one (get_or s (at + 1) 0)) (record {
          values = value-below.1;
          rest =
              record {
                number = (rw (lt-ltb (get_or s at 0) (length t₀) e) at at_pair.number);
                values = ap (λ (f : Values). put_all f (pairs_at (left - 1) (drop (at + 2) s))) (put-entry t p x) ∙ at_pair.values;
                long = length-set t (get_or s at 0) (suc (get_or s (at + 1) 0)) ∙ w.rest.long;
                units = put-units t (get_or s at 0) (get_or s (at + 1) 0) value-below.0 w.rest.units;
              };
        })
