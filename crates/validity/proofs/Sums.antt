-- The loop over the terms of an equation: the definition asks 34 of all terms and then takes the sum, the
-- code does both in one pass; what is left of both comes to the whole. Assumes nothing.
use Prim.Native.Nat.{ℕ, suc, ◌+◌, ◌-◌, ◌*◌, ◌%◌, ◌≤◌, ◌<◌}
use mathlib.Core.Path.{refl, ◌≡◌, sym, ap, ◌∙◌}
use mathlib.Core.Bool.{true}
use mathlib.Core.List.{List, ◌∷◌}
use mathlib.Core.Option.{none, some}
use native.Mathlib.Omega.{arith}
use lib.Dec.{eqb, lit<}
use lib.ListN.{length, drop, get_or, get_or-eq_default}
use lib.Seq.{get_or-drop, drop-drop}
use Rattle.limits.specs.Numbers.{prime}
use Rattle.limits.specs.Questions.{ask, first_of_two, ◌▸◌}
use Rattle.limits.proofs.Below.{below-cons, below-get_or}
use Rattle.words.specs.Store.{all_below}
use Rattle.baby_bear.specs.Field.{add_unit, mul_unit}
use Rattle.allocator.specs.Values.{Values}
use Rattle.expr.specs.Equation.{Term, term_weights, equation_size, terms_at, equation_at, size_at}
use Rattle.instance.proofs.Pairs.{at_first, terms-at}
use Rattle.validity.specs.Check.{terms_no, sum_from, equation_no}
use Rattle.validity.specs.Scratch.{entry, value_at, are_entries, Added}
use Rattle.validity.proofs.Scratch.{entry-some}

-- what is left of an equation, with the sum so far: 34 of the terms, then 35
unfoldable pub rest_no : Values → ℕ → ℕ → List Term → ℕ
rest_no g sum image ts = terms_no g ts ▸ ask 35 (eqb (sum_from sum g ts) image)

-- ---- one term
none-34 : (g : Values) (sum image : ℕ) (t : Term) (ts : List Term) → g t.var ≡ none → rest_no g sum image (t ∷ ts) ≡ 34
unfolding rest_no ask first_of_two
none-34 g sum image t ts e = rw e

some_more : (g : Values) (sum image v : ℕ) (t : Term) (ts : List Term) → g t.var ≡ some v
    → rest_no g sum image (t ∷ ts) ≡ rest_no g (add_unit sum (mul_unit t.weight v)) image ts
unfolding rest_no ask first_of_two
some_more g sum image v t ts e = rw e

-- ---- an equation in words
pub size-at : (words : List ℕ) (at : ℕ) → size_at (drop at words) ≡ equation_size (get_or words at 0)
unfolding size_at
size-at words at = rw (at_first words at)

abbrev pub image_of : List ℕ → ℕ → ℕ
image_of words at = get_or words (at + 1 + 2 * get_or words at 0) 0

abbrev pub whole_no : List ℕ → List ℕ → ℕ → ℕ
whole_no t words at = equation_no (value_at t) (equation_at (drop at words))

-- what is left of the walk over terms: the sum so far, and the terms from the word i on
pub record SumLeft (t words : List ℕ) (at left i sum : ℕ) : Type 0 where
  pub entries : are_entries t ≡ true
  pub room : at + equation_size (get_or words at 0) ≤ length words
  pub place : i + 2 * left ≡ at + 1 + 2 * get_or words at 0
  pub below : sum < prime * prime
  pub weights : all_below prime (term_weights (terms_at left (drop i words))) ≡ true
  pub number : rest_no (value_at t) (sum % prime) (image_of words at) (terms_at left (drop i words)) ≡ whole_no t words at

pub sum-start : (t words : List ℕ) (at : ℕ) → at + size_at (drop at words) ≤ length words
    → all_below prime (term_weights (equation_at (drop at words)).terms) ≡ true → are_entries t ≡ true
    → SumLeft t words at (get_or words at 0) (at + 1) 0
unfolding rest_no equation_at
sum-start t words at h e u =
    let n : get_or (drop 1 (drop at words)) (2 * get_or words at 0) 0 ≡ image_of words at =
    ap (λ (l : List ℕ). get_or l (2 * get_or words at 0) 0) (drop-drop 1 at words) ∙ get_or-drop (at + 1) words (2 * get_or words at 0) 0 in
    record {
      entries = u;
      room = rw (size-at words at) at h;
      place = refl;
      below = lit< tt;
      weights = rw (at_first words at, drop-drop 1 at words) at e;
      number = rw (at_first words at, n, drop-drop 1 at words);
    }

-- ---- a turn, and the end
module _ {t words : List ℕ} {at left i sum : ℕ} (w : SumLeft t words at left i sum) where
  module _ (h : 0 < left) where
    at-term : rest_no (value_at t) (sum % prime) (image_of words at)
        (record { var = get_or words i 0; weight = get_or words (i + 1) 0 } ∷ terms_at (left - 1) (drop (i + 2) words)) ≡ whole_no t words at
    at-term = rw (terms-at words i left h) at w.number

    weight-below : (get_or words (i + 1) 0 < prime) × (all_below prime (term_weights (terms_at (left - 1) (drop (i + 2) words))) ≡ true)
    weight-below = below-cons prime _ _ (rw (terms-at words i left h) at w.weights)

    pub sum-beyond : length t ≤ get_or words i 0 → 34 ≡ whole_no t words at
    sum-beyond k = sym (none-34 (value_at t) (sum % prime) (image_of words at) _ _ (ap entry (get_or-eq_default t 0 k))) ∙ at-term

    pub sum-nothing : get_or t (get_or words i 0) 0 ≡ 0 → 34 ≡ whole_no t words at
    sum-nothing k = sym (none-34 (value_at t) (sum % prime) (image_of words at) _ _ (ap entry k)) ∙ at-term

    module _ (k : get_or t (get_or words i 0) 0 ≡ 0 → ⊥) where
      pub sum-asked : (sum < prime * prime) × (get_or words (i + 1) 0 < prime) × (get_or t (get_or words i 0) 0 - 1 < prime)
      sum-asked =
          let m = below-get_or (suc prime) t (get_or words i 0) (lit< tt) w.entries in
          (w.below, weight-below.0, omega arith)

      pub sum-turn : {s : ℕ} → Added sum (get_or words (i + 1) 0) (get_or t (get_or words i 0) 0 - 1) s
          → SumLeft t words at (left - 1) (i + 2) s
      sum-turn a =
          record {
            entries = w.entries;
            room = w.room;
            place = omega (arith, w.place);
            below = a.below;
            weights = weight-below.1;
            number =
                rw a.counts (sym (some_more (value_at t) (sum % prime) (image_of words at) (get_or t (get_or words i 0) 0 - 1) _ _ (entry-some _ k)) ∙ at-term);
          }

  module _ (h : left ≤ 0) where
    -- what 35 answers is the equation's number
    pub sum-image : ask 35 (eqb (sum % prime) (get_or words i 0)) ≡ whole_no t words at
    unfolding rest_no first_of_two
    sum-image =
        let z : left ≡ 0 = omega arith in
        let y : at + 1 + 2 * get_or words at 0 ≡ i = omega (arith, w.place) in
        rw (z, y) at w.number
