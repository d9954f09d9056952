-- Which numbers the walks can answer, and where 34 is answered.
--
-- The ranges of the parts are closed under "the first no of two"; a number outside of a part's range comes
-- from another part. Assumes nothing.
use Prim.Native.Nat.{ℕ, zero, suc, ◌≤◌, ◌<◌}
use mathlib.Core.Path.{◌≡◌, refl, ap}
use mathlib.Core.Bool.{Bool, true, false}
use mathlib.Core.Logic.{◌⊎◌, inl, inr, ⊎_elim}
use mathlib.Core.List.{List, [], ◌∷◌, ◌++◌}
use mathlib.Core.Option.{Option, none, some}
use native.Mathlib.Omega.{arith}
use borrow.Author.Tests.{lt-ltb}
use lib.Dec.{eqb}
use Rattle.limits.specs.Questions.{ask, first_of_two, ◌▸◌}
use Rattle.limits.specs.Outcome.{outcome_of}
use Rattle.limits.proofs.Questions.{join, ask-yes}
use Rattle.words.specs.Store.{All}
use Rattle.words.specs.Pieces.{flat}
use Rattle.allocator.specs.Slots.{Pair, pairs}
use Rattle.allocator.specs.Values.{Values, is_some, put, put_all}
use Rattle.expr.specs.Equation.{Term, Equation}
use Rattle.instance.specs.Parts.{pair_vars}
use Rattle.validity.specs.Check.{publics_no, cells_no, steps_no, terms_no, equation_no, equations_no, sum_from}
use Rattle.history.specs.Demand.{Among, At34, in-this, later}
use Rattle.history.proofs.Shapes.{all_left, all_right, below-pairs}

-- ---- numbers
-- 0, or a number from lo to hi
abbrev pub Within : ℕ → ℕ → ℕ → Type 0
Within lo hi a = (a ≡ 0) ⊎ ((lo ≤ a) × (a ≤ hi))

-- the outcome of such a number
pub among-by : (lo hi a : ℕ) → Within lo hi a → Among lo hi (outcome_of a)
among-by lo hi zero r = tt
among-by lo hi (suc k) (inl e) = absurd (let z : ⊥ = omega arith in z)
among-by lo hi (suc k) (inr r) = r

pub within-then : (lo hi a b : ℕ) → Within lo hi a → Within lo hi b → Within lo hi (a ▸ b)
unfolding first_of_two
within-then lo hi zero b r s = s
within-then lo hi (suc k) b r s = r

pub within-ask : (lo hi k : ℕ) (b : Bool) → lo ≤ k → k ≤ hi → Within lo hi (ask k b)
unfolding ask
within-ask lo hi k true p q = inl refl
within-ask lo hi k false p q = inr (p, q)

pub within-zero : (lo hi a : ℕ) → a ≡ 0 → Within lo hi a
within-zero lo hi a e = inl e

pub widen : (lo hi l h a : ℕ) → l ≤ lo → hi ≤ h → Within lo hi a → Within l h a
widen lo hi l h a p q (inl e) = inl e
widen lo hi l h a p q (inr r) = inr (omega arith)

-- a number outside of the range is not answered
pub outside : (lo hi a k : ℕ) → Within lo hi a → a ≡ suc k → (suc k < lo) ⊎ (hi < suc k) → ⊥
outside lo hi a k (inl z) e (inl h) = omega arith
outside lo hi a k (inl z) e (inr h) = omega arith
outside lo hi a k (inr z) e (inl h) = omega arith
outside lo hi a k (inr z) e (inr h) = omega arith

pub either : (a b k : ℕ) → a ▸ b ≡ suc k → (a ≡ suc k) ⊎ ((a ≡ 0) × (b ≡ suc k))
unfolding first_of_two
either zero b k e = inr (refl, e)
either (suc j) b k e = inl e

-- ---- publics and cells below the count never give 36
pub publics-yes : (n : ℕ) (ps : List Pair) → All (λ x. x < n) (pair_vars ps) → publics_no n ps ≡ 0
publics-yes n [] a = refl
publics-yes n (p ∷ ps) a = join _ _ (ask-yes 36 _ (lt-ltb p.var n a.0)) (publics-yes n ps a.1)

cells-within : (n : ℕ) (g : Values) (ps : List Pair) → All (λ (p : Pair). p.var < n) ps → Within 32 33 (cells_no n g ps)
cells-within n g [] a = inl refl
cells-within n g (p ∷ ps) a =
    within-then 32 33 _ _ (within-zero 32 33 _ (ask-yes 36 _ (lt-ltb p.var n a.0)))
    (within-then 32 33 _ _ (within-ask 32 33 33 _ (omega arith) (omega arith)) (cells-within n (put p g) ps a.1))

pub steps-within : (ev : List ℕ → Bool) (n : ℕ) (g : Values) (qs ss : List (List ℕ)) → All (λ x. x < n) (flat qs) → Within 32 33 (steps_no ev n g qs ss)
steps-within ev n g [] ss a = inl refl
steps-within ev n g (q ∷ qs) [] a = inl refl
steps-within ev n g (q ∷ qs) (s ∷ ss) a =
    within-then 32 33 _ _ (within-ask 32 33 32 _ (omega arith) (omega arith))
    (within-then 32 33 _ _ (cells-within n g (pairs q s) (below-pairs _ q s (all_left _ q (flat qs) a)))
    (steps-within ev n (put_all g (pairs q s)) qs ss (all_right _ q (flat qs) a)))

terms-within : (g : Values) (ts : List Term) → Within 34 34 (terms_no g ts)
terms-within g [] = inl refl
terms-within g (t ∷ ts) = within-then 34 34 _ _ (within-ask 34 34 34 _ (omega arith) (omega arith)) (terms-within g ts)

pub equations-within : (g : Values) (es : List Equation) → Within 34 35 (equations_no g es)
equations-within g [] = inl refl
equations-within g (e ∷ es) =
    within-then 34 35 _ _
    (within-then 34 35 _ _ (widen 34 34 34 35 _ (omega arith) (omega arith) (terms-within g e.terms)) (within-ask 34 35 35 _ (omega arith) (omega arith)))
    (equations-within g es)

-- ---- where 34 is answered
none-by : (o : Option ℕ) → ask 34 (is_some o) ≡ 34 → o ≡ none
unfolding ask
none-by none e = refl
none-by (some v) e = absurd (let z : ⊥ = omega arith in z)

pub record TermAt (g : Values) (ts : List Term) : Type 0 where
  pub term : Term
  pub before : List Term
  pub after : List Term
  pub whole : ts ≡ before ++ (term ∷ after)
  pub fine : terms_no g before ≡ 0
  pub nothing-there : g term.var ≡ none

terms-34 : (g : Values) (ts : List Term) → terms_no g ts ≡ 34 → TermAt g ts
terms-34 g [] e = absurd (let z : ⊥ = omega arith in z)
terms-34 g (t ∷ ts) e = go (λ z. terms-34 g ts z) (either _ _ 33 e)
  where
    more : TermAt g ts → ask 34 (is_some (g t.var)) ≡ 0 → TermAt g (t ∷ ts)
    more r z = record {
      term = r.term;
      before = t ∷ r.before;
      after = r.after;
      whole = ap (λ (l : List Term). t ∷ l) r.whole;
      fine = join _ _ z r.fine;
      nothing-there = r.nothing-there;
    }

    go : (terms_no g ts ≡ 34 → TermAt g ts) → (ask 34 (is_some (g t.var)) ≡ 34) ⊎ ((ask 34 (is_some (g t.var)) ≡ 0) × (terms_no g ts ≡ 34)) → TermAt g (t ∷ ts)
    go r (inl z) = record { term = t; before = []; after = ts; whole = refl; fine = refl; nothing-there = none-by (g t.var) z }
    go r (inr z) = more (r z.1) z.0

equation-34 : (g : Values) (e : Equation) → equation_no g e ≡ 34 → TermAt g e.terms
equation-34 g e z =
    ⊎_elim (terms-34 g e.terms)
    (λ q. absurd (outside 35 35 _ 33 (within-ask 35 35 35 (eqb (sum_from 0 g e.terms) e.image) (omega arith) (omega arith)) q.1 (inl (omega arith))))
    (either _ _ 33 z)

pub equations-34 : (g : Values) (es : List Equation) → equations_no g es ≡ 34 → (t : Term) × At34 g es t
equations-34 g [] e = absurd (let z : ⊥ = omega arith in z)
equations-34 g (q ∷ qs) e =
    ⊎_elim (λ z. let r = equation-34 g q z in (r.term, in-this r.before r.after r.whole r.fine r.nothing-there))
    (λ z. let r = equations-34 g qs z.1 in (r.0, later z.0 r.1))
    (either _ _ 33 e)

pub at_none : {g : Values} {es : List Equation} {t : Term} → At34 g es t → g t.var ≡ none
at_none (in-this before after w f n) = n
at_none (later z a) = at_none a
