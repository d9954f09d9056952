-- The check's walks over cells, steps and equations: what a yes says, and when it is yes.
--
-- The walk step by step is one walk over all cells beside the evaluations, so all laws are on a flat list of
-- pairs. Assumes nothing.
use Prim.Native.Nat.{ℕ, ◌%◌, ◌<◌}
use mathlib.Core.Path.{◌≡◌, refl, sym, ◌∙◌}
use mathlib.Core.Bool.{Bool, true}
use mathlib.Core.List.{List, [], ◌∷◌, ◌++◌}
use native.Mathlib.Omega.{arith}
use borrow.Author.Tests.{lt-ltb, eqb-true, eq-eqb}
use lib.ListN.{length}
use Rattle.limits.specs.Numbers.{prime}
use Rattle.limits.specs.Questions.{first_of_two, ◌▸◌}
use Rattle.limits.proofs.Questions.{both, join, ▸-assoc, says-yes, ask-yes}
use Rattle.words.specs.Store.{All}
use Rattle.allocator.specs.Slots.{Pair, pairs}
use Rattle.allocator.specs.Values.{Values, is_some, put, put_all, Under, Agree}
use Rattle.allocator.proofs.Values.{put_same, put-grows}
use Rattle.expr.specs.Equation.{Term, Equation}
use Rattle.validity.specs.Values.{cells}
use Rattle.validity.specs.Check.{cells_no, steps_no, terms_no, equations_no}
use Rattle.history.specs.Sat.{total}
use Rattle.history.proofs.Sums.{sum_is}
use Rattle.history.proofs.Carry.{stays, fits_under}

abbrev PairsBelow : ℕ → List Pair → Type 0
PairsBelow n = All (λ (p : Pair). p.var < n)

-- ---- cells
pub cells-yes : (n : ℕ) (g : Values) (ps : List Pair) → cells_no n g ps ≡ 0 → Under g (put_all g ps) × Agree (put_all g ps) ps
cells-yes n g [] e = (λ x v h. h, tt)
cells-yes n g (p ∷ ps) e =
    let a = both _ _ (both _ _ e).1 in
    let r = cells-yes n (put p g) ps a.1 in
    (λ x v h. r.0 x v (put-grows g p (says-yes 32 _ a.0) x v h), (r.0 p.var p.value (put_same p g), r.1))

pub yes-cells : (n : ℕ) (g f : Values) (ps : List Pair) → PairsBelow n ps → Under g f → Agree f ps → cells_no n g ps ≡ 0
yes-cells n g f [] b u a = refl
yes-cells n g f (p ∷ ps) b u a =
    join _ _ (ask-yes 36 _ (lt-ltb p.var n b.0))
    (join _ _ (ask-yes 33 _ (fits_under g f p u a.0))
    (yes-cells n (put p g) f ps b.1 (stays g f p u a.0) a.1))

cells_no-append : (n : ℕ) (g : Values) (ps qs : List Pair) → cells_no n g (ps ++ qs) ≡ cells_no n g ps ▸ cells_no n (put_all g ps) qs
unfolding first_of_two
cells_no-append n g [] qs = refl
cells_no-append n g (p ∷ ps) qs = simp (cells_no-append n (put p g) ps qs, ▸-assoc)

-- ---- steps: the walk step by step is the walk over all cells, beside the evaluations
module _ (ev : List ℕ → Bool) (n : ℕ) where
  pub steps-yes : (g : Values) (qs ss : List (List ℕ)) → length ss ≡ length qs → steps_no ev n g qs ss ≡ 0
      → All (λ (s : List ℕ). ev s ≡ true) ss × (cells_no n g (cells qs ss) ≡ 0)
  steps-yes g [] [] l e = (tt, refl)
  steps-yes g [] (s ∷ ss) l e = absurd (let z : ⊥ = omega arith in z)
  steps-yes g (q ∷ qs) [] l e = absurd (let z : ⊥ = omega arith in z)
  steps-yes g (q ∷ qs) (s ∷ ss) l e =
      let a = both _ _ e in
      let b = both _ _ a.1 in
      let r = steps-yes (put_all g (pairs q s)) qs ss (omega arith) b.1 in
      ((says-yes 31 _ a.0, r.0), cells_no-append n g (pairs q s) (cells qs ss) ∙ join _ _ b.0 r.1)

  pub yes-steps : (g : Values) (qs ss : List (List ℕ)) → All (λ (s : List ℕ). ev s ≡ true) ss → cells_no n g (cells qs ss) ≡ 0
      → steps_no ev n g qs ss ≡ 0
  yes-steps g [] ss a e = refl
  yes-steps g (q ∷ qs) [] a e = refl
  yes-steps g (q ∷ qs) (s ∷ ss) a e =
      let b = both _ _ (sym (cells_no-append n g (pairs q s) (cells qs ss)) ∙ e) in
      join _ _ (ask-yes 32 _ a.0) (join _ _ b.0 (yes-steps (put_all g (pairs q s)) qs ss a.1 b.1))

-- ---- equations
abbrev pub Valued : Values → List Equation → Type 0
Valued g = All (λ (e : Equation). All (λ (t : Term). is_some (g t.var) ≡ true) e.terms)

abbrev pub Holds : Values → List Equation → Type 0
Holds g = All (λ (e : Equation). total g e.terms % prime ≡ e.image)

terms-yes : (g : Values) (ts : List Term) → terms_no g ts ≡ 0 → All (λ (t : Term). is_some (g t.var) ≡ true) ts
terms-yes g [] e = tt
terms-yes g (t ∷ ts) e = let a = both _ _ e in (says-yes 33 _ a.0, terms-yes g ts a.1)

yes-terms : (g : Values) (ts : List Term) → All (λ (t : Term). is_some (g t.var) ≡ true) ts → terms_no g ts ≡ 0
yes-terms g [] a = refl
yes-terms g (t ∷ ts) a = join _ _ (ask-yes 34 _ a.0) (yes-terms g ts a.1)

pub equations-yes : (g : Values) (es : List Equation) → equations_no g es ≡ 0 → Valued g es × Holds g es
equations-yes g [] e = (tt, tt)
equations-yes g (q ∷ qs) e =
    let a = both _ _ e in
    let b = both _ _ a.0 in
    let r = equations-yes g qs a.1 in
    ((terms-yes g q.terms b.0, r.0), (sym (sum_is g q.terms) ∙ eqb-true _ _ (says-yes 34 _ b.1), r.1))

pub yes-equations : (g : Values) (es : List Equation) → Valued g es → Holds g es → equations_no g es ≡ 0
yes-equations g [] v h = refl
yes-equations g (q ∷ qs) v h =
    join _ _ (join _ _ (yes-terms g q.terms v.0) (ask-yes 35 _ (eq-eqb _ _ (sum_is g q.terms ∙ h.0))))
    (yes-equations g qs v.1 h.1)
