-- What a ledger's parts have that byte forms ask for: publics in the order of their wires, and sound pairs,
-- queries and equations. Assumes nothing.
use Prim.Native.Nat.{ℕ, suc, ◌+◌, ◌≤◌, ◌<◌}
use mathlib.Core.Path.{◌≡◌, refl}
use mathlib.Core.Bool.{Bool, true, false, and-eq-true_iff}
use mathlib.Core.List.{List, [], ◌∷◌}
use mathlib.Core.Option.{none, some}
use native.Mathlib.Omega.{arith}
use borrow.Author.Tests.{ltb-true, lt-ltb}
use lib.Dec.{eqb, ltb}
use lib.ListN.{length, length-append, get_or}
use Rattle.limits.specs.Numbers.{prime, max_count, unassigned}
use Rattle.limits.specs.Questions.{pick}
use Rattle.words.specs.Store.{All, all_below}
use Rattle.words.specs.Pieces.{flat}
use Rattle.allocator.specs.Slots.{Pair, pair}
use Rattle.allocator.specs.Values.{slot_unit}
use Rattle.expr.specs.Equation.{Term, Equation, term_vars, term_weights, equation_words, equations_words, equations_held}
use Rattle.expr.proofs.Held.{length-equation}
use Rattle.instance.specs.Parts.{pair_vars, pair_values}
use Rattle.compile.specs.Gate.{publics_from}
use Rattle.held.proofs.Facts.{all_below-facts}
use Rattle.zero_wire.specs.Zero.{lists_zero}
use Rattle.decoding.specs.Read.{increasing}
use Rattle.decoding.specs.Sound.{SoundPair, SoundTerm, SoundEquation, SoundPiece}
use Rattle.history.proofs.Shapes.{all_left, all_right}

-- ---- publics in the order of the wires increase
after-it : (i : ℕ) (slots : List ℕ) (p : Pair) → p.var < i → increasing (p ∷ publics_from i slots) ≡ true
after-it i [] p h = refl
after-it i (x ∷ slots) p h =
    go (after-it (suc i) slots p (omega arith)) (after-it (suc i) slots (pair i x) (omega arith)) (eqb x unassigned)
  where
    go : increasing (p ∷ publics_from (suc i) slots) ≡ true → increasing (pair i x ∷ publics_from (suc i) slots) ≡ true
        → (b : Bool) → increasing (p ∷ pick b (publics_from (suc i) slots) (pair i x ∷ publics_from (suc i) slots)) ≡ true
    go a r true = a
    go a r false = rw (lt-ltb p.var i h) r

pub in_order : (i : ℕ) (slots : List ℕ) → increasing (publics_from i slots) ≡ true
in_order i [] = refl
in_order i (x ∷ slots) = go (in_order (suc i) slots) (eqb x unassigned)
  where
    go : increasing (publics_from (suc i) slots) ≡ true
        → (b : Bool) → increasing (pick b (publics_from (suc i) slots) (pair i x ∷ publics_from (suc i) slots)) ≡ true
    go a true = a
    go a false = after-it (suc i) slots (pair i x) (omega arith)

-- where slot 0 holds 0, they list wire 0 with value 0
pub zero-listed : (slots : List ℕ) → slot_unit (get_or slots 0 unassigned) ≡ some 0 → lists_zero (publics_from 0 slots) ≡ true
zero-listed [] e = absurd (let z : ◌≡◌ {A = ℕ} 0 1 = cc in omega arith)
zero-listed (x ∷ slots) e = go (eqb x unassigned) e
  where
    go : (b : Bool) → pick b none (some x) ≡ some 0 → lists_zero (pick b (publics_from 1 slots) (pair 0 x ∷ publics_from 1 slots)) ≡ true
    go true h = absurd (let z : ◌≡◌ {A = ℕ} 0 1 = cc in omega arith)
    go false h = let z : x ≡ 0 = cc in rw z

-- ---- sound items
pub sound-pairs : (l : List Pair) → All (λ x. x < max_count) (pair_vars l) → All (λ v. v < prime) (pair_values l) → All SoundPair l
sound-pairs [] a b = tt
sound-pairs (p ∷ l) a b = (record { var = a.0; value = b.0 }, sound-pairs l a.1 b.1)

pub sound-queries : (w : ℕ) (qs : List (List ℕ)) → All (λ q. length q ≡ w + w) qs → All (λ x. x < max_count) (flat qs) → All (SoundPiece max_count w) qs
sound-queries w [] a h = tt
sound-queries w (q ∷ qs) a h =
    (record { cells = a.0; words = all_left _ q (flat qs) h }, sound-queries w qs a.1 (all_right _ q (flat qs) h))

sound-terms : (ts : List Term) → All (λ x. x < max_count) (term_vars ts) → All (λ v. v < prime) (term_weights ts) → All SoundTerm ts
sound-terms [] a h = tt
sound-terms (t ∷ ts) a h = (record { var = a.0; weight = h.0 }, sound-terms ts a.1 h.1)

pub sound-equations : (es : List Equation) → length (equations_words es) ≤ max_count → equations_held es ≡ true → All SoundEquation es
sound-equations [] n e = tt
sound-equations (q ∷ es) n e =
    let a = (and-eq-true_iff (all_below max_count (term_vars q.terms)) _).0 e in
    let c = (and-eq-true_iff (all_below prime (term_weights q.terms)) _).0 a.1 in
    let d = (and-eq-true_iff (ltb q.image prime) (equations_held es)).0 c.1 in
    let m = length-append (equation_words q) (equations_words es) in
    let k = length-equation q in (
      record {
        count = omega arith;
        terms = sound-terms q.terms (all_below-facts max_count (term_vars q.terms) a.0) (all_below-facts prime (term_weights q.terms) c.0);
        image = ltb-true _ _ d.0;
      },
      sound-equations es (omega arith) d.1,
    )
