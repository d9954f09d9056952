-- Words of scratch as what wires carry: one word, a word that is set, and words of 0; and a walk over them on
-- its way. Assumes nothing.
use Prim.Native.Nat.{ℕ, zero, suc, ◌-◌, ◌<◌}
use mathlib.Core.Path.{◌≡◌, refl, ap, ◌∙◌, fun_ext}
use mathlib.Core.Bool.{Bool, true, false}
use mathlib.Core.List.{List}
use mathlib.Core.Option.{none, some}
use native.Mathlib.Omega.{arith}
use borrow.Author.Tests.{eqb-true, eqb-false}
use lib.Dec.{eqb}
use lib.ListN.{length, set, replicate}
use lib.Seq.{get_or-set_same, get_or-set_other}
use Rattle.std.specs.Prelude.{Ok, Err}
use Rattle.limits.specs.Outcome.{outcome_of, refusal}
use Rattle.limits.proofs.Answered.{outcome-refused}
use Rattle.limits.specs.Numbers.{prime}
use Rattle.limits.specs.Questions.{pick}
use Rattle.limits.proofs.Below.{below_set}
use Rattle.allocator.specs.Slots.{Pair}
use Rattle.allocator.specs.Values.{Values, nothing, put, fits}
use Rattle.validity.specs.Scratch.{entry, value_at, are_entries, Walked}

-- ---- one word
pub fits-none : (m v : ℕ) → m ≡ 0 → true ≡ fits (entry m) v
fits-none m v e = rw e

pub fits-some : (m v : ℕ) → (m ≡ 0 → ⊥) → eqb (m - 1) v ≡ fits (entry m) v
fits-some zero v h = absurd (h refl)
fits-some (suc u) v h = let e : suc u - 1 ≡ u = omega arith in rw e

pub entry-some : (m : ℕ) → (m ≡ 0 → ⊥) → entry m ≡ some (m - 1)
entry-some zero h = absurd (h refl)
entry-some (suc u) h = let e : suc u - 1 ≡ u = omega arith in rw e

-- ---- all words 0: no wire carries a value
pub nothing-entry : (n : ℕ) → value_at (replicate n 0) ≡ nothing
nothing-entry n = fun_ext (λ x. go n x)
  where
    go : (n x : ℕ) → value_at (replicate n 0) x ≡ none
    go zero x = refl
    go (suc n) zero = refl
    go (suc n) (suc x) = go n x

-- ---- the unit and one more at a wire's word: the wire carries the unit
pub put-entry : (t : List ℕ) (p : Pair) → p.var < length t → value_at (set t p.var (suc p.value)) ≡ put p (value_at t)
put-entry t p h = fun_ext (λ x. go x (eqb x p.var) refl)
  where
    go : (x : ℕ) (b : Bool) → eqb x p.var ≡ b → value_at (set t p.var (suc p.value)) x ≡ pick b (some p.value) (value_at t x)
    go x true e =
        ap (value_at (set t p.var (suc p.value))) (eqb-true x p.var e)
        ∙ ap entry (get_or-set_same t p.var (suc p.value) 0 h)
    go x false e = ap entry (get_or-set_other t p.var x (suc p.value) 0 (eqb-false x p.var e))

-- so set, each word is an entry as before
pub put-units : (t : List ℕ) (x v : ℕ) → v < prime → are_entries t ≡ true → are_entries (set t x (suc v)) ≡ true
put-units t x v h u = below_set (suc prime) t x (suc v) (omega arith) u

-- ---- a walk on its way
-- what is left of it, k' and g', put to the words t, comes to the whole: k, and the values g
pub record Walking (len k : ℕ) (g : Values) (k' : ℕ) (g' : Values) (t : List ℕ) : Type 0 where
  pub number : k' ≡ k
  pub values : g' ≡ g
  pub long : length t ≡ len
  pub units : are_entries t ≡ true

module _ {len k : ℕ} {g g' : Values} {k' : ℕ} {t : List ℕ} (w : Walking len k g k' g' t) where
  -- it ends with a number
  pub stopped : (n : ℕ) → (n ≡ 0 → ⊥) → n ≡ k' → Walked len k g (Err (refusal n)) t
  stopped n h e =
      let f = e ∙ w.number in record {
        answer = outcome-refused n h ∙ ap outcome_of f;
        values = λ z. absurd (h (f ∙ z));
        long = w.long;
        units = w.units;
      }

  -- or with none
  pub ended : 0 ≡ k' → value_at t ≡ g' → Walked len k g (Ok tt) t
  ended e v = record { answer = ap outcome_of (e ∙ w.number); values = λ z. v ∙ w.values; long = w.long; units = w.units }
