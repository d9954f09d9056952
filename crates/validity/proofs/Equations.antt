-- The loop over equations: those that are left, from their place in the words, come to the whole.
-- Assumes nothing.
use Prim.Native.Nat.{ℕ, zero, suc, ◌+◌, ◌-◌, ◌≤◌, ◌<◌}
use mathlib.Core.Path.{◌≡◌, refl, sym, ap, ◌∙◌}
use mathlib.Core.Bool.{true}
use mathlib.Core.List.{List, ◌∷◌}
use native.Mathlib.Omega.{arith}
use borrow.Author.Tests.{eqb-true}
use lib.Dec.{eqb, ltb}
use lib.ListN.{length, drop, get_or}
use lib.Seq.{drop-drop}
use Rattle.limits.specs.Numbers.{prime, max_count}
use Rattle.limits.proofs.Questions.{stays, goes_on}
use Rattle.limits.proofs.Below.{both_true}
use Rattle.words.specs.Store.{all_below}
use Rattle.allocator.specs.Values.{Values}
use Rattle.expr.specs.Equation.{Equation, term_vars, term_weights, equation_size, equation_at, size_at, equations_at, equations_end, equations_held}
use Rattle.held.specs.Held.{equations_sound}
use Rattle.validity.specs.Check.{equation_no, equations_no}
use Rattle.validity.proofs.Sums.{size-at}

-- what is left: it ends where the words end, what it holds is sound, and its number is the whole's
pub record EquationsLeft (g : Values) (words : List ℕ) (whole at left : ℕ) : Type 0 where
  pub ends : at + equations_end left (drop at words) ≡ length words
  pub held : equations_held (equations_at left (drop at words)) ≡ true
  pub number : equations_no g (equations_at left (drop at words)) ≡ whole

pub equations-start : (g : Values) (words : List ℕ) (count : ℕ) → equations_sound count words ≡ true
    → EquationsLeft g words (equations_no g (equations_at count words)) 0 count
unfolding equations_sound
equations-start g words count e =
    let a = both_true (eqb (equations_end count words) (length words)) (equations_held (equations_at count words)) e in
    let z : equations_end count words ≡ length words = eqb-true _ _ a.0 in
    record { ends = omega arith; held = a.1; number = refl }

-- the first of them is sound
held_first : (e : Equation) (es : List Equation) → equations_held (e ∷ es) ≡ true
    → (all_below prime (term_weights e.terms) ≡ true) × (equations_held es ≡ true)
held_first e es h =
    let a = both_true (all_below max_count (term_vars e.terms)) _ h in
    let b = both_true (all_below prime (term_weights e.terms)) _ a.1 in
    (b.0, (both_true (ltb e.image prime) _ b.1).1)

-- the place after the first
next-at : (words : List ℕ) (at : ℕ) → drop (size_at (drop at words)) (drop at words) ≡ drop (at + equation_size (get_or words at 0)) words
next-at words at = drop-drop _ at words ∙ ap (λ (k : ℕ). drop (at + k) words) (size-at words at)

module _ (g : Values) (words : List ℕ) (whole at : ℕ) where
  pub equation-sound : (left : ℕ) → EquationsLeft g words whole at left → 0 < left
      → (at + size_at (drop at words) ≤ length words) × (all_below prime (term_weights (equation_at (drop at words)).terms) ≡ true)
  equation-sound zero w h = absurd (let z : ⊥ = omega arith in z)
  equation-sound (suc m) w h =
      let e = w.ends in
      (omega arith, (held_first (equation_at (drop at words)) (equations_at m (drop (size_at (drop at words)) (drop at words))) w.held).0)

  pub equation-fits : (left : ℕ) → EquationsLeft g words whole at left → 0 < left → at + equation_size (get_or words at 0) ≤ length words
  equation-fits left w h = rw (size-at words at) at (equation-sound left w h).0

  pub equations-stop : (left : ℕ) → EquationsLeft g words whole at left → 0 < left → (k : ℕ) → k ≡ equation_no g (equation_at (drop at words))
      → (k ≡ 0 → ⊥) → k ≡ whole
  equations-stop zero w h k e f = absurd (let z : ⊥ = omega arith in z)
  equations-stop (suc m) w h k e f = e ∙ sym (stays _ _ (λ z. f (e ∙ z))) ∙ w.number

  pub equations-turn : (left : ℕ) → EquationsLeft g words whole at left → 0 < left → equation_no g (equation_at (drop at words)) ≡ 0
      → EquationsLeft g words whole (at + equation_size (get_or words at 0)) (left - 1)
  equations-turn zero w h z = absurd (let q : ⊥ = omega arith in q)
  equations-turn (suc m) w h z =
      let o : suc m - 1 ≡ m = omega arith in
      let n = next-at words at in
      let s = size-at words at in
      rw o (record {
        ends = rw (sym n) (omega (arith, w.ends));
        held = rw (sym n) (held_first (equation_at (drop at words)) (equations_at m (drop (size_at (drop at words)) (drop at words))) w.held).1;
        number = rw (sym n) (sym (goes_on _ _ z) ∙ w.number);
      })
