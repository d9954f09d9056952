-- Where the public wires strictly increase, wire 0 is listed with value 0 exactly where the first pair says so; and the
-- first of n pairs, by its two words.
-- Assumes nothing.
use Prim.Native.Nat.{ℕ, zero, suc, ◌<◌}
use mathlib.Core.Path.{◌≡◌, refl, sym, ap, ◌∙◌}
use mathlib.Core.Bool.{Bool, true, false, ◌&&◌, ◌||◌, and-eq-true_iff, or-false}
use mathlib.Core.List.{List, [], ◌∷◌}
use native.Mathlib.Omega.{arith}
use borrow.Author.Tests.{lt-ltb, ltb-true, eq-eqb, ne_eqb}
use lib.Dec.{eqb, ltb}
use lib.ListN.{get_or}
use Rattle.allocator.specs.Slots.{Pair, pair}
use Rattle.instance.specs.Parts.{Parts, pairs_at}
use Rattle.parts.specs.Read.{increasing}
use Rattle.zero_wire.specs.Zero.{is_zero_pair, lists_zero, has_zero_wire, zero_first, starts_at_zero}

-- ---- after 27
-- wire 0 isn't listed where the first wire isn't 0
none-later : (p : Pair) (ps : List Pair) → 0 < p.var → increasing (p ∷ ps) ≡ true → lists_zero (p ∷ ps) ≡ false
none-later p [] h o = rw (ne_eqb p.var 0 (λ e. omega arith))
none-later p (q ∷ ps) h o =
    let i = (and-eq-true_iff (ltb p.var q.var) _).0 o in
    let l = ltb-true p.var q.var i.0 in
    rw (ne_eqb p.var 0 (λ e. omega arith)) (none-later q ps (omega arith) i.1)

pub first-lists : (ps : List Pair) → increasing ps ≡ true → lists_zero ps ≡ zero_first ps
first-lists [] o = refl
first-lists (p ∷ []) o = or-false (is_zero_pair p)
first-lists (p ∷ q ∷ ps) o =
    let i = (and-eq-true_iff (ltb p.var q.var) _).0 o in
    let l = ltb-true p.var q.var i.0 in
    ap (λ (b : Bool). is_zero_pair p || b) (none-later q ps (omega arith) i.1) ∙ or-false (is_zero_pair p)

-- 46 as 02 has it, and as it is asked
pub starts-where-listed : (parts : Parts) → increasing parts.publics ≡ true
    → has_zero_wire parts ≡ starts_at_zero parts.vars parts.publics
starts-where-listed parts o = ap (λ (b : Bool). ltb 0 parts.vars && b) (first-lists parts.publics o)

-- the order counts: behind wire 1, wire 0 is listed and doesn't stand first
pub listed-later : (lists_zero (pair 1 3 ∷ pair 0 0 ∷ []) ≡ true) × (zero_first (pair 1 3 ∷ pair 0 0 ∷ []) ≡ false)
listed-later = (refl, refl)

-- ---- in words
pub first-words : (n : ℕ) (s : List ℕ) → (n ≡ 0 → ⊥) → zero_first (pairs_at n s) ≡ (eqb (get_or s 0 0) 0 && eqb (get_or s 1 0) 0)
first-words zero s h = absurd (h refl)
first-words (suc n) s h = refl

pub first-none : (n : ℕ) (s : List ℕ) → n ≡ 0 → false ≡ zero_first (pairs_at n s)
first-none n s h = rw h

module _ (n : ℕ) (s : List ℕ) (h : n ≡ 0 → ⊥) where
  pub wire-no : (get_or s 0 0 ≡ 0 → ⊥) → false ≡ zero_first (pairs_at n s)
  wire-no w = sym (first-words n s h ∙ rw (ne_eqb (get_or s 0 0) 0 w))

  pub value-left : get_or s 0 0 ≡ 0 → eqb (get_or s 1 0) 0 ≡ zero_first (pairs_at n s)
  value-left w = sym (first-words n s h ∙ rw (eq-eqb (get_or s 0 0) 0 w))

-- ---- with the wire count
pub no-wires : (vars : ℕ) (ps : List Pair) → vars ≡ 0 → false ≡ starts_at_zero vars ps
no-wires vars ps h = rw h

pub wires : (vars : ℕ) (ps : List Pair) → (vars ≡ 0 → ⊥) → zero_first ps ≡ starts_at_zero vars ps
wires vars ps h = rw (lt-ltb 0 vars (omega arith))
