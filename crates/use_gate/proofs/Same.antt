-- Where the counts are right for the queries' cells, 13 and 15 by counts say what they say by a walk over the queries.
-- Assumes nothing.
use Prim.Native.Nat.{ℕ, zero, suc, ◌+◌, ◌-◌, ◌≤◌}
use mathlib.Core.Path.{◌≡◌, refl, sym, ap, ap₂, ◌∙◌, fun_ext}
use mathlib.Core.Bool.{Bool, true, false, not, ◌&&◌, ◌||◌, and-false}
use mathlib.Core.List.{List, [], ◌∷◌}
use native.Mathlib.Omega.{arith}
use borrow.Author.Tests.{lt-ltb, le-ltb, ltb-true, ltb-false, ne_eqb, eqb-true, eqb-false}
use lib.Dec.{eqb, ltb, leb}
use lib.ListN.{drop, get_or, get_or-eq_default}
use Rattle.limits.specs.Numbers.{unassigned}
use Rattle.limits.specs.Questions.{pick, ask, ◌▸◌, first_no}
use Rattle.limits.proofs.Questions.{ask-no, ask-yes, stays, goes_on}
use Rattle.limits.proofs.Below.{below-cons}
use Rattle.words.specs.Store.{all_below}
use Rattle.words.specs.Pieces.{flat}
use Rattle.uses.specs.Uses.{times, strays, uses_from, uses_of, UseCounts}
use Rattle.uses.proofs.Counts.{uses-at, uses-length, from-drop}
use Rattle.instance.specs.Parts.{Parts, pair_vars, has}
use Rattle.validated.specs.Validated.{bound_by, termwise_asks, validated_asks, validated_asks_by, gate_asks, gate_asks_by}
use Rattle.use_gate.specs.UseGate.{uses_below, used_no}

-- ---- 13
-- y is none of the m wires from i on
abbrev outside : (i m y : ℕ) → Bool
outside i m y = ltb y i || not (ltb y (i + m))

skip : (i y : ℕ) → (i ≡ y → ⊥) → ltb y (suc i) ≡ ltb y i
skip i y h = go (ltb y i) refl
  where
    go : (b : Bool) → ltb y i ≡ b → ltb y (suc i) ≡ b
    go true e = lt-ltb y (suc i) (omega (arith, ltb-true y i e))
    go false e = le-ltb y (suc i) (above (ltb-false y i e))
      where
        above : i ≤ y → suc i ≤ y
        above k = omega (arith, h)

swap : (a b c : Bool) → (a && (b && c)) ≡ (b && (a && c))
swap true b c = refl
swap false b c = sym (and-false b)

none_more : (i m y t : ℕ) (z r : Bool) → r ≡ (outside (suc i) m y && z)
    → (ltb (pick (eqb i y) 1 0 + t) 1 && r) ≡ (outside i (suc m) y && (ltb t 1 && z))
none_more i m y t z r e = rw e (go (eqb i y) refl)
  where
    end : suc i + m ≡ i + suc m
    end = omega arith

    go : (b : Bool) → eqb i y ≡ b → (ltb (pick b 1 0 + t) 1 && (outside (suc i) m y && z)) ≡ (outside i (suc m) y && (ltb t 1 && z))
    go true h =
        let k : i ≡ y = eqb-true i y h in
        let a : ltb (1 + t) 1 ≡ false = le-ltb (1 + t) 1 (omega arith) in
        let b : ltb y i ≡ false = le-ltb y i (omega arith) in
        let c : ltb y (i + suc m) ≡ true = lt-ltb y (i + suc m) (omega arith) in
        rw (a, b, c)
    go false h =
        let a : 0 + t ≡ t = omega arith in
        rw (a, end, skip i y (eqb-false i y h)) (swap (ltb t 1) (outside i (suc m) y) z)

either : (b : Bool) → (b || not b) ≡ true
either true = refl
either false = refl

-- one cell more leaves the counts of the m wires from i on at 0 exactly where it is outside them
none_from : (i m y : ℕ) (l : List ℕ) → all_below 1 (uses_from i m (y ∷ l)) ≡ (outside i m y && all_below 1 (uses_from i m l))
unfolding all_below times
none_from i zero y l = let z : i + 0 ≡ i = omega arith in rw z (rw (either (ltb y i)))
none_from i (suc m) y l =
    none_more i m y (times l i) (all_below 1 (uses_from (suc i) m l)) (all_below 1 (uses_from (suc i) m (y ∷ l))) (none_from (suc i) m y l)

none-none : (i m : ℕ) → all_below 1 (uses_from i m []) ≡ true
unfolding all_below times
none-none i zero = refl
none-none i (suc m) = none-none (suc i) m

stray-none : (len y : ℕ) (l : List ℕ) → eqb (strays len (y ∷ l)) 0 ≡ (ltb y len && eqb (strays len l) 0)
unfolding strays
stray-none len y l = go (ltb y len)
  where
    go : (b : Bool) → eqb (pick b 0 1 + strays len l) 0 ≡ (b && eqb (strays len l) 0)
    go true = let z : 0 + strays len l ≡ strays len l = omega arith in rw z
    go false = ne_eqb (1 + strays len l) 0 (λ z. omega arith)

-- a cell is below n exactly where it is no stray and outside the wires from n on
one_cell : (n m y : ℕ) (s z : Bool) → (ltb y n && (s && z)) ≡ ((ltb y (n + m) && s) && (outside n m y && z))
one_cell n m y s z = go (ltb y n) (ltb y (n + m)) refl refl
  where
    go : (a b : Bool) → ltb y n ≡ a → ltb y (n + m) ≡ b → (a && (s && z)) ≡ ((b && s) && ((a || not b) && z))
    go true true e f = refl
    go true false e f = absurd (omega (arith, ltb-true y n e, ltb-false y (n + m) f))
    go false true e f = sym (and-false s)
    go false false e f = refl

below-from : (n m : ℕ) (l : List ℕ) → all_below n l ≡ (eqb (strays (n + m) l) 0 && all_below 1 (uses_from n m l))
unfolding all_below strays
below-from n m [] = sym (none-none n m)
below-from n m (y ∷ l) =
    ap (λ (b : Bool). ltb y n && b) (below-from n m l)
    ∙ one_cell n m y (eqb (strays (n + m) l) 0) (all_below 1 (uses_from n m l))
    ∙ sym (ap₂ (λ (a b : Bool). a && b) (stray-none (n + m) y l) (none_from n m y l))

-- every cell is below n exactly where the counts say so
pub below-uses : (n len : ℕ) (cells : List ℕ) → n ≤ len → all_below n cells ≡ uses_below n (uses_of len cells) (strays len cells)
unfolding uses_of
below-uses n len cells h =
    let k : n + (len - n) ≡ len = omega arith in
    let z : 0 + n ≡ n = omega arith in
    let d : uses_from n (len - n) cells ≡ drop n (uses_from 0 len cells) =
    ap (λ (i : ℕ). uses_from i (len - n) cells) (sym z)
    ∙ sym (from-drop 0 (len - n) n cells)
    ∙ ap (λ (j : ℕ). drop n (uses_from 0 j cells)) k in
    below-from n (len - n) cells ∙ ap₂ (λ (j : ℕ) (t : List ℕ). eqb (strays j cells) 0 && all_below 1 t) k d

-- ---- 15
has-times : (l : List ℕ) (x : ℕ) → ltb 0 (times l x) ≡ has l x
unfolding times
has-times [] x = refl
has-times (y ∷ l) x = go (eqb x y) (has-times l x)
  where
    go : (b : Bool) → ltb 0 (times l x) ≡ has l x → ltb 0 (pick b 1 0 + times l x) ≡ (b || has l x)
    go true e = lt-ltb 0 (1 + times l x) (omega arith)
    go false e = let z : 0 + times l x ≡ times l x = omega arith in rw z e

absent : (n x : ℕ) (l : List ℕ) → n ≤ x → all_below n l ≡ true → has l x ≡ false
absent n x [] h e = refl
absent n x (y ∷ l) h e =
    let p = below-cons n y l e in
    let k = p.0 in
    rw (ne_eqb x y (λ z. omega arith)) (absent n x l h p.1)

-- a count is above 0 exactly where a cell names the wire
pub used-has : (n len : ℕ) (cells : List ℕ) → n ≤ len → all_below n cells ≡ true
    → (x : ℕ) → ltb 0 (get_or (uses_of len cells) x 0) ≡ has cells x
used-has n len cells h e x = go (ltb x len) refl
  where
    go : (b : Bool) → ltb x len ≡ b → ltb 0 (get_or (uses_of len cells) x 0) ≡ has cells x
    go true k = rw (uses-at len cells x (ltb-true x len k)) (has-times cells x)
    go false k =
        let j = ltb-false x len k in
        let u = uses-length len cells in
        rw (get_or-eq_default (uses_of len cells) 0 {n = x} (omega arith)) (sym (absent n x cells (omega arith) e))

-- ---- the gate
-- what follows 13 matters only where 13 says yes
thirteen : (b : Bool) (x y : ℕ) → (b ≡ true → x ≡ y) → ask 13 b ▸ x ≡ ask 13 b ▸ y
thirteen true x y f = ap (λ (n : ℕ). ask 13 true ▸ n) (f refl)
thirteen false x y f = refused x ∙ sym (refused y)
  where
    refused : (rest : ℕ) → ask 13 false ▸ rest ≡ 13
    refused rest = ap (λ (n : ℕ). n ▸ rest) (ask-no 13 false refl) ∙ stays 13 rest (λ z. omega arith)

module _ (parts : Parts) (slots uses : List ℕ) (stray : ℕ) where
  module _ (len : ℕ) (h : parts.vars ≤ len) (c : UseCounts len (flat parts.queries) uses stray)
      (publics : (x : ℕ) → has (pair_vars parts.publics) x ≡ not (eqb (get_or slots x unassigned) unassigned)) where
    pub same-validated : first_no (validated_asks_by (uses_below parts.vars uses stray) (bound_by slots uses) parts) ≡ first_no (validated_asks parts)
    same-validated =
        let n = parts.vars in
        let cells = flat parts.queries in
        let below : uses_below n uses stray ≡ all_below n cells =
        ap₂ (uses_below n) c.uses-are c.stray-is ∙ sym (below-uses n len cells h) in
        ap (λ (k : ℕ). ask 12 (all_below n (pair_vars parts.publics)) ▸ k)
        (ap (λ (t : Bool). ask 13 t ▸ first_no (termwise_asks n (bound_by slots uses) parts.equations)) below
        ∙ thirteen (all_below n cells) _ _
        (λ e.
        ap (λ (f : ℕ → Bool). first_no (termwise_asks parts.vars f parts.equations))
        (fun_ext (λ x.
        ap₂ (λ (s t : Bool). s || t) (sym (publics x))
        (ap (λ (u : List ℕ). ltb 0 (get_or u x 0)) c.uses-are ∙ used-has parts.vars len (flat parts.queries) h e x)))))

    -- 16 before them
    pub same-gate : (scratch : ℕ)
        → first_no (gate_asks_by (uses_below parts.vars uses stray) (bound_by slots uses) parts scratch) ≡ first_no (gate_asks parts scratch)
    same-gate scratch = ap (λ (k : ℕ). ask 16 (leb parts.vars scratch) ▸ k) same-validated

  -- where 12 says yes, 13 to 15 are left
  pub used-no : all_below parts.vars (pair_vars parts.publics) ≡ true
      → first_no (validated_asks_by (uses_below parts.vars uses stray) (bound_by slots uses) parts)
      ≡ used_no parts.vars slots uses stray parts.equations
  unfolding used_no
  used-no e = goes_on _ _ (ask-yes 12 (all_below parts.vars (pair_vars parts.publics)) e)
