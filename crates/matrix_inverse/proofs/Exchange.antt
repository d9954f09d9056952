-- One step of the elimination: the rows of a matrix say how u gives v, and after an exchange of u[c] and v[c] they say it
-- of the exchanged lists. Nothing else is said, so a step can be undone. Assumes nothing.
use Prim.Native.Nat.{ℕ, zero, suc, ◌+◌, ◌*◌, ◌%◌, ◌<◌}
use mathlib.Core.Path.{◌≡◌, refl, sym, ap, ap₂, ◌∙◌}
use mathlib.Core.Bool.{true}
use mathlib.Core.List.{List, [], ◌∷◌, map}
use native.Mathlib.Omega.{arith}
use native.Mathlib.Decide.{ℕ_discrete}
use lib.Dec.{lit<}
use lib.ListN.{length, get_or, set, length-set, length-map}
use lib.Seq.{get_or-set_same, get_or-set_other, set-set, ext_get_or}
use Rattle.limits.specs.Numbers.{prime}
use Rattle.limits.proofs.Below.{below-get_or}
use Rattle.baby_bear.specs.Field.{are_units, mul_unit, dot, dot_units}
use Rattle.baby_bear.proofs.Mod.{Same, same, keep, back, ◌⟫◌, rest, ◌⊗◌, ◌⊕◌, below}
use Rattle.baby_bear.proofs.Ring.{mul_unit-is, mul_unit-zero, dot_units-is}
use Rattle.permute.specs.Permute.{times_matrix}
use Rattle.permute.proofs.Keeps.{pairwise-length, times_matrix-length, dot_units-below}
use Rattle.powers.specs.Powers.{invert_unit}
use Rattle.powers.proofs.Residues.{multiple}
use Rattle.powers.proofs.Roots.{invert_unit-is}
use Rattle.matrix_inverse.specs.Rows.{neg_unit, solve_row, substitute}
use Rattle.matrix_inverse.specs.Inverse.{Square, exchange}
use Rattle.matrix_inverse.proofs.Lists.{get_or-mapped, map-set, all_get_d, all_set, all-mapped}
use Rattle.matrix_inverse.proofs.Dots.{dot_at, dot-cleared, dot-scaled, dot-added}

-- ---- what the rows of a matrix say
-- row i says that v[i] is the sum over j of its words times u[j]
pub record Says (m : List (List ℕ)) (u v : List ℕ) : Type 0 where
  pub row : (i : ℕ) → i < length m → Same prime (dot (get_or m i []) u) (get_or v i 0)

-- an element of a product with a matrix is that of a row
times-get_or : (m : List (List ℕ)) (u : List ℕ) (i : ℕ) → i < length m → get_or (times_matrix m u) i 0 ≡ dot_units (get_or m i []) u
unfolding times_matrix
times-get_or [] u i h = absurd (omega arith)
times-get_or (r ∷ m) u zero h = refl
times-get_or (r ∷ m) u (suc i) h = times-get_or m u i (omega arith)

-- a matrix that turns u into v says so row by row
pub times-says : (m : List (List ℕ)) (u v : List ℕ) → times_matrix m u ≡ v → Says m u v
times-says m u v e = record {
  row = λ i h.
      back rest ⟫ same (sym (dot_units-is (get_or m i []) u) ∙ sym (times-get_or m u i h) ∙ ap (λ (l : List ℕ). get_or l i 0) e);
}

-- and if it says so of a list of units, it turns u into it
pub says-times : (m : List (List ℕ)) (u v : List ℕ) → length v ≡ length m → are_units v ≡ true → Says m u v → times_matrix m u ≡ v
says-times m u v l b s =
    ext_get_or 0 (times_matrix m u) v (times_matrix-length m u ∙ sym l) (λ i h. at i (omega (arith, times_matrix-length m u)))
  where
    at : (i : ℕ) → i < length m → get_or (times_matrix m u) i 0 ≡ get_or v i 0
    at i h =
        times-get_or m u i h
        ∙ below (dot_units-below (get_or m i []) u) (below-get_or prime v i (lit< tt) b)
        (same (dot_units-is (get_or m i []) u) ⟫ rest ⟫ s.row i h)

-- ---- a row solved
-- as many words as before
solve_row-length : (c : ℕ) (q : List ℕ) → length (solve_row c q) ≡ length q
unfolding solve_row
solve_row-length c q = length-set (map (mul_unit (neg_unit (invert_unit (get_or q c 0)))) q) c (invert_unit (get_or q c 0)) ∙ length-map q _

module _ (c : ℕ) (q u : List ℕ) (b : ℕ) (hq : c < length q) (hu : c < length u) where
  -- what the other words of the row give
  others : ℕ
  others = dot (set q c 0) u

  -- the row gives word c times u[c], and the others
  row_is : dot q u ≡ get_or q c 0 * get_or u c 0 + others
  unfolding others
  row_is = dot_at q u c

  -- the solved row is b divided by word c, less the others divided by it
  solved-is : Same prime (dot (solve_row c q) (set u c b)) (invert_unit (get_or q c 0) * b + 2013265920 * invert_unit (get_or q c 0) * others)
  unfolding solve_row others
  solved-is =
      let k : ℕ = neg_unit (invert_unit (get_or q c 0)) in
      let i : ℕ = invert_unit (get_or q c 0) in
      let s : List ℕ = map (mul_unit k) q in
      let a : get_or (set s c i) c 0 ≡ i = get_or-set_same s c i 0 (omega (arith, length-map q (mul_unit k))) in
      let d : get_or (set u c b) c 0 ≡ b = get_or-set_same u c b 0 hu in
      let e : set (set s c i) c 0 ≡ map (mul_unit k) (set q c 0) =
      set-set s c i 0 ∙ ap (λ (x : ℕ). set s c x) (sym (mul_unit-zero k)) ∙ sym (map-set (mul_unit k) q c 0) in
      same (dot_at (set s c i) (set u c b) c ∙ ap₂ (λ (x y : ℕ). x * y + dot (set (set s c i) c 0) (set u c b)) a d
      ∙ ap (λ (l : List ℕ). i * b + dot l (set u c b)) e)
      ⟫ keep {a = i * b} ⊕ (dot-scaled k (set q c 0) (set u c b)
      ⟫ mul_unit-is 2013265920 i ⊗ same (dot-cleared q u c b))

  module _ (solvable : get_or q c 0 % prime ≡ 0 → ⊥) where
    -- where the row gives b, u[c] is what the solved row gives
    solve-to : Same prime (dot q u) b → Same prime (get_or u c 0) (dot (solve_row c q) (set u c b))
    solve-to s =
        let h : ℕ = get_or q c 0 in
        let i : ℕ = invert_unit h in
        let x : ℕ = get_or u c 0 in
        let d : ℕ = others in
        let e : i * (h * x + d) + 2013265920 * i * d ≡ h * i * x + i * d * 2013265921 = omega arith in
        back (solved-is ⟫ keep {a = i} ⊗ (back s ⟫ same row_is) ⊕ keep {a = 2013265920 * i * d} ⟫ same e
        ⟫ invert_unit-is h solvable ⊗ keep {a = x} ⊕ multiple (i * d) ⟫ same (omega arith))

    -- and the other way round
    solve-from : Same prime (get_or u c 0) (dot (solve_row c q) (set u c b)) → Same prime (dot q u) b
    solve-from s =
        let h : ℕ = get_or q c 0 in
        let i : ℕ = invert_unit h in
        let d : ℕ = others in
        let e : h * (i * b + 2013265920 * i * d) + d ≡ h * i * (b + 2013265920 * d) + d = omega arith in
        let f : 1 * (b + 2013265920 * d) + d ≡ b + d * 2013265921 = omega arith in
        same row_is ⟫ keep {a = h} ⊗ (s ⟫ solved-is) ⊕ keep {a = d} ⟫ same e
        ⟫ invert_unit-is h solvable ⊗ keep {a = b + 2013265920 * d} ⊕ keep {a = d} ⟫ same f
        ⟫ keep {a = b} ⊕ multiple d ⟫ same (omega arith)

-- ---- the solution put into another row
-- as many words as before
substitute-length : (c : ℕ) (s r : List ℕ) → length (substitute c s r) ≡ length r
unfolding substitute
substitute-length c s r = pairwise-length _ s (set r c 0) ∙ length-set r c 0

-- with v[c] in the place of u[c], the row then gives what it gave
substitute-is : (c : ℕ) (s r u : List ℕ) (b : ℕ) → length s ≡ length r → Same prime (get_or u c 0) (dot s (set u c b))
    → Same prime (dot (substitute c s r) (set u c b)) (dot r u)
unfolding substitute
substitute-is c s r u b l e =
    let f : dot (set r c 0) u + get_or r c 0 * get_or u c 0 ≡ dot r u = omega (arith, dot_at r u c) in
    dot-added (get_or r c 0) s (set r c 0) (set u c b) (l ∙ sym (length-set r c 0))
    ⟫ same (dot-cleared r u c b) ⊕ (keep {a = get_or r c 0} ⊗ back e) ⟫ same f

-- ---- one step
-- as many rows as before, of as many words
pub exchange-square : (w c : ℕ) (m : List (List ℕ)) → c < w → Square w m → Square w (exchange c m)
unfolding exchange
exchange-square w c m h s =
    let q : List ℕ = get_or m c [] in
    let k = all_get_d (λ (r : List ℕ). length r ≡ w) m c [] (omega (arith, s.count)) s.rows in
    let rows = map (substitute c (solve_row c q)) m in
    record {
      count = length-set rows c (solve_row c q) ∙ length-map m _ ∙ s.count;
      rows =
          all_set (λ (r : List ℕ). length r ≡ w) rows c (solve_row c q) (solve_row-length c q ∙ k)
          (all-mapped (λ (r : List ℕ). length r ≡ w) (λ (r : List ℕ). length r ≡ w) (substitute c (solve_row c q)) m
          (λ r e. substitute-length c (solve_row c q) r ∙ e) s.rows);
    }

module _ (w c : ℕ) (m : List (List ℕ)) (u v : List ℕ) (hc : c < w) (sq : Square w m) (lu : length u ≡ w) (lv : length v ≡ w)
    (solvable : get_or (get_or m c []) c 0 % prime ≡ 0 → ⊥) where
  -- the row that is solved, and its solution
  abbrev q : List ℕ
  q = get_or m c []

  abbrev s : List ℕ
  s = solve_row c q

  -- row c is there
  hm : c < length m
  hm = omega (arith, sq.count)

  -- each row has w words
  row-length : (i : ℕ) → i < length m → length (get_or m i []) ≡ w
  row-length i h = all_get_d (λ (r : List ℕ). length r ≡ w) m i [] h sq.rows

  -- as many as the solution
  lengths : (i : ℕ) → i < length m → length s ≡ length (get_or m i [])
  lengths i h = solve_row-length c q ∙ row-length c hm ∙ sym (row-length i h)

  -- the exchange keeps how many rows there are
  exchange-count : length (exchange c m) ≡ length m
  exchange-count = (exchange-square w c m hc sq).count ∙ sym sq.count

  -- row c after the exchange is the solution
  at_c : get_or (exchange c m) c [] ≡ s
  unfolding exchange
  at_c = get_or-set_same (map (substitute c s) m) c s [] (omega (arith, hm, length-map m (substitute c s)))

  -- any other row has the solution put into it
  at_other : (i : ℕ) → i < length m → (i ≡ c → ⊥) → get_or (exchange c m) i [] ≡ substitute c s (get_or m i [])
  unfolding exchange
  at_other i h n = get_or-set_other (map (substitute c s) m) c i s [] n ∙ get_or-mapped (substitute c s) m i [] [] h

  -- v has u[c] at c
  word-c : get_or (set v c (get_or u c 0)) c 0 ≡ get_or u c 0
  word-c = get_or-set_same v c (get_or u c 0) 0 (omega arith)

  -- any other word of v stays
  word-other : (i : ℕ) → (i ≡ c → ⊥) → get_or (set v c (get_or u c 0)) i 0 ≡ get_or v i 0
  word-other i n = get_or-set_other v c i (get_or u c 0) 0 n

  -- u[c] and v[c] exchanged, in the matrix and in the lists
  pub exchange-to : Says m u v → Says (exchange c m) (set u c (get_or v c 0)) (set v c (get_or u c 0))
  exchange-to says = record { row = λ i h. at i (omega (arith, exchange-count)) (ℕ_discrete i c) }
    where
      solved : Same prime (get_or u c 0) (dot s (set u c (get_or v c 0)))
      solved = solve-to c q u (get_or v c 0) (omega (arith, row-length c hm)) (omega arith) solvable (says.row c hm)

      at : (i : ℕ) → i < length m → Dec (i ≡ c)
          → Same prime (dot (get_or (exchange c m) i []) (set u c (get_or v c 0))) (get_or (set v c (get_or u c 0)) i 0)
      at i h (yes e) = rw (e, at_c, word-c) (back solved)
      at i h (no n) =
          rw (at_other i h n, word-other i n) (substitute-is c s (get_or m i []) u (get_or v c 0) (lengths i h) solved ⟫ says.row i h)

  -- and back
  pub exchange-from : Says (exchange c m) (set u c (get_or v c 0)) (set v c (get_or u c 0)) → Says m u v
  exchange-from says = record { row = λ i h. at i h (ℕ_discrete i c) }
    where
      told : (i : ℕ) → i < length m
          → Same prime (dot (get_or (exchange c m) i []) (set u c (get_or v c 0))) (get_or (set v c (get_or u c 0)) i 0)
      told i h = says.row i (omega (arith, exchange-count))

      solved : Same prime (get_or u c 0) (dot s (set u c (get_or v c 0)))
      solved = back (rw (at_c, word-c) at (told c hm))

      at : (i : ℕ) → i < length m → Dec (i ≡ c) → Same prime (dot (get_or m i []) u) (get_or v i 0)
      at i h (yes e) = rw e (solve-from c q u (get_or v c 0) (omega (arith, row-length c hm)) (omega arith) solvable solved)
      at i h (no n) =
          back (substitute-is c s (get_or m i []) u (get_or v c 0) (lengths i h) solved)
          ⟫ (rw (at_other i h n, word-other i n) at (told i h))
