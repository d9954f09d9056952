-- The inverse that the elimination finds is the inverse, and where it finds none the matrix is singular.
--
-- Of a matrix whose rows say how u gives v, the steps from c on make one whose rows say how the first c words of u with the
-- rest of v give the first c words of v with the rest of u. At 0 that is how v gives u. Where a step finds no row to solve,
-- the unit vector c is sent to a list that is 0 from c on; back at 0 that is a vector sent to 0. Assumes nothing.
use Prim.Native.Nat.{ℕ, zero, suc, ◌+◌, ◌%◌, ◌≤◌, ◌<◌}
use mathlib.Core.Path.{◌≡◌, refl, sym, ap, ap₂, ◌∙◌, subst}
use mathlib.Core.Bool.{true}
use mathlib.Core.List.{List, [], ◌∷◌, map}
use native.Mathlib.Omega.{arith}
use native.Mathlib.Nat.{mod-lt}
use native.Mathlib.Decide.{dec_lt}
use lib.Dec.{lit<}
use lib.ListN.{length, get_or, set, replicate, length-set, length-map, length-replicate, get_or-replicate}
use lib.Seq.{get_or-set_same, get_or-set_other, set-get_or, set-set, ext_get_or}
use Rattle.limits.specs.Numbers.{prime}
use Rattle.limits.specs.Below.{all_below}
use Rattle.limits.proofs.Below.{cons-below, below_set, below-replicate}
use Rattle.words.specs.Store.{All}
use Rattle.baby_bear.specs.Field.{are_units}
use Rattle.baby_bear.proofs.Mod.{same, back, ◌⟫◌, rest}
use Rattle.permute.specs.Permute.{times_matrix}
use Rattle.matrix_inverse.specs.Inverse.{Units, Inverts, Singular, Square, swap, pivot, Inverse, inverse, none, swap_columns, eliminate, invert_matrix}
use Rattle.matrix_inverse.proofs.Lists.{get_or-mapped, length-swap, swap-same, swap-swap, joined, joined-zero, joined-all, joined_length, joined-front, joined-rest, joined-below}
use Rattle.matrix_inverse.proofs.Dots.{dot-unit, dot-zeros}
use Rattle.matrix_inverse.proofs.Exchange.{Says, times-says, says-times}
use Rattle.matrix_inverse.proofs.Units.{columns-units}
use Rattle.matrix_inverse.proofs.Steps.{pivot-none, columns-square, columns-to, columns-from, stepped, eliminate-step, eliminate-stuck, given, gives, given-length, gives-length, stepped-square, stepped-units, step-to, step_from, step_given, step_gives}

-- ---- what it leaves
-- n is what the elimination of m from c on leaves
record Solved (w c : ℕ) (m n : List (List ℕ)) : Type 0 where
  square : Square w n
  units : All (λ (r : List ℕ). are_units r ≡ true) m → All (λ (r : List ℕ). are_units r ≡ true) n
  to : (u v : List ℕ) → length u ≡ w → length v ≡ w → Says m u v → Says n (joined c u v) (joined c v u)
  from : (u v : List ℕ) → length u ≡ w → length v ≡ w → Says n (joined c u v) (joined c v u) → Says m u v

-- at the end that is the matrix
solved-end : (w : ℕ) (m : List (List ℕ)) → Square w m → Solved w w m m
solved-end w m sq = record {
  square = sq;
  units = λ a. a;
  to = λ u v lu lv says. rw (last u v lu lv, last v u lv lu) says;
  from = λ u v lu lv says. rw (last u v lu lv, last v u lv lu) at says;
}
  where
    last : (u v : List ℕ) → length u ≡ w → length v ≡ w → joined w u v ≡ u
    last u v lu lv = joined-all w u v (omega arith) (omega arith)

-- before a step it is that after it, with the columns exchanged as the rows were
solved-step : (w c : ℕ) (m : List (List ℕ)) → c < w → Square w m → pivot c m < length m → (n : List (List ℕ))
    → Solved w (suc c) (stepped c m) n → Solved w c m (map (swap 0 c (pivot c m)) n)
solved-step w c m hc sq h n d = record {
  square = columns-square w c i n d.square;
  units = λ a. columns-units c i n (d.units (stepped-units w c m hc sq h a));
  to = λ u v lu lv says.
      columns-to w c i n (joined c u v) (joined c v u) hc hi d.square (joined_length c u v (lu ∙ sym lv) ∙ lv)
      (rw (step_given w c m hc sq h u v lu lv, step_gives w c m hc sq h u v lu lv)
      at (d.to (given c i u v) (gives c i u v) (given-length c i u v ∙ lu) (gives-length c i u v ∙ lv) (step-to w c m hc sq h u v lu lv says)));
  from = λ u v lu lv says.
      step_from w c m hc sq h u v lu lv
      (d.from (given c i u v) (gives c i u v) (given-length c i u v ∙ lu) (gives-length c i u v ∙ lv)
      (rw (step_given w c m hc sq h u v lu lv, step_gives w c m hc sq h u v lu lv)
      (columns-from w c i n (joined c u v) (joined c v u) hc hi d.square (joined_length c u v (lu ∙ sym lv) ∙ lv) says)));
}
  where
    i : ℕ
    i = pivot c m

    hi : pivot c m < w
    hi = omega (arith, sq.count)

-- so the whole elimination, k steps from c on
solved : (k w c : ℕ) (m n : List (List ℕ)) → c + k ≡ w → Square w m → eliminate k c m ≡ inverse n → Solved w c m n
solved zero w c m n s sq e =
    let f : m ≡ n = unfold eliminate in cc in
    let g : w ≡ c = omega arith in
    rw (← f, ← g) (solved-end w m sq)
solved (suc k) w c m n s sq e = go (dec_lt (pivot c m) (length m)) (solved k w (suc c) (stepped c m))
  where
    go : Dec (pivot c m < length m)
        → ((n : List (List ℕ)) → suc c + k ≡ w → Square w (stepped c m) → eliminate k (suc c) (stepped c m) ≡ inverse n → Solved w (suc c) (stepped c m) n)
        → Solved w c m n
    go (no h) ih =
        let t : none ≡ inverse n = sym (eliminate-stuck k c m (omega arith)) ∙ e in
        let z : ◌≡◌ {A = ℕ} 0 1 = cc in
        absurd (omega arith)
    go (yes h) ih = at (eliminate k (suc c) (stepped c m)) refl (sym (eliminate-step k c m h) ∙ e)
      where
        at : (o : Inverse) → eliminate k (suc c) (stepped c m) ≡ o → swap_columns c (pivot c m) o ≡ inverse n → Solved w c m n
        at none f t = let z : ◌≡◌ {A = ℕ} 0 1 = cc in absurd (omega arith)
        at (inverse o) f t =
            let q : map (swap 0 c (pivot c m)) o ≡ n = cc in
            rw (← q) (solved-step w c m (omega arith) sq h o (ih o (omega arith) (stepped-square w c m (omega arith) sq h) f))

-- ---- where it finds none
-- u and v of which m says that u gives v, with zeros on the one side of the elimination from c on, and on the other units
-- that aren't all 0
record Stuck (w c : ℕ) (m : List (List ℕ)) : Type 0 where
  u : List ℕ
  v : List ℕ
  long-u : length u ≡ w
  long-v : length v ≡ w
  zeros : joined c u v ≡ replicate w 0
  units : are_units (joined c v u) ≡ true
  some : joined c v u ≡ replicate w 0 → ⊥
  says : Says m u v

-- the words c of all rows, each modulo p, are units
column-units : (c : ℕ) (m : List (List ℕ)) → are_units (map (λ (r : List ℕ). get_or r c 0 % prime) m) ≡ true
unfolding all_below
column-units c [] = refl
column-units c (r ∷ m) =
    cons-below prime (get_or r c 0 % prime) (map (λ (r : List ℕ). get_or r c 0 % prime) m) (mod-lt (get_or r c 0) (lit< tt)) (column-units c m)

-- with no row to solve: the unit vector c, and column c
stuck-here : (w c : ℕ) (m : List (List ℕ)) → c < w → Square w m → length m ≤ pivot c m → Stuck w c m
stuck-here w c m hc sq h = record {
  u = u;
  v = v;
  long-u = lu;
  long-v = lv;
  zeros =
      ext_get_or 0 (joined c u v) (replicate w 0) (joined_length c u v (lu ∙ sym lv) ∙ lv ∙ sym (length-replicate w 0))
      (λ j b. at j (omega (arith, joined_length c u v (lu ∙ sym lv), lv)) (dec_lt j c));
  units = joined-below prime c v u (column-units c m) (below_set prime (replicate w 0) c 1 (lit< tt) (below-replicate prime w 0 (lit< tt)));
  some = λ e.
      let a : ◌≡◌ {A = ℕ} 1 0 =
      sym (get_or-set_same (replicate w 0) c 1 0 (omega (arith, length-replicate {A = ℕ} w 0))) ∙ sym (joined-rest c v u c 0 (lv ∙ sym lu) (omega arith))
      ∙ ap (λ (l : List ℕ). get_or l c 0) e ∙ get_or-replicate w c 0 0 hc in
      omega arith;
  says = record {
    row = λ j b.
        same (dot-unit (get_or m j []) w c hc) ⟫ back rest ⟫ same (sym (get_or-mapped (λ (r : List ℕ). get_or r c 0 % prime) m j [] 0 b));
  };
}
  where
    u : List ℕ
    u = set (replicate w 0) c 1

    v : List ℕ
    v = map (λ (r : List ℕ). get_or r c 0 % prime) m

    lu : length u ≡ w
    lu = length-set (replicate w 0) c 1 ∙ length-replicate w 0

    lv : length v ≡ w
    lv = length-map m (λ (r : List ℕ). get_or r c 0 % prime) ∙ sq.count

    at : (j : ℕ) → j < w → Dec (j < c) → get_or (joined c u v) j 0 ≡ get_or (replicate w 0) j 0
    at j b (yes l) =
        joined-front c u v j 0 (lu ∙ sym lv) l ∙ get_or-set_other (replicate w 0) c j 1 0 (λ q. omega arith)
    at j b (no l) =
        joined-rest c u v j 0 (lu ∙ sym lv) (omega arith)
        ∙ get_or-mapped (λ (r : List ℕ). get_or r c 0 % prime) m j [] 0 (omega (arith, sq.count))
        ∙ pivot-none c m h j (omega arith) (omega (arith, sq.count)) ∙ sym (get_or-replicate w j 0 0 b)

-- two lists with the words at c exchanged, and exchanged again
exchanged-back : (c : ℕ) (u v : List ℕ) (x : ℕ) → c < length v → set (set u c x) c (get_or (set v c (get_or u c 0)) c 0) ≡ u
exchanged-back c u v x h =
    set-set u c x (get_or (set v c (get_or u c 0)) c 0) ∙ ap (λ (t : ℕ). set u c t) (get_or-set_same v c (get_or u c 0) 0 h) ∙ set-get_or u c 0

-- before a step: the lists that it makes those of
stuck-step : (w c : ℕ) (m : List (List ℕ)) → c < w → Square w m → pivot c m < length m → Stuck w (suc c) (stepped c m) → Stuck w c m
stuck-step w c m hc sq h d = record {
  u = u;
  v = v;
  long-u = lu;
  long-v = lv;
  zeros =
      sym (swap-swap 0 c i (joined c u v) (omega (arith, lj)) (omega (arith, lj, hi)))
      ∙ ap (swap 0 c i) (sym (step_given w c m hc sq h u v lu lv) ∙ ap₂ (joined (suc c)) is-u is-v ∙ d.zeros)
      ∙ swap-same 0 c i (replicate w 0) (get_or-replicate w c 0 0 hc ∙ sym (get_or-replicate w i 0 0 hi));
  units = ap are_units (sym is_x) ∙ d.units;
  some = λ e. d.some (is_x ∙ e);
  says = step_from w c m hc sq h u v lu lv (rw (is-u, is-v) d.says);
}
  where
    i : ℕ
    i = pivot c m

    hi : pivot c m < w
    hi = omega (arith, sq.count)

    u : List ℕ
    u = set d.u c (get_or d.v c 0)

    v1 : List ℕ
    v1 = set d.v c (get_or d.u c 0)

    v : List ℕ
    v = swap 0 c i v1

    lu : length u ≡ w
    lu = length-set d.u c (get_or d.v c 0) ∙ d.long-u

    l1 : length v1 ≡ w
    l1 = length-set d.v c (get_or d.u c 0) ∙ d.long-v

    lv : length v ≡ w
    lv = length-swap 0 c i v1 ∙ l1

    lj : length (joined c u v) ≡ w
    lj = joined_length c u v (lu ∙ sym lv) ∙ lv

    is-v1 : swap 0 c i v ≡ v1
    is-v1 = swap-swap 0 c i v1 (omega (arith, l1)) (omega (arith, l1, hi))

    is-u : given c i u v ≡ d.u
    is-u =
        ap (λ (l : List ℕ). set u c (get_or l c 0)) is-v1
        ∙ exchanged-back c d.u d.v (get_or d.v c 0) (omega (arith, d.long-v))

    is-v : gives c i u v ≡ d.v
    is-v =
        ap (λ (l : List ℕ). set l c (get_or u c 0)) is-v1
        ∙ exchanged-back c d.v d.u (get_or d.u c 0) (omega (arith, d.long-u))

    is_x : joined (suc c) d.v d.u ≡ joined c v u
    is_x = ap₂ (joined (suc c)) (sym is-v) (sym is-u) ∙ step_gives w c m hc sq h u v lu lv

-- so k steps from c on
stuck : (k w c : ℕ) (m : List (List ℕ)) → c + k ≡ w → Square w m → eliminate k c m ≡ none → Stuck w c m
stuck zero w c m s sq e = let z : ◌≡◌ {A = ℕ} 0 1 = unfold eliminate in cc in absurd (omega arith)
stuck (suc k) w c m s sq e = go (dec_lt (pivot c m) (length m)) (stuck k w (suc c) (stepped c m))
  where
    go : Dec (pivot c m < length m)
        → (suc c + k ≡ w → Square w (stepped c m) → eliminate k (suc c) (stepped c m) ≡ none → Stuck w (suc c) (stepped c m))
        → Stuck w c m
    go (no h) ih = stuck-here w c m (omega arith) sq (omega arith)
    go (yes h) ih = at (eliminate k (suc c) (stepped c m)) refl (sym (eliminate-step k c m h) ∙ e)
      where
        at : (o : Inverse) → eliminate k (suc c) (stepped c m) ≡ o → swap_columns c (pivot c m) o ≡ none → Stuck w c m
        at none f t = stuck-step w c m (omega arith) sq h (ih (omega arith) (stepped-square w c m (omega arith) sq h) f)
        at (inverse o) f t = let z : ◌≡◌ {A = ℕ} 0 1 = cc in absurd (omega arith)

-- ---- the whole
-- zeros are units
pub units-zeros : (w : ℕ) → Units w (replicate w 0)
units-zeros w = record { size = length-replicate w 0; below = below-replicate prime w 0 (lit< tt) }

-- any matrix turns zeros into zeros
pub times-zeros : (w : ℕ) (n : List (List ℕ)) → length n ≡ w → times_matrix n (replicate w 0) ≡ replicate w 0
times-zeros w n l =
    says-times n (replicate w 0) (replicate w 0) (length-replicate w 0 ∙ sym l) (units-zeros w).below
    (record { row = λ j h. same (dot-zeros (get_or n j []) w ∙ sym (get_or-replicate w j 0 0 (omega arith))) })

module _ (w : ℕ) (m n : List (List ℕ)) (sq : Square w m) (e : invert_matrix m ≡ inverse n) where
  -- all steps, from 0 on
  whole : Solved w 0 m n
  whole = solved (length m) w 0 m n (omega (arith, sq.count)) sq e

  -- what is found is the inverse
  pub inverse-is : Inverts w m n
  inverse-is = record {
    to = λ x y ux uy f.
        says-times n y x (ux.size ∙ sym whole.square.count) ux.below
        (rw (joined-zero x y, joined-zero y x) at (whole.to x y ux.size uy.size (times-says m x y f)));
    from = λ x y ux uy f.
        says-times m x y (uy.size ∙ sym sq.count) uy.below
        (whole.from x y ux.size uy.size (rw (joined-zero x y, joined-zero y x) (times-says n y x f)));
  }

  -- it has as many rows, of as many words
  pub inverse-square : Square w n
  inverse-square = whole.square

  -- and they are units where the matrix's are
  pub inverse-units : All (λ (r : List ℕ). are_units r ≡ true) m → All (λ (r : List ℕ). are_units r ≡ true) n
  inverse-units a = whole.units a

module _ (w : ℕ) (m : List (List ℕ)) (sq : Square w m) where
  -- where none is found the matrix is singular
  pub none_is : invert_matrix m ≡ none → Singular w m
  none_is e =
      let d = stuck (length m) w 0 m (omega (arith, sq.count)) sq e in
      let v : d.v ≡ replicate w 0 = sym (joined-zero d.u d.v) ∙ d.zeros in
      let x : joined 0 d.v d.u ≡ d.u = joined-zero d.v d.u in
      record {
        vector = d.u;
        units = record { size = d.long-u; below = ap are_units (sym x) ∙ d.units };
        some = λ z. d.some (x ∙ z);
        sent =
            says-times m d.u (replicate w 0) (length-replicate w 0 ∙ sym sq.count) (units-zeros w).below
            (subst (λ (l : List ℕ). Says m d.u l) v d.says);
      }

  -- and for a singular matrix none is: an inverse would turn zeros into the vector, and into zeros
  pub singular-none : Singular w m → invert_matrix m ≡ none
  singular-none s = go (invert_matrix m) refl
    where
      go : (o : Inverse) → invert_matrix m ≡ o → invert_matrix m ≡ none
      go none e = e
      go (inverse n) e =
          absurd (s.some (sym ((inverse-is w m n sq e).to s.vector (replicate w 0) s.units (units-zeros w) s.sent)
          ∙ times-zeros w n (inverse-square w m n sq e).count))
