-- A matrix with the words of each column side by side: how it comes to lie so, and its product with a state,
-- four columns at a time, the sums held as their low and high 32 bits.
--
-- `Putting` and `Turning` go with the loops that turn the matrix, `Adding` with the one over a few columns, and
-- `Summing` with those over all columns. Assumes nothing.
use Prim.Native.Nat.{ℕ, zero, suc, ◌+◌, ◌-◌, ◌*◌, ◌/◌, ◌%◌, ◌≤◌, ◌<◌}
use mathlib.Core.Path.{◌≡◌, refl, sym, ap, ◌∙◌}
use mathlib.Core.Logic.{⊎_elim}
use mathlib.Core.Bool.{true}
use mathlib.Core.List.{List, [], ◌∷◌, ◌++◌}
use native.Mathlib.Omega.{arith}
use native.Mathlib.Numerals.{add-one}
use native.Mathlib.Nat.{mul-le-mul, eq-or-lt_of_le}
use borrow.Author.Rules.{rules}
use borrow.Rule.Slice.PartMut.{put_mid, post_of}
use lib.Dec.{lit<}
use lib.ListN.{length, get_or, take, drop, set, replicate, length-set, length-take, length-drop, drop_of_length-le}
use lib.Seq.{drop-cons, drop-drop, get_or-take, get_or-drop, get_or-set_same, get_or-set_other}
use Rattle.std.proofs.lemmas.List.{places}
use Rattle.limits.specs.Numbers.{prime}
use Rattle.limits.proofs.Below.{below-cons, cons-below, below-replicate, below-take, below-drop, below_set}
use Rattle.baby_bear.specs.Field.{are_units, dot}
use Rattle.baby_bear.proofs.Units.{units-at}
use Rattle.permute.specs.Parameters.{rows_of}
use Rattle.permute.specs.Columns.{strided, turned_rows, four, half}
use Rattle.permute.specs.Walks.{MatrixAsked, Turned, ColumnAsked, ColumnPut, ProductAsked, FourAsked, SumsAsked, SumsAdded, Summing, Summed}

-- ---- places
-- an array before anything is put into it
abbrev zeros : ℕ → List ℕ
zeros n = replicate n 0

pub zeros-units : (n : ℕ) → are_units (zeros n) ≡ true
zeros-units n = below-replicate prime n 0 (lit< tt)

-- word k of row i, in a square of w words by w, and in m rows of w words
row_room : (w m k i : ℕ) → k < w → i < m → k + i * w < m * w
row_room w m k i h l = omega (arith, mul-le-mul {n₁ = suc i} {m₁ = w} {n₂ = m} {m₂ = w} l (omega arith))

-- a place below i + 1 is i or below it
last-or-before : {A : Type 0} (i n : ℕ) → n < i + 1 → (n ≡ i → A) → (n < i → A) → A
last-or-before i n h f g = let l : n ≤ i = omega arith in ⊎_elim f g (eq-or-lt_of_le l)

-- ---- one column of the matrix, put word by word: the first i of the words at its place are
pub record Putting (matrix : List ℕ) (w k : ℕ) (words : List ℕ) (i : ℕ) : Type 0 where
  pub units : are_units words ≡ true
  pub written : (n : ℕ) → n < i → get_or words n 0 ≡ get_or matrix (k + n * w) 0

append-units : (x y : List ℕ) → are_units x ≡ true → are_units y ≡ true → are_units (x ++ y) ≡ true
append-units [] y e f = f
append-units (a ∷ x) y e f =
    let p = below-cons prime a x e in
    cons-below prime a (x ++ y) p.0 (append-units x y p.1 f)

module _ {matrix : List ℕ} {w k at : ℕ} {first : List ℕ} (a : ColumnAsked matrix w k at first) where
  pub putting-start : Putting matrix w k (take (at + w - at) (drop at first)) 0
  putting-start =
      record { units = below-take prime (at + w - at) (drop at first) (below-drop prime at first a.units); written = λ n h. absurd (omega arith) }

  module _ {words : List ℕ} {i : ℕ} (p : Putting matrix w k words i) (l : length words ≡ length (take (at + w - at) (drop at first))) where
    words-long : length words ≡ w
    words-long = l ∙ simp (length-take, length-drop) (omega (arith, a.room))

    -- every w-th word from the k-th on
    pub putting-turn : i < length (take (at + w - at) (drop at first)) → (v : ℕ) → v ≡ get_or (take (length matrix - k) (drop k matrix)) (i * w) 0 → Putting matrix w k (set words i v) (i + 1)
    putting-turn h v e =
        record {
          units = below_set prime words i v (omega (arith, is, units-at matrix a.matrix-units (k + i * w))) p.units;
          written = λ n b. last-or-before i n b (λ z. rw z (get_or-set_same words i v 0 (omega (arith, l)) ∙ is)) (λ z. get_or-set_other words i n v 0 (λ y. omega (arith, y)) ∙ p.written n z);
        }
      where
        is : v ≡ get_or matrix (k + i * w) 0
        is =
            e ∙ get_or-take (length matrix - k) (drop k matrix) (i * w) 0 (omega (arith, row_room w w k i a.column (omega (arith, l, words-long)), a.square))
            ∙ get_or-drop k matrix (i * w) 0

    pub putting-done : length (take (at + w - at) (drop at first)) ≤ i → ColumnPut matrix w k at first (put_mid at (at + w - at) first words)
    putting-done h =
        record {
          units = append-units (take at first) (words ++ after) (below-take prime at first a.units)
              (append-units words after p.units (below-drop prime (at + w - at) (drop at first) (below-drop prime at first a.units)));
          earlier = λ n b. search (rules, places);
          written = λ n b. let z : n < length words = omega (arith, words-long) in search (rules, places) ∙ p.written n (omega (arith, l));
        }
      where
        after : List ℕ
        after = post_of at (at + w - at) first

-- ---- all columns: k of them are done
pub record Turning (matrix : List ℕ) (w : ℕ) (first columns : List ℕ) (k : ℕ) : Type 0 where
  pub units : are_units columns ≡ true
  pub cells : (m n : ℕ) → m < k → n < w → get_or columns (m * w + n) 0 ≡ get_or matrix (m + n * w) 0
  pub kept : length columns ≡ length first

module _ {matrix : List ℕ} {w : ℕ} {first : List ℕ} (a : MatrixAsked matrix w first) where
  module _ {columns : List ℕ} {k : ℕ} (t : Turning matrix w first columns k) where
    pub turning-turn : {columns' : List ℕ} → length columns' ≡ length columns → ColumnPut matrix w k (k * w) columns columns'
        → Turning matrix w first columns' (k + 1)
    turning-turn l e =
        record {
          units = e.units;
          cells = λ m n b d. last-or-before k m b (λ z. rw z (e.written n d)) (λ z. e.earlier (m * w + n) (omega (arith, row_room w k n m d z)) ∙ t.cells m n z d);
          kept = l ∙ t.kept;
        }

    turned-row : w ≤ k → (n i m : ℕ) → i < w → m + n ≡ w → strided w n (m * w + i) columns ≡ take n (drop (m + i * w) matrix)
    unfolding strided
    turned-row h zero i m l e = refl
    turned-row h (suc n) i m l e =
        let x : m * w + i + w ≡ (m + 1) * w + i = omega arith in
        let y : m + 1 + i * w ≡ suc (m + i * w) = omega arith in
        let r : m + i * w < length matrix = omega (arith, row_room w w m i (omega arith) l, a.square) in
        rw (drop-cons matrix (m + i * w) 0 r, t.cells m i (omega arith) l, x)
        (ap (λ (q : List ℕ). get_or matrix (m + i * w) 0 ∷ q) (rw y at (turned-row h n i (m + 1) l (omega arith))))

    turned_rows_are : w ≤ k → (n i : ℕ) → i + n ≡ w → turned_rows w n i columns ≡ rows_of w n (drop (i * w) matrix)
    unfolding turned_rows rows_of
    turned_rows_are h zero i e = refl
    turned_rows_are h (suc n) i e =
        let x : 0 * w + i ≡ i = omega arith in
        let y : 0 + i * w ≡ i * w = omega arith in
        let d : i * w + w ≡ suc i * w = omega arith in
        rw (drop-drop w (i * w) matrix, d, rw (x, y) at (turned-row h w i 0 (omega arith) (omega arith)))
        (ap (λ (q : List (List ℕ)). take w (drop (i * w) matrix) ∷ q) (turned_rows_are h n (suc i) (omega arith)))

    pub turning-done : w ≤ k → Turned matrix w columns
    turning-done h =
        let b : 0 * w ≡ 0 = omega arith in
        record { units = t.units; rows = rw b at (turned_rows_are h w 0 (omega arith)) }

-- ---- a few columns added to the sums
-- one part: f of n is added to sum n, for each n below i
pub record Added (f : ℕ → ℕ) (first sums : List ℕ) (i : ℕ) : Type 0 where
  pub done : (n : ℕ) → n < i → get_or sums n 0 ≡ get_or first n 0 + f n
  pub left : (n : ℕ) → i ≤ n → get_or sums n 0 ≡ get_or first n 0
  pub kept : length sums ≡ length first

added-turn : (f : ℕ → ℕ) (first sums : List ℕ) (i v : ℕ) → Added f first sums i → v ≡ get_or sums i 0 + f i → i < length first
    → Added f first (set sums i v) (i + 1)
added-turn f first sums i v a e h =
    record {
      done = λ n b. last-or-before i n b (here n) (λ z. get_or-set_other sums i n v 0 (λ y. omega (arith, y)) ∙ a.done n z);
      left = λ n b. get_or-set_other sums i n v 0 (λ y. omega (arith, y)) ∙ a.left n (omega arith);
      kept = length-set sums i v ∙ a.kept;
    }
  where
    here : (n : ℕ) → n ≡ i → get_or (set sums i v) n 0 ≡ get_or first n 0 + f n
    here n z =
        rw z (get_or-set_same sums i v 0 (omega (arith, a.kept)) ∙ e ∙ ap (λ (t : ℕ). t + f i) (a.left i (omega arith)))

-- both parts, of w sums
pub record Adding (u : ℕ → ℕ) (w : ℕ) (low₀ high₀ low high : List ℕ) (i : ℕ) : Type 0 where
  pub low_part : Added (λ n. u n % half) low₀ low i
  pub high_part : Added (λ n. u n / half) high₀ high i

module _ {u : ℕ → ℕ} {w : ℕ} {low₀ high₀ low high : List ℕ} {i : ℕ} (a : Adding u w low₀ high₀ low high i) where
  pub adding-done : w ≤ i → SumsAdded u w low₀ high₀ low high
  adding-done h =
      record { low-is = λ n b. a.low_part.done n (omega arith); high_is = λ n b. a.high_part.done n (omega arith) }

  module _ (s : SumsAsked w low₀ high₀) (h : i < w) where
    pub adding-turn : (v : ℕ) → v ≡ u i
        → Adding u w low₀ high₀ (set low i (get_or low i 0 + v % half)) (set high i (get_or high i 0 + v / half)) (i + 1)
    adding-turn v e =
        record {
          low_part = added-turn _ _ low i _ a.low_part (ap (λ (t : ℕ). get_or low i 0 + t % half) e) (omega (arith, s.low-room));
          high_part = added-turn _ _ high i _ a.high_part (ap (λ (t : ℕ). get_or high i 0 + t / half) e) (omega (arith, s.high-room));
        }

-- ---- four products
pub unit-product : {a b : ℕ} → a < prime → b < prime → a * b ≤ 4053239664633446400
unit-product {a} {b} h l = mul-le-mul {n₁ = a} {m₁ = b} {n₂ = 2013265920} {m₂ = 2013265920} (omega arith) (omega arith)

product-fits : (words : List ℕ) → are_units words ≡ true → (a i : ℕ) → a < prime → get_or words i 0 * a ≤ 4053239664633446400
product-fits words u a i h = unit-product (units-at words u i) h

module _ {words : List ℕ} {step a b c d n : ℕ} (f : FourAsked words step a b c d n) (i : ℕ) where
  -- each of them
  pub products-fit : (get_or words i 0 * a ≤ 4053239664633446400) × (get_or words (step + i) 0 * b ≤ 4053239664633446400)
      × (get_or words (step * 2 + i) 0 * c ≤ 4053239664633446400) × (get_or words (step * 3 + i) 0 * d ≤ 4053239664633446400)
  products-fit = (
    product-fits words f.units a i f.first,
    product-fits words f.units b (step + i) f.second,
    product-fits words f.units c (step * 2 + i) f.third,
    product-fits words f.units d (step * 3 + i) f.fourth,
  )

  pub four-fits : four words step a b c d i ≤ 16212958658533785600
  unfolding four
  four-fits = let p = products-fit in omega arith

pub four_is : (words : List ℕ) (step a b c d i : ℕ) {p q r s : ℕ} → p ≡ get_or words i 0 * a → q ≡ get_or words (step + i) 0 * b
    → r ≡ get_or words (step * 2 + i) 0 * c → s ≡ get_or words (step * 3 + i) 0 * d → p + q + (r + s) ≡ four words step a b c d i
unfolding four
four_is words step a b c d i e f g h = omega (arith, e, f, g, h)

-- ---- all columns added up
pub dot-turn : (r x : List ℕ) (j k : ℕ) → k ≡ j + 1 → j < length r → j < length x
    → dot (drop j r) (drop j x) ≡ get_or r j 0 * get_or x j 0 + dot (drop k r) (drop k x)
unfolding dot
dot-turn r x j k e h l = rw (e, add-one, drop-cons r j 0, drop-cons x j 0)

pub dot-end : (r x : List ℕ) (j : ℕ) → length r ≤ j → dot (drop j r) (drop j x) ≡ 0
unfolding dot
dot-end r x j h = rw (drop_of_length-le r h)

strided-length : (w n at : ℕ) (words : List ℕ) → length (strided w n at words) ≡ n
unfolding strided
strided-length w zero at words = refl
strided-length w (suc n) at words = ap suc (strided-length w n (at + w) words)

strided-at : (w n at : ℕ) (words : List ℕ) (k : ℕ) → k < n → get_or (strided w n at words) k 0 ≡ get_or words (at + k * w) 0
unfolding strided
strided-at w zero at words k h = absurd (omega arith)
strided-at w (suc n) at words zero h = ap (λ (t : ℕ). get_or words t 0) (omega arith)
strided-at w (suc n) at words (suc k) h =
    strided-at w n (at + w) words k (omega arith) ∙ ap (λ (t : ℕ). get_or words t 0) (omega arith)

module _ {columns x : List ℕ} (p : ProductAsked columns x) where
  -- the width
  abbrev w : ℕ
  w = length x

  module _ {low high : List ℕ} {j at : ℕ} (s : Summing columns x w low high j at) where
    -- k columns more, which come to u
    step : (low' high' : List ℕ) (k at' : ℕ) (u : ℕ → ℕ) → at' ≡ at + k * w → 1 ≤ k → j + k ≤ w
        → length low' ≡ length low → length high' ≡ length high → SumsAdded u w low high low' high'
        → ((n : ℕ) → n < w → dot (drop j (strided w w n columns)) (drop j x) ≡ u n + dot (drop (j + k) (strided w w n columns)) (drop (j + k) x))
        → ((n : ℕ) → n < w → u n ≤ k * 4053239664633446400)
        → Summing columns x w low' high' (j + k) at'
    step low' high' k at' u ea pos room ll lh e ed fits =
        record {
          sums = λ n h. omega (arith, s.sums n h, e.low-is n h, e.high_is n h, ed n h);
          low_fits = λ n h. omega (arith, s.low_fits n h, e.low-is n h);
          high_fits = λ n h. omega (arith, s.high_fits n h, e.high_is n h, fits n h);
          place = omega (arith, s.place);
          within = room;
          low-kept = ll ∙ s.low-kept;
          high-kept = lh ∙ s.high-kept;
        }

    -- the part of the columns that is lent
    abbrev part : ℕ → List ℕ
    part size = take (at + size - at) (drop at columns)

    -- word n of column j + k in it
    cell : (size k q n : ℕ) → q ≡ k * w + n → q < size → j + k < w → get_or (part size) q 0 ≡ get_or (strided w w n columns) (j + k) 0
    cell size k q n e h l =
        let a : at + q ≡ n + (j + k) * w = omega (arith, s.place) in
        get_or-take (at + size - at) (drop at columns) q 0 (omega arith) ∙ get_or-drop at columns q 0 ∙ ap (λ (t : ℕ). get_or columns t 0) a
        ∙ sym (strided-at w w n columns (j + k) l)

    part-units : (size : ℕ) → are_units (part size) ≡ true
    part-units size = below-take prime (at + size - at) (drop at columns) (below-drop prime at columns p.units)

    length-row : (n : ℕ) → length (strided w w n columns) ≡ w
    length-row n = strided-length w w n columns

    turn : (n k l : ℕ) → l ≡ k + 1 → k < w
        → dot (drop k (strided w w n columns)) (drop k x) ≡ get_or (strided w w n columns) k 0 * get_or x k 0 + dot (drop l (strided w w n columns)) (drop l x)
    turn n k l e h = dot-turn (strided w w n columns) x k l e (omega (arith, length-row n)) (omega arith)

    pub columns-room : (k : ℕ) → j + k ≤ w → at + k * w ≤ length columns
    columns-room k h =
        omega (arith, mul-le-mul {n₁ = j + k} {m₁ = w} {n₂ = w} {m₂ = w} h (omega arith), s.place, p.room)

    pub sums-asked : SumsAsked w low high
    sums-asked =
        record {
          low-room = omega (arith, s.low-kept, p.wide);
          high-room = omega (arith, s.high-kept, p.wide);
          low-most = λ i h. omega (arith, s.low_fits i h, s.within, p.wide);
          high-most = λ i h. omega (arith, s.high_fits i h, s.within, p.wide);
        }

    -- four of them
    pub four-asked : j + 4 ≤ w → FourAsked (part (4 * w)) w (get_or x j 0) (get_or x (j + 1) 0) (get_or x (j + 2) 0) (get_or x (j + 3) 0) w
    four-asked h =
        record {
          units = part-units (4 * w);
          first = units-at x p.state-units j;
          second = units-at x p.state-units (j + 1);
          third = units-at x p.state-units (j + 2);
          fourth = units-at x p.state-units (j + 3);
          room = simp (length-take, length-drop) (omega (arith, columns-room 4 h));
        }

    pub four-turn : j + 4 ≤ w → {low' high' : List ℕ} → length low' ≡ length low → length high' ≡ length high
        → SumsAdded (four (part (4 * w)) w (get_or x j 0) (get_or x (j + 1) 0) (get_or x (j + 2) 0) (get_or x (j + 3) 0)) w low high low' high'
        → Summing columns x w low' high' (j + 4) (at + 4 * w)
    unfolding four
    four-turn h ll lh e = step _ _ 4 (at + 4 * w) _ refl (omega arith) h ll lh e dots (λ n b. four-fits (four-asked h) n)
      where
        dots : (n : ℕ) → n < w → dot (drop j (strided w w n columns)) (drop j x)
            ≡ four (part (4 * w)) w (get_or x j 0) (get_or x (j + 1) 0) (get_or x (j + 2) 0) (get_or x (j + 3) 0) n
            + dot (drop (j + 4) (strided w w n columns)) (drop (j + 4) x)
        dots n b =
            let z : j + 0 ≡ j = omega arith in
            let q₀ = rw z at (cell (4 * w) 0 n n (omega arith) (omega arith) (omega arith)) in
            let q₁ = cell (4 * w) 1 (w + n) n (omega arith) (omega arith) (omega arith) in
            let q₂ = cell (4 * w) 2 (w * 2 + n) n (omega arith) (omega arith) (omega arith) in
            let q₃ = cell (4 * w) 3 (w * 3 + n) n (omega arith) (omega arith) (omega arith) in
            rw (q₀, q₁, q₂, q₃)
            (omega (arith, turn n j (j + 1) refl (omega arith), turn n (j + 1) (j + 2) (omega arith) (omega arith), turn n (j + 2) (j + 3) (omega arith) (omega arith), turn n (j + 3) (j + 4) (omega arith) (omega arith)))

    -- one of them, as four of which three count for nothing
    pub one-asked : j < w → FourAsked (part w) 0 (get_or x j 0) 0 0 0 w
    one-asked h =
        record {
          units = part-units w;
          first = units-at x p.state-units j;
          second = lit< tt;
          third = lit< tt;
          fourth = lit< tt;
          room = simp (length-take, length-drop) (omega (arith, columns-room 1 (omega arith)));
        }

    pub one-turn : j < w → {low' high' : List ℕ} → length low' ≡ length low → length high' ≡ length high
        → SumsAdded (four (part w) 0 (get_or x j 0) 0 0 0) w low high low' high'
        → Summing columns x w low' high' (j + 1) (at + w)
    unfolding four
    one-turn h ll lh e = step _ _ 1 (at + w) _ (omega arith) (omega arith) (omega arith) ll lh e dots fits
      where
        fits : (n : ℕ) → n < w → four (part w) 0 (get_or x j 0) 0 0 0 n ≤ 1 * 4053239664633446400
        fits n b = let q = products-fit (one-asked h) n in omega arith

        dots : (n : ℕ) → n < w → dot (drop j (strided w w n columns)) (drop j x)
            ≡ four (part w) 0 (get_or x j 0) 0 0 0 n + dot (drop (j + 1) (strided w w n columns)) (drop (j + 1) x)
        dots n b =
            let z : j + 0 ≡ j = omega arith in
            let q₀ = rw z at (cell w 0 n n (omega arith) (omega arith) (omega arith)) in
            rw q₀ (omega (arith, turn n j (j + 1) refl (omega arith)))

    -- the next one starts where j columns end
    pub summing-at : Summing columns x w low high j (j * w)
    summing-at =
        record {
          sums = s.sums;
          low_fits = s.low_fits;
          high_fits = s.high_fits;
          place = refl;
          within = s.within;
          low-kept = s.low-kept;
          high-kept = s.high-kept;
        }

    pub summing-done : w ≤ j → Summed columns x w low high
    summing-done h =
        record {
          is = λ n b. omega (arith, s.sums n b, dot-end (strided w w n columns) x j (omega (arith, length-row n)));
          fits = λ n b. omega (arith, s.low_fits n b, s.high_fits n b, s.within, p.wide);
        }
