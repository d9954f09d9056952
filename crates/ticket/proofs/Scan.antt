-- Laws of the scan: a number's columns are read as that number (`justified-scanned`), and columns that are read as a number
-- are its columns (`scanned-justified`).
--
-- A column that gives m behind n is the last of m, and n is m without its last digit (`column-of`); and the last column of m
-- gives m behind that (`of-column`). So what is read grows with each byte as the form does, a column on the right at a time
-- (`right-behind`, `behind-right`). Assumes nothing.
use Prim.Native.Nat.{ℕ, zero, suc, ◌+◌, ◌-◌, ◌*◌, ◌/◌, ◌^◌, ◌≤◌, ◌<◌}
use mathlib.Core.Path.{◌≡◌, refl, sym, ap, ap₂, ◌∙◌}
use mathlib.Core.Bool.{Bool, true, false, ◌&&◌}
use mathlib.Core.List.{List, [], ◌∷◌, ◌++◌, append-nil}
use native.Mathlib.Nat.{pow-zero, pow-suc, pow-le-pow_right, lt_of_lt_of_le, add-zero, zero-add}
use native.Mathlib.Numerals.{add-one}
use native.Mathlib.Omega.{arith}
use borrow.Author.Tests.{le-leb, lt-leb, leb-true, eq-eqb, ne_eqb, eqb-true, eqb-false}
use lib.Dec.{eqb, leb}
use lib.ListN.{length, drop, get_or, drop_of_length-le}
use lib.Seq.{append_snoc, drop-cons}
use Rattle.limits.specs.Questions.{pick}
use Rattle.limits.proofs.Below.{both_true}
use Rattle.std.specs.Prelude.{Option, Some, None}
use Rattle.ticket.specs.Form.{blank, last_digit, last_or_blank, right_or_blank, justified}
use Rattle.ticket.specs.Scan.{with_digit, with_column, onward, behind, scanned}
use Rattle.ticket.proofs.Form.{powers-above}

-- ---- a digit
pub digit_low : (n b : ℕ) → b < 48 → with_digit n b ≡ None
unfolding with_digit
digit_low n b h = simp (lt-leb 48 b h)

pub digit-high : (n b : ℕ) → 48 ≤ b → 57 < b → with_digit n b ≡ None
unfolding with_digit
digit-high n b h k = simp (le-leb 48 b h, lt-leb b 57 k)

pub digit-within : (n b : ℕ) → 48 ≤ b → b ≤ 57 → with_digit n b ≡ Some (n * 10 + (b - 48))
unfolding with_digit
digit-within n b h k = simp (le-leb 48 b h, le-leb b 57 k)

pub bad-not-number : (n : ℕ) → ◌≡◌ {A = Option ℕ} None (Some n) → ⊥
bad-not-number n e = absurd (let z : ◌≡◌ {A = ℕ} 0 1 = cc in omega arith)

-- the byte b is a digit, and makes n into m
record Digit (n b m : ℕ) : Type 0 where
  low : 48 ≤ b
  high : b ≤ 57
  number : m ≡ n * 10 + (b - 48)

digit-of : (n b m : ℕ) → with_digit n b ≡ Some m → Digit n b m
unfolding with_digit
digit-of n b m e = go (leb 48 b && leb b 57) refl e
  where
    go : (t : Bool) → leb 48 b && leb b 57 ≡ t → pick t (Some (n * 10 + (b - 48))) None ≡ Some m → Digit n b m
    go true z e =
        let h = both_true (leb 48 b) (leb b 57) z in
        record { low = leb-true 48 b h.0; high = leb-true b 57 h.1; number = cc }
    go false z e = absurd (bad-not-number m e)

of-digit : (m : ℕ) → with_digit (m / 10) (last_digit m) ≡ Some m
of-digit m = digit-within (m / 10) (last_digit m) (omega arith) (omega arith) ∙ ap (λ (n : ℕ). Some n) (omega arith)

-- ---- a column that is not the last
pub column-blank : (n b : ℕ) → n ≡ 0 → b ≡ blank → with_column n b ≡ Some 0
unfolding with_column
column-blank n b h k = simp (eq-eqb n 0 h, eq-eqb b blank k)

pub column-zero : (n b : ℕ) → n ≡ 0 → b ≡ 48 → with_column n b ≡ None
unfolding with_column
column-zero n b h k = simp (eq-eqb n 0 h, eq-eqb b 48 k, ne_eqb b blank (λ z. omega arith))

-- behind a number, or neither a blank nor a 0
pub column-later : (n b : ℕ) → (n ≡ 0 → b ≡ blank → ⊥) → (n ≡ 0 → b ≡ 48 → ⊥) → with_column n b ≡ with_digit n b
unfolding with_column
column-later n b h k = go (eqb n 0) refl
  where
    go : (t : Bool) → eqb n 0 ≡ t → pick (t && eqb b blank) (Some 0) (pick (t && eqb b 48) None (with_digit n b)) ≡ with_digit n b
    go true z = let e = eqb-true n 0 z in simp (ne_eqb b blank (h e), ne_eqb b 48 (k e))
    go false z = refl

digit-column : (n b m : ℕ) → Digit n b m → (m ≡ 0 → ⊥) → (n ≡ m / 10) × (b ≡ last_or_blank m)
digit-column n b m d h = (omega (arith, d), rw (ne_eqb m 0 h) (omega (arith, d)))

column-of : (n b m : ℕ) → with_column n b ≡ Some m → (n ≡ m / 10) × (b ≡ last_or_blank m)
unfolding with_column
column-of n b m e = go (eqb n 0) (eqb b blank) (eqb b 48) refl refl refl e
  where
    go : (s t u : Bool) → eqb n 0 ≡ s → eqb b blank ≡ t → eqb b 48 ≡ u
        → pick (s && t) (Some 0) (pick (s && u) None (with_digit n b)) ≡ Some m
        → (n ≡ m / 10) × (b ≡ last_or_blank m)
    go true true u x y z e =
        let zero_is : m ≡ 0 = cc in
        (rw zero_is (eqb-true n 0 x), rw zero_is (eqb-true b blank y))
    go true false true x y z e = absurd (bad-not-number m e)
    go true false false x y z e =
        let d = digit-of n b m e in
        digit-column n b m d (λ w. eqb-false b 48 z (omega (arith, d, w)))
    go false t u x y z e =
        let d = digit-of n b m e in
        digit-column n b m d (λ w. eqb-false n 0 x (omega (arith, d, w)))

of-column : (m : ℕ) → with_column (m / 10) (last_or_blank m) ≡ Some m
of-column m = go (eqb m 0) refl
  where
    go : (t : Bool) → eqb m 0 ≡ t → with_column (m / 10) (pick t blank (last_digit m)) ≡ Some m
    go true z =
        let e = eqb-true m 0 z in
        column-blank (m / 10) blank (omega (arith, e)) refl ∙ ap (λ (n : ℕ). Some n) (sym e)
    go false z =
        let h = eqb-false m 0 z in
        column-later (m / 10) (last_digit m) (λ x y. omega arith) (λ x y. h (omega arith)) ∙ of-digit m

-- ---- all columns but the last
behind-snoc : (n b : ℕ) (s : List ℕ) → behind n (s ++ (b ∷ [])) ≡ onward (behind n s) (λ m. with_column m b)
behind-snoc n b [] = go (with_column n b)
  where
    go : (c : Option ℕ) → onward c (λ m. Some m) ≡ c
    go (Some m) = refl
    go None = refl
behind-snoc n b (a ∷ s) = go (λ m. behind-snoc m b s) (with_column n a)
  where
    go : ((m : ℕ) → behind m (s ++ (b ∷ [])) ≡ onward (behind m s) (λ m. with_column m b)) → (c : Option ℕ)
        → onward c (λ m. behind m (s ++ (b ∷ []))) ≡ onward (onward c (λ m. behind m s)) (λ m. with_column m b)
    go later (Some m) = later m
    go later None = refl

-- a number's columns are read as that number
right-behind : (k n : ℕ) → n < 10 ^ k → behind 0 (right_or_blank k n) ≡ Some n
right-behind zero n h = ap (λ (m : ℕ). Some m) (omega (arith, rw (pow-zero 10) at h))
right-behind (suc k) n h =
    let e : behind 0 (right_or_blank k (n / 10)) ≡ Some (n / 10) = right-behind k (n / 10) (omega (arith, rw (pow-suc 10 k) at h)) in
    behind-snoc 0 (last_or_blank n) (right_or_blank k (n / 10)) ∙ rw e (of-column n)

pub column_fits : (k m b n : ℕ) → m < 10 ^ k → with_column m b ≡ Some n → n < 10 ^ suc k
column_fits k m b n h e = rw (pow-suc 10 k) (omega (arith, h, (column-of m b n e).0))

-- the bytes, behind the k columns of m, are the last columns of n
record Behind (k m : ℕ) (bytes : List ℕ) (n : ℕ) : Type 0 where
  fits : n < 10 ^ (k + length bytes)
  columns : right_or_blank k m ++ bytes ≡ right_or_blank (k + length bytes) n

-- bytes that are read as a number are its columns
behind-right : (k m : ℕ) (bytes : List ℕ) (n : ℕ) → m < 10 ^ k → behind m bytes ≡ Some n → Behind k m bytes n
behind-right k m [] n h e =
    let same : m ≡ n = cc in
    record { fits = rw (add-zero k) (rw same at h); columns = rw (add-zero k) (append-nil (right_or_blank k m) ∙ ap (right_or_blank k) same) }
behind-right k m (b ∷ bytes) n h e = go (λ i l z. behind-right (suc k) i bytes n l z) (with_column m b) refl e
  where
    go : ((i : ℕ) → i < 10 ^ suc k → behind i bytes ≡ Some n → Behind (suc k) i bytes n)
        → (c : Option ℕ) → with_column m b ≡ c → onward c (λ i. behind i bytes) ≡ Some n → Behind k m (b ∷ bytes) n
    go later (Some i) z e =
        let l = later i (column_fits k m b i h z) e in
        let place : k + suc (length bytes) ≡ suc k + length bytes = omega arith in
        let here = column-of m b i z in
        record {
          fits = rw place l.fits;
          columns = sym (append_snoc (right_or_blank k m) b bytes) ∙ rw (here.0, here.1, place) l.columns;
        }
    go later None z e = absurd (bad-not-number n e)

-- ---- all columns
pub justified-scanned : (k n : ℕ) → n < 10 ^ suc k → scanned (right_or_blank k (n / 10)) (last_digit n) ≡ Some n
unfolding scanned
justified-scanned k n h = rw (right-behind k (n / 10) (omega (arith, rw (pow-suc 10 k) at h))) (of-digit n)

-- the bytes and the last one are the columns of n
pub record Scanned (bytes : List ℕ) (last n : ℕ) : Type 0 where
  pub fits : n < 10 ^ suc (length bytes)
  pub columns : bytes ++ (last ∷ []) ≡ justified (suc (length bytes)) n

pub scanned-justified : (bytes : List ℕ) (last n : ℕ) → scanned bytes last ≡ Some n → Scanned bytes last n
unfolding scanned
scanned-justified bytes last n e = go (behind 0 bytes) refl e
  where
    go : (c : Option ℕ) → behind 0 bytes ≡ c → onward c (λ m. with_digit m last) ≡ Some n → Scanned bytes last n
    go (Some m) z e =
        let b = behind-right 0 0 bytes m (powers-above 0) z in
        let d = digit-of m last n e in
        let front : m ≡ n / 10 = omega (arith, d) in
        let rest : bytes ≡ right_or_blank (length bytes) (n / 10) =
        rw (zero-add (length bytes)) at b.columns ∙ ap (right_or_blank (length bytes)) front in
        record {
          fits = rw (pow-suc 10 (length bytes)) (omega (arith, d, rw (zero-add (length bytes)) at b.fits));
          columns = ap₂ (λ (s : List ℕ) (x : ℕ). s ++ (x ∷ [])) rest (omega (arith, d));
        }
    go None z e = absurd (bad-not-number n e)

-- ---- the loop: the columns that are left come to what all come to
pub fits_more : (i k n : ℕ) → i ≤ k → n < 10 ^ i → n < 10 ^ k
fits_more i k n l h = lt_of_lt_of_le h (pow-le-pow_right (omega arith) l)

module _ (s : List ℕ) (i n : ℕ) (e : behind n (drop i s) ≡ behind 0 s) where
  -- the next of them
  next : i < length s → onward (with_column n (get_or s i 0)) (λ m. behind m (drop (i + 1) s)) ≡ behind 0 s
  next h = rw (add-one i) (ap (behind n) (sym (drop-cons s i 0 h)) ∙ e)

  pub read-on : (m : ℕ) → i < length s → with_column n (get_or s i 0) ≡ Some m → behind m (drop (i + 1) s) ≡ behind 0 s
  read-on m h z = rw z at (next h)

  pub read-bad : (last : ℕ) → i < length s → with_column n (get_or s i 0) ≡ None → None ≡ scanned s last
  unfolding scanned
  read-bad last h z = ap (λ (c : Option ℕ). onward c (λ m. with_digit m last)) (rw z at (next h))

  pub read_all : (last : ℕ) → length s ≤ i → with_digit n last ≡ scanned s last
  unfolding scanned
  read_all last h = ap (λ (c : Option ℕ). onward c (λ m. with_digit m last)) (rw (drop_of_length-le s h) at e)
