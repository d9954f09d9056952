-- What is asked after a byte is told by it and the two before it (`asked`). So whether the next byte is what is asked is
-- told by it and these three: where it fits, what is asked then is told in the same way (`fits-yes`), and where it doesn't,
-- nothing can follow (`fits_not`). Assumes nothing.
use Prim.Native.Nat.{ℕ, ◌≤◌, ◌<◌}
use mathlib.Core.Path.{◌≡◌, refl, sym, ap, ◌∙◌}
use mathlib.Core.Bool.{Bool, true, false, ◌&&◌, ◌||◌, and-false, or-true, and-eq-true_iff, true≢false, false≢true}
use mathlib.Core.Logic.{◌⊎◌, inl, inr}
use mathlib.Core.List.{List, [], ◌∷◌, Memᴰ}
use native.Mathlib.Omega.{arith}
use borrow.Author.Tests.{lt-ltb, le-ltb, ltb-true, ltb-false, le-leb, lt-leb, leb-true, ne_eqb}
use lib.Dec.{eqb, ltb, leb}
use lib.ListN.{replicate}
use Rattle.limits.specs.Questions.{pick}
use Rattle.utf8.specs.Utf8.{Range, ◌to◌, tail_range, rows, holds, asks, no_row, first_row}
use Rattle.utf8.specs.Place.{after_byte}
use Rattle.utf8.specs.Scan.{whole, tail_low, tail_high, fits}
use Rattle.utf8.proofs.Laws.{row-first_row}

-- how many bytes are due behind the next one, after b and c
abbrev left : ℕ → ℕ → ℕ
left b c = pick (ltb c 0xC2) (pick (ltb b 0xF0) 0 1) (pick (ltb c 0xE0) 0 (pick (ltb c 0xF0) 1 2))

-- what is due after b and c, where a byte is
abbrev due : ℕ → ℕ → List Range
due b c = tail_low c to tail_high c ∷ replicate (left b c) tail_range

-- what is asked after a, b and c
abbrev pub asked : ℕ → ℕ → ℕ → List Range
asked a b c = pick (whole a b c) [] (due b c)

-- either way round
pub side : (a b : ℕ) → (a < b) ⊎ (b ≤ a)
side a b = go (ltb a b) refl
  where
    go : (t : Bool) → ltb a b ≡ t → (a < b) ⊎ (b ≤ a)
    go true e = inl (ltb-true a b e)
    go false e = inr (ltb-false a b e)

-- ---- the row of a first byte
module _ (b d : ℕ) where
  -- a row that narrows no second byte
  plain : (lo hi n : ℕ) → Memᴰ (lo to hi ∷ tail_range ∷ replicate n tail_range) rows → lo ≤ d → d ≤ hi
      → (d ≡ 0xE0 → ⊥) → (d ≡ 0xED → ⊥) → (d ≡ 0xF0 → ⊥) → (d ≡ 0xF4 → ⊥) → left b d ≡ n → first_row rows d ≡ asks (due b d)
  plain lo hi n among p q e0 ed f0 f4 size =
      row-first_row d (lo to hi) (tail_range ∷ replicate n tail_range) among (record { above = p; below = q })
      ∙ simp (ne_eqb d 0xE0 e0, ne_eqb d 0xED ed, ne_eqb d 0xF0 f0, ne_eqb d 0xF4 f4, size)

  begins-row : 0xC2 ≤ d → d ≤ 0xF4 → first_row rows d ≡ asks (due b d)
  unfolding rows
  begins-row p q = go (side d 0xE0) (side d 0xE1) (side d 0xED) (side d 0xEE) (side d 0xF0) (side d 0xF1) (side d 0xF4)
    where
      later : {r : List Range} {rs : List (List Range)} {x : List Range} → Memᴰ r rs → Memᴰ r (x ∷ rs)
      later m = Memᴰ.tail m

      go : (d < 0xE0) ⊎ (0xE0 ≤ d) → (d < 0xE1) ⊎ (0xE1 ≤ d) → (d < 0xED) ⊎ (0xED ≤ d) → (d < 0xEE) ⊎ (0xEE ≤ d)
          → (d < 0xF0) ⊎ (0xF0 ≤ d) → (d < 0xF1) ⊎ (0xF1 ≤ d) → (d < 0xF4) ⊎ (0xF4 ≤ d) → first_row rows d ≡ asks (due b d)
      go (inl a1) a2 a3 a4 a5 a6 a7 =
          plain 0xC2 0xDF 0 (later (Memᴰ.head refl)) p (omega arith)
          (λ e. omega arith) (λ e. omega arith) (λ e. omega arith) (λ e. omega arith)
          (simp (le-ltb d 0xC2 p, lt-ltb d 0xE0 a1))
      go (inr a1) (inl a2) a3 a4 a5 a6 a7 = let e : d ≡ 0xE0 = omega arith in rw e refl
      go (inr a1) (inr a2) (inl a3) a4 a5 a6 a7 =
          plain 0xE1 0xEC 1 (later (later (later (Memᴰ.head refl)))) a2 (omega arith)
          (λ e. omega arith) (λ e. omega arith) (λ e. omega arith) (λ e. omega arith)
          (simp (le-ltb d 0xC2 p, le-ltb d 0xE0 a1, lt-ltb d 0xF0 (omega arith)))
      go (inr a1) (inr a2) (inr a3) (inl a4) a5 a6 a7 = let e : d ≡ 0xED = omega arith in rw e refl
      go (inr a1) (inr a2) (inr a3) (inr a4) (inl a5) a6 a7 =
          plain 0xEE 0xEF 1 (later (later (later (later (later (Memᴰ.head refl)))))) a4 (omega arith)
          (λ e. omega arith) (λ e. omega arith) (λ e. omega arith) (λ e. omega arith)
          (simp (le-ltb d 0xC2 p, le-ltb d 0xE0 a1, lt-ltb d 0xF0 a5))
      go (inr a1) (inr a2) (inr a3) (inr a4) (inr a5) (inl a6) a7 = let e : d ≡ 0xF0 = omega arith in rw e refl
      go (inr a1) (inr a2) (inr a3) (inr a4) (inr a5) (inr a6) (inl a7) =
          plain 0xF1 0xF3 2 (later (later (later (later (later (later (later (Memᴰ.head refl)))))))) a6 (omega arith)
          (λ e. omega arith) (λ e. omega arith) (λ e. omega arith) (λ e. omega arith)
          (simp (le-ltb d 0xC2 p, le-ltb d 0xE0 a1, le-ltb d 0xF0 a5))
      go (inr a1) (inr a2) (inr a3) (inr a4) (inr a5) (inr a6) (inr a7) = let e : d ≡ 0xF4 = omega arith in rw e refl

-- below 80 a character is whole
begins-one : (d : ℕ) → d < 0x80 → first_row rows d ≡ asks []
unfolding rows
begins-one d h = row-first_row d (0x00 to 0x7F) [] (Memᴰ.head refl) (record { above = omega arith; below = omega arith })

-- else no row has the byte
begins-none : (d : ℕ) → 0x80 ≤ d → (d < 0xC2) ⊎ (0xF4 < d) → first_row rows d ≡ no_row
unfolding rows
begins-none d h (inl k) =
    simp (
      lt-leb d 0x7F (omega arith),
      lt-leb 0xC2 d k,
      lt-leb 0xE0 d (omega arith),
      lt-leb 0xE1 d (omega arith),
      lt-leb 0xED d (omega arith),
      lt-leb 0xEE d (omega arith),
      lt-leb 0xF0 d (omega arith),
      lt-leb 0xF1 d (omega arith),
      lt-leb 0xF4 d (omega arith),
      and-false,
    )
begins-none d h (inr k) =
    simp (
      lt-leb d 0x7F (omega arith),
      lt-leb d 0xDF (omega arith),
      lt-leb d 0xE0 (omega arith),
      lt-leb d 0xEC (omega arith),
      lt-leb d 0xED (omega arith),
      lt-leb d 0xEF (omega arith),
      lt-leb d 0xF0 (omega arith),
      lt-leb d 0xF3 (omega arith),
      lt-leb d 0xF4 k,
      and-false,
    )

-- ---- a byte that is due
high-tail : (c : ℕ) → tail_high c ≤ 0xBF
high-tail c = go (eqb c 0xED) (eqb c 0xF4)
  where
    go : (x y : Bool) → pick x 0x9F (pick y 0x8F 0xBF) ≤ 0xBF
    go true y = omega arith
    go false true = omega arith
    go false false = omega arith

-- it takes one from what is due
asked-less : (b c d : ℕ) → (0xC2 ≤ c → b < 0xF0) → d < 0xC2 → asked b c d ≡ replicate (left b c) tail_range
asked-less b c d lead h = go (side c 0xC2) (side b 0xF0) (side c 0xE0) (side c 0xF0)
  where
    plain-low : tail_low d ≡ 0x80
    plain-low = simp (ne_eqb d 0xE0 (λ e. omega arith), ne_eqb d 0xF0 (λ e. omega arith))

    plain-high : tail_high d ≡ 0xBF
    plain-high = simp (ne_eqb d 0xED (λ e. omega arith), ne_eqb d 0xF4 (λ e. omega arith))

    go : (c < 0xC2) ⊎ (0xC2 ≤ c) → (b < 0xF0) ⊎ (0xF0 ≤ b) → (c < 0xE0) ⊎ (0xE0 ≤ c) → (c < 0xF0) ⊎ (0xF0 ≤ c)
        → asked b c d ≡ replicate (left b c) tail_range
    go (inl x) (inl y) z u = simp (lt-ltb d 0xC2 h, lt-ltb c 0xC2 x, lt-ltb b 0xF0 y, lt-ltb c 0xE0 (omega arith))
    go (inl x) (inr y) z u =
        simp (lt-ltb d 0xC2 h, lt-ltb c 0xC2 x, le-ltb b 0xF0 y, lt-ltb c 0xF0 (omega arith), plain-low, plain-high)
    go (inr x) y (inl z) u = simp (lt-ltb d 0xC2 h, le-ltb c 0xC2 x, lt-ltb b 0xF0 (lead x), lt-ltb c 0xE0 z)
    go (inr x) y (inr z) (inl u) =
        simp (lt-ltb d 0xC2 h, le-ltb c 0xC2 x, le-ltb c 0xE0 z, lt-ltb c 0xF0 u, and-false, plain-low, plain-high)
    go (inr x) y (inr z) (inr u) =
        simp (lt-ltb d 0xC2 h, le-ltb c 0xC2 x, le-ltb c 0xE0 z, le-ltb c 0xF0 u, and-false, plain-low, plain-high)

-- ---- one byte more
-- where it fits, it and the two before it tell what is asked then; and before a first byte stands none of a fourth row
pub record Passed (a b c d : ℕ) : Type 0 where
  pub asks-then : after_byte (asked a b c) d ≡ asks (asked b c d)
  pub lead-then : 0xC2 ≤ d → c < 0xF0

-- no byte is due
module _ (a b c d : ℕ) (w : whole a b c ≡ true) where
  parts : (ltb a 0xF0 && ltb b 0xE0 ≡ true) × (ltb c 0xC2 ≡ true)
  parts = (and-eq-true_iff (ltb a 0xF0 && ltb b 0xE0) (ltb c 0xC2)).0 w

  pub b-below : b < 0xE0
  b-below = ltb-true b 0xE0 ((and-eq-true_iff (ltb a 0xF0) (ltb b 0xE0)).0 parts.0).1

  pub c-below : c < 0xC2
  c-below = ltb-true c 0xC2 parts.1

  none-due : after_byte (asked a b c) d ≡ first_row rows d
  none-due = rw w refl

  begins : fits a b c d ≡ (ltb d 0x80 || (leb 0xC2 d && leb d 0xF4))
  begins = rw w refl

  begins-ascii : d < 0x80 → Passed a b c d
  begins-ascii x =
      record {
        asks-then =
            none-due ∙ begins-one d x
            ∙ sym (ap asks (asked-less b c d (λ z. omega (arith, b-below)) (omega arith)
            ∙ simp (lt-ltb c 0xC2 c-below, lt-ltb b 0xF0 (omega (arith, b-below)))));
        lead-then = λ z. omega arith;
      }

  begins-more : 0xC2 ≤ d → d ≤ 0xF4 → Passed a b c d
  begins-more x y =
      record {
        asks-then = none-due ∙ begins-row c d x y ∙ sym (ap asks (simp (le-ltb d 0xC2 x, and-false)));
        lead-then = λ z. omega (arith, c-below);
      }

  begins-yes : fits a b c d ≡ true → Passed a b c d
  begins-yes e = go (side d 0x80) (side d 0xC2) (side 0xF4 d)
    where
      go : (d < 0x80) ⊎ (0x80 ≤ d) → (d < 0xC2) ⊎ (0xC2 ≤ d) → (0xF4 < d) ⊎ (d ≤ 0xF4) → Passed a b c d
      go (inl x) y z = begins-ascii x
      go (inr x) (inr y) (inr z) = begins-more y z
      go (inr x) (inl y) z = absurd (true≢false (sym e ∙ begins ∙ simp (le-ltb d 0x80 x, lt-leb 0xC2 d y)))
      go (inr x) (inr y) (inl z) = absurd (true≢false (sym e ∙ begins ∙ simp (le-ltb d 0x80 x, lt-leb d 0xF4 z, and-false)))

  begins-not : fits a b c d ≡ false → after_byte (asked a b c) d ≡ no_row
  begins-not e = none-due ∙ go (side d 0x80) (side d 0xC2) (side 0xF4 d)
    where
      go : (d < 0x80) ⊎ (0x80 ≤ d) → (d < 0xC2) ⊎ (0xC2 ≤ d) → (0xF4 < d) ⊎ (d ≤ 0xF4) → first_row rows d ≡ no_row
      go (inl x) y z = absurd (false≢true (sym e ∙ begins ∙ simp (lt-ltb d 0x80 x)))
      go (inr x) (inr y) (inr z) = absurd (false≢true (sym e ∙ begins ∙ simp (le-leb 0xC2 d y, le-leb d 0xF4 z, or-true)))
      go (inr x) (inl y) z = begins-none d x (inl y)
      go (inr x) (inr y) (inl z) = begins-none d x (inr z)

-- a byte is due
module _ (a b c d : ℕ) (w : whole a b c ≡ false) where
  one-due : after_byte (asked a b c) d ≡ pick (fits a b c d) (asks (replicate (left b c) tail_range)) no_row
  one-due = rw w refl

  goes_on : fits a b c d ≡ holds (tail_low c to tail_high c) d
  goes_on = rw w refl

  due-yes : (0xC2 ≤ c → b < 0xF0) → fits a b c d ≡ true → Passed a b c d
  due-yes lead e =
      let h : d ≤ tail_high c = leb-true d (tail_high c) ((and-eq-true_iff (leb (tail_low c) d) (leb d (tail_high c))).0 (sym goes_on ∙ e)).1 in
      let k : d < 0xC2 = omega (arith, h, high-tail c) in
      record {
        asks-then = one-due ∙ rw e (ap asks (sym (asked-less b c d lead k)));
        lead-then = λ z. omega arith;
      }

  due-not : fits a b c d ≡ false → after_byte (asked a b c) d ≡ no_row
  due-not e = one-due ∙ rw e refl

pub fits-yes : (a b c d : ℕ) → (0xC2 ≤ c → b < 0xF0) → fits a b c d ≡ true → Passed a b c d
fits-yes a b c d lead e = go (whole a b c) refl
  where
    go : (t : Bool) → whole a b c ≡ t → Passed a b c d
    go true w = begins-yes a b c d w e
    go false w = due-yes a b c d w lead e

pub fits_not : (a b c d : ℕ) → fits a b c d ≡ false → after_byte (asked a b c) d ≡ no_row
fits_not a b c d e = go (whole a b c) refl
  where
    go : (t : Bool) → whole a b c ≡ t → after_byte (asked a b c) d ≡ no_row
    go true w = begins-not a b c d w e
    go false w = due-not a b c d w e
