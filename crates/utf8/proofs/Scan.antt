-- The scan as a whole: where the bytes before a place fit, what is asked there is told by the three before it, and what is
-- left comes to what the whole comes to (`stands`), up to the first byte that doesn't fit or the end (`stops`, `ends`).
-- Bytes below 80 fit wherever no byte is due (`ascii-fit`). Assumes nothing.
use Prim.Native.Nat.{ℕ, zero, suc, ◌+◌, ◌-◌, ◌≤◌, ◌<◌}
use mathlib.Core.Path.{◌≡◌, refl, sym, ap, subst, ◌∙◌}
use mathlib.Core.Bool.{Bool, true, false, ◌&&◌, and-eq-true_iff}
use mathlib.Core.Logic.{◌↔◌, ◌⊎◌, inl, inr}
use mathlib.Core.List.{List, [], ◌∷◌}
use native.Mathlib.Omega.{arith}
use native.Mathlib.Numerals.{add-one}
use borrow.Author.Tests.{lt-ltb, le-ltb, ltb-true, eq-eqb, ne_eqb}
use lib.Dec.{eqb, ltb}
use lib.ListN.{length, drop, get_or, drop_of_length-le}
use lib.Seq.{drop-cons}
use Rattle.std.specs.List.{fold}
use Rattle.utf8.specs.Utf8.{Range, After, asks, on_row, follow, Utf8, is_utf8}
use Rattle.utf8.specs.Place.{FirstBad, after_byte, one_more, good_bytes, first_bad, scan_utf8}
use Rattle.utf8.specs.Scan.{fits, byte_before, whole_at, fits_at, Each, Fit, Ascii}
use Rattle.utf8.specs.declared.Utf8Scan.{Utf8Scan}
use Rattle.utf8.proofs.Laws.{is_utf8-says}
use Rattle.utf8.proofs.Place.{follow-step, first_bad-iff}
use Rattle.utf8.proofs.Window.{side, asked, b-below, c-below, fits-yes, fits_not}

-- ---- bytes one after the other
module _ (P : ℕ → Type 0) (i j : ℕ) where
  pub each-join : (l : ℕ) → Each P i j → Each P j l → Each P i l
  each-join l f g k p q = go (side k j)
    where
      go : (k < j) ⊎ (j ≤ k) → P k
      go (inl h) = f k p h
      go (inr h) = g k h q

  each-one : (l : ℕ) → l ≡ j + 1 → P j → Each P j l
  each-one l e one k p q = let z : j ≡ k = omega arith in subst P z one

  pub each_more : (l : ℕ) → l ≡ j + 1 → Each P i j → P j → Each P i l
  each_more l e f one = each-join l f (each-one l e one)

  -- as far as a loop asked that keeps whether all said yes
  pub each-so-far : (l : ℕ) → l ≡ j + 1 → (all now : Bool) → (all ≡ true → Each P i j) → (now ≡ true → P j) → all && now ≡ true → Each P i l
  each-so-far l e all now f one both =
      let t = (and-eq-true_iff all now).0 both in
      each_more l e (f t.0) (one t.1)

-- as a fold asked whether each is below 80
pub ascii-folded : (s : List ℕ) (all : Bool) → fold (λ (t : Bool) (b : ℕ). t && ltb b 0x80) all s ≡ true → (all ≡ true) × Ascii s 0 (length s)
ascii-folded [] all e = (e, λ k p q. absurd (omega arith))
ascii-folded (b ∷ s) all e =
    let later = ascii-folded s (all && ltb b 0x80) e in
    let t = (and-eq-true_iff all (ltb b 0x80)).0 later.0 in
    (t.0, go (ltb-true b 0x80 t.1) later.1)
  where
    go : b < 0x80 → Ascii s 0 (length s) → Ascii (b ∷ s) 0 (length (b ∷ s))
    go h f zero p q = h
    go h f (suc k) p q = f k (omega arith) (omega arith)

module _ (s : List ℕ) where
  -- ---- the bytes before a place, one place on
  pub before-next : (i k : ℕ) → byte_before s (i + 1) (k + 1) ≡ byte_before s i k
  before-next i k = go (side i k)
    where
      go : (i < k) ⊎ (k ≤ i) → byte_before s (i + 1) (k + 1) ≡ byte_before s i k
      go (inl h) = simp (lt-ltb i k h, lt-ltb (i + 1) (k + 1) (omega arith))
      go (inr h) =
          let e : (i + 1) - (k + 1) ≡ i - k = omega arith in
          simp (le-ltb i k h, le-ltb (i + 1) (k + 1) (omega arith), e)

  pub before-one : (i : ℕ) → byte_before s (i + 1) 1 ≡ get_or s i 0
  before-one i =
      let e : (i + 1) - 1 ≡ i = omega arith in
      simp (le-ltb (i + 1) 1 (omega arith), e)

  -- where three are there
  pub fits_at-deep : (i : ℕ) → 3 ≤ i → fits (get_or s (i - 3) 0) (get_or s (i - 2) 0) (get_or s (i - 1) 0) (get_or s i 0) ≡ fits_at s i
  fits_at-deep i h = simp (le-ltb i 3 h, le-ltb i 2 (omega arith), le-ltb i 1 (omega arith))

  -- ---- where all before a place fit
  abbrev asked_at : ℕ → List Range
  asked_at i = asked (byte_before s i 3) (byte_before s i 2) (byte_before s i 1)

  pub record Stands (i : ℕ) : Type 0 where
    pub lead : 0xC2 ≤ byte_before s i 1 → byte_before s i 2 < 0xF0
    pub follows : follow (asked_at i) (drop i s) ≡ is_utf8 s
    pub counts : i + good_bytes (asked_at i) (drop i s) ≡ first_bad s

  at_byte : (i : ℕ) → i < length s → drop i s ≡ get_or s i 0 ∷ drop (i + 1) s
  at_byte i h = rw (add-one) (drop-cons s i 0 h)

  same_asked : (i : ℕ) → asked_at (i + 1) ≡ asked (byte_before s i 2) (byte_before s i 1) (get_or s i 0)
  same_asked i = rw (before-next i 2, before-next i 1, before-one i) refl

  module _ (i : ℕ) (h : i < length s) (t : Stands i) where
    -- one byte more
    follows_on : on_row (after_byte (asked_at i) (get_or s i 0)) (λ qs. follow qs (drop (i + 1) s)) ≡ is_utf8 s
    follows_on =
        sym (ap (λ (r : List ℕ). follow (asked_at i) r) (at_byte i h) ∙ follow-step (asked_at i) (get_or s i 0) (drop (i + 1) s))
        ∙ t.follows

    counts-on : i + one_more (after_byte (asked_at i) (get_or s i 0)) (λ qs. good_bytes qs (drop (i + 1) s)) ≡ first_bad s
    unfolding good_bytes
    counts-on = sym (ap (λ (r : List ℕ). i + good_bytes (asked_at i) r) (at_byte i h)) ∙ t.counts

    -- it fits
    goes_by : fits_at s i ≡ true → Stands (i + 1)
    goes_by e =
        let m = fits-yes (byte_before s i 3) (byte_before s i 2) (byte_before s i 1) (get_or s i 0) t.lead e in
        let a : after_byte (asked_at i) (get_or s i 0) ≡ asks (asked_at (i + 1)) = m.asks-then ∙ sym (ap asks (same_asked i)) in
        record {
          lead = rw (before-one i, before-next i 1) m.lead-then;
          follows = sym (ap (λ (x : After). on_row x (λ qs. follow qs (drop (i + 1) s))) a) ∙ follows_on;
          counts =
              let c : i + one_more (asks (asked_at (i + 1))) (λ qs. good_bytes qs (drop (i + 1) s)) ≡ first_bad s
              = sym (ap (λ (x : After). i + one_more x (λ qs. good_bytes qs (drop (i + 1) s))) a) ∙ counts-on in
              omega (arith, c);
        }

    -- it doesn't fit
    pub stops : fits_at s i ≡ false → (is_utf8 s ≡ false) × (first_bad s ≡ i)
    stops e =
        let a = fits_not (byte_before s i 3) (byte_before s i 2) (byte_before s i 1) (get_or s i 0) e in (
          sym follows_on ∙ ap (λ (x : After). on_row x (λ qs. follow qs (drop (i + 1) s))) a,
          let c : first_bad s ≡ i + 0 = sym counts-on ∙ ap (λ (x : After). i + one_more x (λ qs. good_bytes qs (drop (i + 1) s))) a in
              omega (arith, c),
        )

  pub stands : (i : ℕ) → i ≤ length s → Fit s 0 i → Stands i
  unfolding is_utf8 first_bad
  stands zero h f = record { lead = λ z. omega arith; follows = refl; counts = omega arith }
  stands (suc i) h f =
      subst (λ (k : ℕ). Stands k) (add-one i)
      (goes_by i (omega arith) (stands i (omega arith) (λ k p q. f k p (omega arith))) (f i (omega arith) (omega arith)))

  -- no byte is left
  pub ends : Stands (length s) → (is_utf8 s ≡ whole_at s (length s)) × (first_bad s ≡ length s)
  unfolding follow good_bytes
  ends t =
      let all : length s ≤ length s = omega arith in
      let e = drop_of_length-le s all in (
        sym t.follows ∙ ap (λ (r : List ℕ). follow (asked_at (length s)) r) e ∙ go (whole_at s (length s)) refl,
        let c : length s + good_bytes (asked_at (length s)) [] ≡ first_bad s
            = sym (ap (λ (r : List ℕ). length s + good_bytes (asked_at (length s)) r) e) ∙ t.counts in
            omega (arith, c),
      )
    where
      go : (b : Bool) → whole_at s (length s) ≡ b → follow (asked_at (length s)) [] ≡ whole_at s (length s)
      go true w = rw w refl
      go false w = rw w refl

  -- ---- bytes below 80
  module _ (i : ℕ) (w : whole_at s i ≡ true) (h : get_or s i 0 < 0x80) where
    one-fits : fits_at s i ≡ true
    one-fits = rw w (simp (lt-ltb (get_or s i 0) 0x80 h))

    one-whole : whole_at s (i + 1) ≡ true
    one-whole =
        let b = b-below (byte_before s i 3) (byte_before s i 2) (byte_before s i 1) (get_or s i 0) w in
        let c = c-below (byte_before s i 3) (byte_before s i 2) (byte_before s i 1) (get_or s i 0) w in
        rw (before-next i 2, before-next i 1, before-one i)
        (simp (lt-ltb (byte_before s i 2) 0xF0 (omega (arith, b)), lt-ltb (byte_before s i 1) 0xE0 (omega (arith, c)), lt-ltb (get_or s i 0) 0xC2 (omega arith)))

  -- no byte is due after them
  pub ascii-whole : (i j k : ℕ) → whole_at s i ≡ true → Ascii s i j → i ≤ k → k ≤ j → whole_at s k ≡ true
  ascii-whole i j zero w a p q = let e : i ≡ 0 = omega arith in subst (λ (x : ℕ). whole_at s x ≡ true) e w
  ascii-whole i j (suc k) w a p q = go (λ h. ascii-whole i j k w a h (omega arith)) (side k i)
    where
      go : (i ≤ k → whole_at s k ≡ true) → (k < i) ⊎ (i ≤ k) → whole_at s (suc k) ≡ true
      go later (inl h) = let e : i ≡ suc k = omega arith in subst (λ (x : ℕ). whole_at s x ≡ true) e w
      go later (inr h) = subst (λ (x : ℕ). whole_at s x ≡ true) (add-one k) (one-whole k (later h) (a k h (omega arith)))

  -- where none is due before them they fit
  pub ascii-fit : (i j : ℕ) → whole_at s i ≡ true → Ascii s i j → Fit s i j
  ascii-fit i j w a k p q = one-fits k (ascii-whole i j k w a p (omega arith)) (a k p q)

  -- ---- what the scan answers
  -- it stops at the first byte that doesn't fit, or at the end
  pub scan-done : (i : ℕ) → i ≤ length s → Fit s 0 i → (i < length s → fits_at s i ≡ false)
      → record { place = i; passes = eqb i (length s) && whole_at s i } ≡ scan_utf8 s
  scan-done i h f stop = go (side i (length s))
    where
      go : (i < length s) ⊎ (length s ≤ i) → record { place = i; passes = eqb i (length s) && whole_at s i } ≡ scan_utf8 s
      go (inl l) =
          let t = stops i l (stands i h f) (stop l) in
          rw (ne_eqb i (length s) (λ e. omega arith), t.0, t.1) refl
      go (inr l) =
          let e : i ≡ length s = omega arith in
          let t = ends (subst Stands e (stands i h f)) in
          rw (e, eq-eqb (length s) (length s) refl, t.0, t.1) refl

  -- all bytes are below 80
  pub scan-ascii : (i : ℕ) → i ≡ length s → Ascii s 0 i → record { place = i; passes = true } ≡ scan_utf8 s
  scan-ascii i e a =
      let h : i ≤ length s = omega arith in
      let z : 0 ≤ i = omega arith in
      let l : i ≤ i = omega arith in
      let none : i < length s → fits_at s i ≡ false = λ q. absurd (omega arith) in
      rw (eq-eqb i (length s) e, ascii-whole 0 i i refl a z l) at (scan-done i h (ascii-fit 0 i refl a) none)

-- so the place and the answer are the definition's
pub scan-told : (s : List ℕ) (r : Utf8Scan) → r ≡ scan_utf8 s → (r ≡ scan_utf8 s) × FirstBad s r.place × ((r.passes ≡ true) ↔ Utf8 s)
scan-told s r e =
    (e, (first_bad-iff s r.place).0 (ap (λ (x : Utf8Scan). x.place) e), (is_utf8-says r.passes s (ap (λ (x : Utf8Scan). x.passes) e)).1)
