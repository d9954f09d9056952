-- `first_bad` is the place of the first bad byte, on every list of numbers: the one place that `FirstBad` has.
--
-- Both `follow` and `good_bytes` take a byte by what is asked after it (`follow-step`). Where it is not what was asked, no bytes
-- can follow (`bad-stops`). Where ranges are asked, their least bytes complete what is there (`good-completes`), since no range
-- of the rows is empty, which is computed once over the rows (`rows-filled`). Assumes nothing.
use Prim.Native.Nat.{ℕ, zero, suc, ◌+◌, ◌≤◌, ◌<◌}
use mathlib.Core.Path.{◌≡◌, refl, sym, ◌∙◌}
use mathlib.Core.Bool.{Bool, true, false, ◌&&◌, and-eq-true_iff, false≢true}
use mathlib.Core.Logic.{◌↔◌, ◌⊎◌, inl, inr}
use mathlib.Core.List.{List, [], ◌∷◌, ◌++◌, map, append-nil, append_assoc}
use native.Mathlib.Nat.{le_refl}
use native.Mathlib.Numerals.{add-one}
use native.Mathlib.Omega.{arith}
use borrow.Author.Tests.{le-leb, ltb-true, ltb-false}
use lib.Dec.{leb, ltb}
use lib.ListN.{length, take, drop, take-append-drop}
use lib.Seq.{take-length, take-take}
use Rattle.limits.specs.Questions.{pick}
use Rattle.utf8.specs.Utf8.{Range, rows, Utf8, holds, After, asks, no_row, first_row, on_row, follow, is_utf8}
use Rattle.utf8.specs.Place.{GoesOn, Bad, FirstBad, after_byte, good_bytes, first_bad}
use Rattle.utf8.proofs.Laws.{is_utf8-sound, is_utf8-complete}

-- ---- one byte
pub follow-step : (ps : List Range) (b : ℕ) (s : List ℕ) → follow ps (b ∷ s) ≡ on_row (after_byte ps b) (λ qs. follow qs s)
unfolding follow
follow-step [] b s = refl
follow-step (p ∷ ps) b s = go (holds p b)
  where
    go : (t : Bool) → t && follow ps s ≡ on_row (pick t (asks ps) no_row) (λ qs. follow qs s)
    go true = refl
    go false = refl

follow-asks : (ps : List Range) (b : ℕ) (qs : List Range) → after_byte ps b ≡ asks qs → (s : List ℕ) → follow ps (b ∷ s) ≡ follow qs s
follow-asks ps b qs e s = rw (follow-step, e)

-- ---- at the place nothing follows
bad-stops : (ps : List Range) (s : List ℕ) → good_bytes ps s < length s → (t : List ℕ) → follow ps (take (good_bytes ps s + 1) s ++ t) ≡ false
unfolding good_bytes
bad-stops ps [] h t = absurd (omega arith)
bad-stops ps (b ∷ s) h t = go (λ qs g. bad-stops qs s g t) (after_byte ps b) refl
  where
    go : ((qs : List Range) → good_bytes qs s < length s → follow qs (take (good_bytes qs s + 1) s ++ t) ≡ false)
        → (a : After) → after_byte ps b ≡ a → follow ps (take (good_bytes ps (b ∷ s) + 1) (b ∷ s) ++ t) ≡ false
    go later (asks qs) e =
        let less : suc (good_bytes qs s) < suc (length s) = rw e at h in
        rw (e, add-one, follow-step, e) (rw add-one at (later qs (omega arith)))
    go later no_row e = rw (e, follow-step, e)

-- ---- before it something does
-- no range of the row is empty
abbrev filled : List Range → Bool
filled [] = true
filled (r ∷ rs) = leb r.low r.high && filled rs

abbrev all_filled : List (List Range) → Bool
all_filled [] = true
all_filled (row ∷ more) = filled row && all_filled more

rows-filled : all_filled rows ≡ true
unfolding rows
rows-filled = refl

first_row-filled : (rs : List (List Range)) (b : ℕ) (qs : List Range) → all_filled rs ≡ true → first_row rs b ≡ asks qs → filled qs ≡ true
first_row-filled [] b qs f e = cc
first_row-filled ([] ∷ rs) b qs f e = first_row-filled rs b qs f e
first_row-filled ((r ∷ own) ∷ rs) b qs f e = go (λ z. first_row-filled rs b qs both.1 z) (holds r b) refl
  where
    both : (filled (r ∷ own) ≡ true) × (all_filled rs ≡ true)
    both = (and-eq-true_iff (filled (r ∷ own)) (all_filled rs)).0 f

    go : (first_row rs b ≡ asks qs → filled qs ≡ true) → (t : Bool) → holds r b ≡ t → filled qs ≡ true
    go later true z =
        let same : asks own ≡ asks qs = rw z at e in
        let own≡qs : own ≡ qs = cc in
        rw own≡qs at ((and-eq-true_iff (leb r.low r.high) (filled own)).0 both.0).1
    go later false z = later (rw z at e)

after_byte-filled : (ps : List Range) (b : ℕ) (qs : List Range) → filled ps ≡ true → after_byte ps b ≡ asks qs → filled qs ≡ true
after_byte-filled [] b qs f e = first_row-filled rows b qs rows-filled e
after_byte-filled (p ∷ ps) b qs f e = go (holds p b) e
  where
    go : (t : Bool) → pick t (asks ps) no_row ≡ asks qs → filled qs ≡ true
    go true z =
        let ps≡qs : ps ≡ qs = cc in
        rw ps≡qs at ((and-eq-true_iff (leb p.low p.high) (filled ps)).0 f).1
    go false z = cc

-- the least bytes that are asked
abbrev least : List Range → List ℕ
least ps = map (λ r. r.low) ps

least-follows : (ps : List Range) → filled ps ≡ true → follow ps (least ps) ≡ true
unfolding follow
least-follows [] f = refl
least-follows (p ∷ ps) f =
    let both = (and-eq-true_iff (leb p.low p.high) (filled ps)).0 f in
    simp (le-leb p.low p.low (le_refl p.low), both.0) (least-follows ps both.1)

good-completes : (ps : List Range) (s : List ℕ) (k : ℕ) → filled ps ≡ true → k ≤ good_bytes ps s → (t : List ℕ) × (follow ps (take k s ++ t) ≡ true)
unfolding good_bytes
good-completes ps s zero f h = (least ps, least-follows ps f)
good-completes ps [] (suc k) f h = absurd (omega arith)
good-completes ps (b ∷ s) (suc k) f h = go (λ qs g l. good-completes qs s k g l) (after_byte ps b) refl
  where
    go : ((qs : List Range) → filled qs ≡ true → k ≤ good_bytes qs s → (t : List ℕ) × (follow qs (take k s ++ t) ≡ true))
        → (a : After) → after_byte ps b ≡ a → (t : List ℕ) × (follow ps (b ∷ take k s ++ t) ≡ true)
    go later (asks qs) e =
        let less : suc k ≤ suc (good_bytes qs s) = rw e at h in
        let q = later qs (after_byte-filled ps b qs f e) (omega arith) in
        (q.0, follow-asks ps b qs e (take k s ++ q.0) ∙ q.1)
    go later no_row e = absurd (let z : suc k ≤ 0 = rw e at h in omega arith)

-- ---- the place is no further than the bytes
good_bytes-le : (ps : List Range) (s : List ℕ) → good_bytes ps s ≤ length s
unfolding good_bytes
good_bytes-le ps [] = omega arith
good_bytes-le ps (b ∷ s) = go (λ qs. good_bytes-le qs s) (after_byte ps b) refl
  where
    go : ((qs : List Range) → good_bytes qs s ≤ length s) → (a : After) → after_byte ps b ≡ a → good_bytes ps (b ∷ s) ≤ suc (length s)
    go later (asks qs) e = rw e (omega (arith, later qs))
    go later no_row e = rw e (omega arith)

-- ---- the same of the definition
first_bad-le : (s : List ℕ) → first_bad s ≤ length s
unfolding first_bad
first_bad-le s = good_bytes-le [] s

-- up to the place the bytes go on
good-goes-on : (s : List ℕ) (k : ℕ) → k ≤ first_bad s → GoesOn (take k s)
unfolding first_bad is_utf8
good-goes-on s k h =
    let q = good-completes [] s k refl h in
    record { more = q.0; whole = is_utf8-sound (take k s ++ q.0) q.1 }

-- where all bytes go on, the first ones do
goes-on-take : (s : List ℕ) (k : ℕ) → GoesOn s → GoesOn (take k s)
goes-on-take s k g =
    record {
      more = drop k s ++ g.more;
      whole = rw (← append_assoc (take k s) (drop k s) g.more, take-append-drop) g.whole;
    }

first_bad-bad : (s : List ℕ) → first_bad s < length s → Bad s (first_bad s)
unfolding first_bad is_utf8
first_bad-bad s h =
    record {
      there = h;
      never = λ more u. false≢true (sym (bad-stops [] s h more) ∙ is_utf8-complete _ u);
    }

-- ---- the laws
pub first_bad-meets : (s : List ℕ) → FirstBad s (first_bad s)
first_bad-meets s = record { here = go (ltb (first_bad s) (length s)) refl; earlier = λ j h. good-goes-on s (j + 1) (omega arith) }
  where
    go : (t : Bool) → ltb (first_bad s) (length s) ≡ t → Bad s (first_bad s) ⊎ (first_bad s ≡ length s)
    go true e = inl (first_bad-bad s (ltb-true (first_bad s) (length s) e))
    go false e = inr (omega (arith, first_bad-le s, ltb-false (first_bad s) (length s) e))

-- no bad byte stands before a place that the definition has
bad-not-before : (s : List ℕ) (i j : ℕ) → Bad s i → FirstBad s j → ¬ (i < j)
bad-not-before s i j bad f h =
    let g = f.earlier i h in
    bad.never g.more g.whole

-- such a place is no further than the bytes
FirstBad-le : (s : List ℕ) (i : ℕ) → FirstBad s i → i ≤ length s
FirstBad-le s i f = go f.here
  where
    go : Bad s i ⊎ (i ≡ length s) → i ≤ length s
    go (inl bad) = omega (arith, bad.there)
    go (inr e) = omega arith

-- of two such places neither stands before the other
FirstBad-not-before : (s : List ℕ) (i j : ℕ) → FirstBad s i → FirstBad s j → ¬ (i < j)
FirstBad-not-before s i j f g h = go f.here
  where
    go : Bad s i ⊎ (i ≡ length s) → ⊥
    go (inl bad) = bad-not-before s i j bad g h
    go (inr e) = omega (arith, FirstBad-le s j g)

pub one-first_bad : (s : List ℕ) (i j : ℕ) → FirstBad s i → FirstBad s j → i ≡ j
one-first_bad s i j f g = omega (arith, FirstBad-not-before s i j f g, FirstBad-not-before s j i g f)

pub first_bad-iff : (s : List ℕ) (i : ℕ) → (i ≡ first_bad s) ↔ FirstBad s i
first_bad-iff s i = (λ e. rw e (first_bad-meets s), λ f. one-first_bad s i (first_bad s) f (first_bad-meets s))

-- from it on, and only from it on, every byte is bad
pub bad-iff : (s : List ℕ) (i : ℕ) → Bad s i ↔ ((first_bad s ≤ i) × (i < length s))
bad-iff s i = (λ bad. (omega (arith, bad-not-before s i (first_bad s) bad (first_bad-meets s)), bad.there), λ h. after h.0 h.1)
  where
    after : first_bad s ≤ i → i < length s → Bad s i
    after p q =
        let bad = first_bad-bad s (omega arith) in
        let l : first_bad s + 1 ≤ i + 1 = omega arith in
        record {
          there = q;
          never = λ more u.
              let g = goes-on-take (take (i + 1) s) (first_bad s + 1) (record { more = more; whole = u }) in
              bad.never g.more (rw (take-take (first_bad s + 1) (i + 1) s l) at g.whole);
        }

-- it is the length exactly where some bytes, put after all of them, make UTF-8
pub length-iff : (s : List ℕ) → (first_bad s ≡ length s) ↔ GoesOn s
length-iff s = (λ e. rw take-length at (good-goes-on s (length s) (omega arith)), λ g. sym ((first_bad-iff s (length s)).1 (all g)))
  where
    all : GoesOn s → FirstBad s (length s)
    all g = record { here = inr refl; earlier = λ j h. goes-on-take s (j + 1) g }

-- as where the bytes are UTF-8 already
pub passes-length : (s : List ℕ) → Utf8 s → first_bad s ≡ length s
passes-length s u = (length-iff s).1 (record { more = []; whole = rw append-nil u })
