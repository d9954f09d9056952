-- The test `is_utf8` is the definition `Utf8`, on every list of numbers.
--
-- From left to right: what `follow` accepts splits into the bytes that were asked and whole characters
-- (`follow-splits`). From right to left: `follow` goes past each character of the list (`character-passes`),
-- since the rows' first bytes ascend, which is computed once over the rows (`ascending`), so that the row
-- which the test takes is the character's own. Assumes nothing.
use Prim.Native.Nat.{ℕ, suc, ◌≤◌, ◌<◌}
use mathlib.Core.Path.{◌≡◌, refl, sym, ap, subst, ◌∙◌}
use mathlib.Core.Bool.{Bool, true, false, ◌&&◌, and-false}
use mathlib.Core.Logic.{◌↔◌, ◌⊎◌, inl, inr}
use mathlib.Core.List.Forall₂
use mathlib.Core.List.{List, [], ◌∷◌, ◌++◌, flatten, Forall₂}
use mathlib.Core.List.Memᴰ
use mathlib.Core.List.{Memᴰ}
use native.Mathlib.Omega.{arith}
use borrow.Author.Tests.{le-leb, lt-leb, leb-true}
use lib.Dec.{leb}
use Rattle.limits.specs.Questions.{pick}
use Rattle.utf8.specs.Utf8.{Range, rows, Within, Character, Utf8, holds, After, asks, no_row, first_row, follow, is_utf8}

-- ---- a range, as a test and as a fact
and_parts : (a b : Bool) → a && b ≡ true → (a ≡ true) × (b ≡ true)
and_parts true b e = (refl, e)
and_parts false b e = (e, cc)

holds-within : (r : Range) (b : ℕ) → holds r b ≡ true → Within b r
holds-within r b e =
    let p = and_parts (leb r.low b) (leb b r.high) e in
    record { above = leb-true _ _ p.0; below = leb-true _ _ p.1 }

within-holds : (r : Range) (b : ℕ) → Within b r → holds r b ≡ true
within-holds r b w = simp (le-leb r.low b w.above, le-leb b r.high w.below)

above-fails : (r : Range) (b : ℕ) → r.high < b → holds r b ≡ false
above-fails r b h = simp (lt-leb b r.high h, and-false)

-- ---- the row of a first byte
-- a row that the test takes is among the rows, and the byte is in its first range
record Begins (rs : List (List Range)) (b : ℕ) (more : List Range) : Type 0 where
  first : Range
  among : Memᴰ (first ∷ more) rs
  within : Within b first

first_row-begins : (rs : List (List Range)) (b : ℕ) (more : List Range) → first_row rs b ≡ asks more → Begins rs b more
first_row-begins [] b more e = absurd (let z : ◌≡◌ {A = ℕ} 0 1 = cc in omega arith)
first_row-begins ([] ∷ rs) b more e =
    let q = first_row-begins rs b more e in
    record { first = q.first; among = Memᴰ.tail q.among; within = q.within }
first_row-begins ((r ∷ own) ∷ rs) b more e = go (λ z. first_row-begins rs b more z) (holds r b) refl
  where
    go : (first_row rs b ≡ asks more → Begins rs b more) → (t : Bool) → holds r b ≡ t → Begins ((r ∷ own) ∷ rs) b more
    go later true z =
        let same : pick true (asks own) (first_row rs b) ≡ asks more = rw z at e in
        let whole : r ∷ more ≡ r ∷ own = cc in
        record { first = r; among = Memᴰ.head whole; within = holds-within r b z }
    go later false z =
        let q = later (rw z at e) in
        record { first = q.first; among = Memᴰ.tail q.among; within = q.within }

-- the rows' first ranges are one above the other, from m on: computed
abbrev ascend : ℕ → List (List Range) → Bool
ascend m [] = true
ascend m ([] ∷ rs) = false
ascend m ((r ∷ more) ∷ rs) = leb m r.low && (leb r.low r.high && ascend (suc r.high) rs)

ascending : ascend 0 rows ≡ true
unfolding rows
ascending = refl

-- so a byte of a row's first range is in no earlier one, and the test takes that row
begins-first_row : (m : ℕ) (rs : List (List Range)) → ascend m rs ≡ true → (b : ℕ) (r : Range) (more : List Range)
    → Memᴰ (r ∷ more) rs → Within b r → (m ≤ b) × (first_row rs b ≡ asks more)
begins-first_row m [] t b r more among w = absurd (Memᴰ.not-nil among)
begins-first_row m ([] ∷ rs) t b r more among w = absurd (let z : ◌≡◌ {A = ℕ} 0 1 = cc in omega arith)
begins-first_row m ((f ∷ own) ∷ rs) t b r more among w =
    go (λ t a. begins-first_row (suc f.high) rs t b r more a w) (Memᴰ.cases_cons among)
  where
    low : (leb m f.low ≡ true) × (leb f.low f.high && ascend (suc f.high) rs ≡ true)
    low = and_parts (leb m f.low) (leb f.low f.high && ascend (suc f.high) rs) t

    high : (leb f.low f.high ≡ true) × (ascend (suc f.high) rs ≡ true)
    high = and_parts (leb f.low f.high) (ascend (suc f.high) rs) low.1

    go : (ascend (suc f.high) rs ≡ true → Memᴰ (r ∷ more) rs → (suc f.high ≤ b) × (first_row rs b ≡ asks more))
        → (r ∷ more ≡ f ∷ own) ⊎ Memᴰ (r ∷ more) rs
        → (m ≤ b) × (first_row ((f ∷ own) ∷ rs) b ≡ asks more)
    go later (inl e) =
        let r≡f : r ≡ f = cc in
        let v : Within b f = subst (λ (x : Range). Within b x) r≡f w in
        (omega (arith, leb-true m f.low low.0, v.above), rw (within-holds f b v) (cc))
    go later (inr a) =
        let q = later high.1 a in (
          omega (arith, leb-true m f.low low.0, leb-true f.low f.high high.0, q.0),
          rw (above-fails f b (omega (arith, q.0))) q.1,
        )

pub row-first_row : (b : ℕ) (r : Range) (more : List Range) → Memᴰ (r ∷ more) rows → Within b r → first_row rows b ≡ asks more
row-first_row b r more among w = (begins-first_row 0 rows ascending b r more among w).1

-- ---- what the test accepts
nothing : Utf8 []
unfolding flatten
nothing = record { characters = []; each = λ c m. absurd (Memᴰ.not-nil m); joined = refl }

one_more : (c s : List ℕ) → Character c → Utf8 s → Utf8 (c ++ s)
unfolding flatten
one_more c s first u =
    record {
      characters = c ∷ u.characters;
      each = λ d m. go d (Memᴰ.cases_cons m);
      joined = ap (λ (t : List ℕ). c ++ t) u.joined;
    }
  where
    go : (d : List ℕ) → (d ≡ c) ⊎ Memᴰ d u.characters → Character d
    go d (inl e) = subst (λ (x : List ℕ). Character x) (sym e) first
    go d (inr m) = u.each d m

-- bytes that the ranges ps ask, and then UTF-8
record Splits (ps : List Range) (s : List ℕ) : Type 0 where
  begun : List ℕ
  rest : List ℕ
  fits : Forall₂ Within begun ps
  after : Utf8 rest
  joined : s ≡ begun ++ rest

follow-splits : (ps : List Range) (s : List ℕ) → follow ps s ≡ true → Splits ps s
unfolding follow
follow-splits [] [] e = record { begun = []; rest = []; fits = Forall₂.nil; after = nothing; joined = refl }
follow-splits (p ∷ ps) [] e = absurd (let z : ◌≡◌ {A = ℕ} 0 1 = cc in omega arith)
follow-splits [] (b ∷ s) e = go (λ ps z. follow-splits ps s z) (first_row rows b) refl
  where
    go : ((ps : List Range) → follow ps s ≡ true → Splits ps s) → (a : After) → first_row rows b ≡ a → Splits [] (b ∷ s)
    go later (asks more) z =
        let q = first_row-begins rows b more z in
        let t = later more (rw z at e) in
        let c : Character (b ∷ t.begun) = record { row = q.first ∷ more; among = q.among; fits = Forall₂.cons q.within t.fits } in
        record {
          begun = [];
          rest = b ∷ s;
          fits = Forall₂.nil;
          after = rw t.joined (one_more (b ∷ t.begun) t.rest c t.after);
          joined = refl;
        }
    go later no_row z = absurd (let f : false ≡ true = rw z at e in let w : ◌≡◌ {A = ℕ} 0 1 = cc in omega arith)
follow-splits (p ∷ ps) (b ∷ s) e =
    let q = and_parts (holds p b) (follow ps s) e in
    let t = follow-splits ps s q.1 in
    record {
      begun = b ∷ t.begun;
      rest = t.rest;
      fits = Forall₂.cons (holds-within p b q.0) t.fits;
      after = t.after;
      joined = ap (λ (l : List ℕ). b ∷ l) t.joined;
    }

-- ---- what is UTF-8
-- past bytes that are in the ranges asked
fits-passes : {c : List ℕ} {ps : List Range} → Forall₂ Within c ps → (s : List ℕ) → follow ps (c ++ s) ≡ follow [] s
unfolding follow
fits-passes Forall₂.nil s = refl
fits-passes (Forall₂.cons {a = b} {b = p} w f) s = rw (within-holds p b w) (fits-passes f s)

-- past a character
character-passes : {c : List ℕ} {row : List Range} → Forall₂ Within c row → Memᴰ row rows → (s : List ℕ) → follow [] (c ++ s) ≡ follow [] s
unfolding follow
character-passes Forall₂.nil among s = refl
character-passes (Forall₂.cons {a = b} {b = r} {l₂ = more} w f) among s =
    rw (row-first_row b r more among w) (fits-passes f s)

characters-pass : (cs : List (List ℕ)) → ((c : List ℕ) → Memᴰ c cs → Character c) → follow [] (flatten cs) ≡ true
unfolding follow flatten
characters-pass [] each = refl
characters-pass (c ∷ cs) each =
    let first = each c (Memᴰ.head refl) in
    character-passes first.fits first.among (flatten cs) ∙ characters-pass cs (λ d m. each d (Memᴰ.tail m))

-- ---- the law
pub is_utf8-sound : (s : List ℕ) → is_utf8 s ≡ true → Utf8 s
unfolding is_utf8
is_utf8-sound s e =
    let t = follow-splits [] s e in
    let all : s ≡ t.rest = t.joined ∙ ap (λ (l : List ℕ). l ++ t.rest) (Forall₂.eq-nil_left t.fits) in
    subst (λ (l : List ℕ). Utf8 l) (sym all) t.after

pub is_utf8-complete : (s : List ℕ) → Utf8 s → is_utf8 s ≡ true
unfolding is_utf8
is_utf8-complete s u = ap (λ (l : List ℕ). follow [] l) u.joined ∙ characters-pass u.characters u.each

pub is_utf8-iff : (s : List ℕ) → (is_utf8 s ≡ true) ↔ Utf8 s
is_utf8-iff s = (is_utf8-sound s, is_utf8-complete s)

-- so an answer that is the test's says both
pub is_utf8-says : (r : Bool) (s : List ℕ) → r ≡ is_utf8 s → (r ≡ is_utf8 s) × ((r ≡ true) ↔ Utf8 s)
is_utf8-says r s e = (e, (λ t. is_utf8-sound s (sym e ∙ t), λ u. e ∙ is_utf8-complete s u))
