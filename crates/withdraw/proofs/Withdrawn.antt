-- What a withdrawal leaves holds the list without the item: queries, equations and counts. Assumes nothing.
use Prim.Native.Nat.{ℕ, suc, ◌+◌, ◌-◌, ◌*◌, ◌≤◌, ◌<◌}
use mathlib.Core.Path.{◌≡◌, sym, ap, ap₂, ◌∙◌}
use mathlib.Core.Bool.{true}
use mathlib.Core.List.{List, [], ◌++◌, append_assoc, append-nil}
use native.Mathlib.Omega.{arith}
use lib.ListN.{length, take, drop, get_or, replicate, length-append, length-replicate}
use lib.Seq.{take-append_seam, drop-append_seam, take_at}
use Rattle.limits.specs.Numbers.{max_count}
use Rattle.words.specs.Pieces.{flat, words_of}
use Rattle.words.proofs.Held.{flat-length}
use Rattle.expr.specs.Equation.{Equation, equation, equation_words, equations_words, equations_end, size_at}
use Rattle.expr.proofs.Held.{end-words, size-words}
use Rattle.recording.specs.State.{HoldsQueries, HoldsEquations}
use Rattle.uses.specs.Uses.{uses_after, stray_after, uses_fit, UseCounts}
use Rattle.uses.proofs.Right.{struck-counted, struck-fits}
use Rattle.strike.specs.Strike.{without, struck_words}
use Rattle.strike.proofs.Lists.{without-length, without_all, all_take, all-at, take_count, flat-split, flat-without, equations-split, equations-without, held-without, below-without, struck-parts}

-- words struck leave the store's length
struck-length : (a q b rest : List ℕ) → length ((a ++ b) ++ (replicate (length q) 0 ++ rest)) ≡ length ((a ++ (q ++ b)) ++ rest)
struck-length a q b rest =
    let z = length-replicate {A = ℕ} (length q) 0 in
    simp length-append (omega arith)

-- ---- a query
module _ (width count : ℕ) (store : List ℕ) (asked : List (List ℕ)) (o : HoldsQueries width count store asked) (i : ℕ) (h : i < count) where
  abbrev a : List ℕ
  a = flat (take i asked)

  abbrev q : List ℕ
  q = get_or asked i []

  abbrev b : List ℕ
  b = flat (drop (suc i) asked)

  inside : i < length asked
  inside = rw o.counts at h

  store_is : store ≡ (a ++ (q ++ b)) ++ o.begins.rest
  store_is = o.begins.is ∙ ap (λ (l : List ℕ). l ++ o.begins.rest) (flat-split i asked inside)

  a-long : length a ≡ words_of width i
  a-long =
      flat-length (width + width) (take i asked) (all_take (λ p. length p ≡ width + width) i asked o.widths)
      ∙ ap (λ (n : ℕ). n * (width + width)) (take_count i asked inside)

  q-long : length q ≡ width + width
  q-long = all-at (λ p. length p ≡ width + width) i asked [] inside o.widths

  all-long : length (a ++ (q ++ b)) ≡ words_of width count
  all-long =
      sym (ap length (flat-split i asked inside))
      ∙ flat-length (width + width) asked o.widths
      ∙ ap (λ (n : ℕ). n * (width + width)) (sym o.counts)

  pub cells_are : take (width + width) (drop (words_of width i) store) ≡ q
  cells_are =
      ap₂ (λ (n : ℕ) (s : List ℕ). take (width + width) (drop n s)) (sym a-long) (store_is ∙ append_assoc a (q ++ b) o.begins.rest)
      ∙ ap (take (width + width)) (drop-append_seam a ((q ++ b) ++ o.begins.rest) ∙ append_assoc q b o.begins.rest)
      ∙ take_at q (b ++ o.begins.rest) (width + width) q-long

  struck-is : struck_words (words_of width i) (width + width) (words_of width count) store ≡ (a ++ b) ++ (replicate (length q) 0 ++ o.begins.rest)
  struck-is =
      ap₂ (λ (m n : ℕ). struck_words m n (words_of width count) store) (sym a-long) (sym q-long)
      ∙ ap₂ (λ (k : ℕ) (s : List ℕ). struck_words (length a) (length q) k s) (sym all-long) store_is
      ∙ struck-parts a q b o.begins.rest

  pub query-withdrawn : HoldsQueries width (count - 1) (struck_words (words_of width i) (width + width) (words_of width count) store) (without i asked)
  query-withdrawn = record {
    counts = ap (λ (n : ℕ). n - 1) o.counts ∙ sym (without-length i asked inside);
    widths = without_all (λ p. length p ≡ width + width) i asked o.widths;
    below = below-without max_count i asked inside o.below;
    begins = record {
      rest = replicate (length q) 0 ++ o.begins.rest;
      is = struck-is ∙ ap (λ (l : List ℕ). l ++ (replicate (length q) 0 ++ o.begins.rest)) (sym (flat-without i asked inside));
    };
    sized = λ k.
        let l = ap length struck-is ∙ struck-length a q b o.begins.rest ∙ sym (ap length store_is) in
        let m : length store ≤ max_count = o.sized (omega arith) in
        omega arith;
  }

  -- the counts, and 11, which never says no here
  pub counts-withdrawn : (len : ℕ) (uses : List ℕ) (stray : ℕ) → UseCounts len (flat asked) uses stray
      → UseCounts len (flat (without i asked)) (uses_after true uses q) (stray_after true len stray q)
  counts-withdrawn len uses stray c =
      rw (flat-without i asked inside) (struck-counted len a q b uses stray (rw (flat-split i asked inside) at c))

  pub counts-fit : (len : ℕ) (uses : List ℕ) (stray : ℕ) → UseCounts len (flat asked) uses stray → length store ≤ max_count → uses_fit true len uses stray q ≡ true
  counts-fit len uses stray c m =
      let l = ap length store_is ∙ length-append (a ++ (q ++ b)) o.begins.rest in
      struck-fits len a q b uses stray (omega arith) (rw (flat-split i asked inside) at c)

-- ---- an equation
module _ (count used : ℕ) (store : List ℕ) (stated : List Equation) (o : HoldsEquations count used store stated) (i : ℕ) (h : i < count) where
  abbrev before : List ℕ
  before = equations_words (take i stated)

  abbrev this : List ℕ
  this = equation_words (get_or stated i (equation [] 0))

  abbrev behind : List ℕ
  behind = equations_words (drop (suc i) stated)

  within : i < length stated
  within = rw o.counts at h

  words_are : store ≡ (before ++ (this ++ behind)) ++ o.begins.rest
  words_are = o.begins.is ∙ ap (λ (l : List ℕ). l ++ o.begins.rest) (equations-split i stated within)

  used-is : used ≡ length (before ++ (this ++ behind))
  used-is = o.words ∙ ap length (equations-split i stated within)

  held-is : take used store ≡ before ++ (this ++ behind)
  held-is = ap₂ take used-is words_are ∙ take-append_seam (before ++ (this ++ behind)) o.begins.rest

  place_is : equations_end i (take used store) ≡ length before
  place_is =
      ap₂ equations_end (sym (take_count i stated within)) held-is
      ∙ end-words (take i stated) (this ++ behind)

  size_is : size_at (drop (equations_end i (take used store)) (take used store)) ≡ length this
  size_is =
      ap₂ (λ (n : ℕ) (s : List ℕ). size_at (drop n s)) place_is held-is
      ∙ ap size_at (drop-append_seam before (this ++ behind))
      ∙ size-words (get_or stated i (equation [] 0)) behind

  pub ends-are : equations_end count (take used store) ≡ length (take used store)
  ends-are =
      ap₂ equations_end o.counts (held-is ∙ sym (equations-split i stated within) ∙ sym (append-nil (equations_words stated)))
      ∙ end-words stated []
      ∙ ap length (equations-split i stated within)
      ∙ sym (ap length held-is)

  left_is : struck_words (equations_end i (take used store)) (size_at (drop (equations_end i (take used store)) (take used store))) used store
      ≡ (before ++ behind) ++ (replicate (length this) 0 ++ o.begins.rest)
  left_is =
      ap₂ (λ (m n : ℕ). struck_words m n used store) place_is size_is
      ∙ ap₂ (λ (k : ℕ) (s : List ℕ). struck_words (length before) (length this) k s) used-is words_are
      ∙ struck-parts before this behind o.begins.rest

  pub equation-withdrawn : HoldsEquations (count - 1) (used - size_at (drop (equations_end i (take used store)) (take used store)))
      (struck_words (equations_end i (take used store)) (size_at (drop (equations_end i (take used store)) (take used store))) used store)
      (without i stated)
  equation-withdrawn = record {
    counts = ap (λ (n : ℕ). n - 1) o.counts ∙ sym (without-length i stated within);
    words =
        let x = length-append before (this ++ behind) in
        let y = length-append this behind in
        let z = length-append before behind in
        let w = ap length (equations-without i stated within) in
        let s = size_is in
        let u = used-is in
        omega arith;
    below = held-without i stated o.below;
    begins = record {
      rest = replicate (length this) 0 ++ o.begins.rest;
      is = left_is ∙ ap (λ (l : List ℕ). l ++ (replicate (length this) 0 ++ o.begins.rest)) (sym (equations-without i stated within));
    };
    sized = λ k.
        let l = ap length left_is ∙ struck-length before this behind o.begins.rest ∙ sym (ap length words_are) in
        let m : length store ≤ max_count = o.sized (omega arith) in
        omega arith;
  }
