-- What 11 asks of pairs, equations and slots, word by word: what is left of the words says the same as all
-- of them. Assumes nothing.
use Prim.Native.Nat.{ℕ, zero, suc, ◌+◌, ◌*◌, ◌-◌, ◌/◌, ◌≤◌, ◌<◌, min}
use mathlib.Core.Path.{◌≡◌, refl, sym, ap, ◌∙◌}
use mathlib.Core.Bool.{Bool, true, false, ◌&&◌, ◌||◌, and-false, and-true, and_assoc}
use mathlib.Core.List.{List, [], ◌∷◌, ◌++◌}
use native.Mathlib.Omega.{arith}
use native.Mathlib.Numerals.{add-one}
use native.Mathlib.Nat.{mul-add}
use borrow.Author.Tests.{lt-ltb, le-ltb, ne_eqb}
use lib.Dec.{eqb, ltb}
use lib.ListN.{length, take, drop, get_or, drop_of_length-le, length-append, length-take, length-drop}
use lib.Seq.{drop-cons, drop-drop, get_or-drop}
use Rattle.limits.specs.Numbers.{prime, max_count, unassigned}
use Rattle.words.specs.Store.{all_below}
use Rattle.words.specs.Pieces.{words_of}
use Rattle.expr.specs.Equation.{term_vars, term_weights, equation_at, equations_at, equations_end, equations_held, size_at}
use Rattle.instance.specs.Parts.{pair_vars, pair_values, pairs_at}
use Rattle.held.specs.Held.{equations_sound, publics_sound, slots_sound}
use Rattle.instance.proofs.Pairs.{at_first, pairs-at, vars-same, values_same}
use Rattle.instance.proofs.Parts.{pairs_at-take}

-- ---- pairs
interchange : (a b x y : Bool) → ((a && x) && (b && y)) ≡ ((a && b) && (x && y))
interchange true true x y = refl
interchange true false x y = and-false x
interchange false b x y = refl

-- the pair in the first piece of two words: the last piece may be one word alone
sound-piece : (x r : List ℕ) (n : ℕ) → length x ≡ min 2 (length (x ++ r)) → 0 < length (x ++ r)
    → publics_sound (suc n) (x ++ r) ≡ ((ltb (get_or x 0 0) max_count && ltb (get_or x 1 0) prime) && publics_sound n r)
unfolding publics_sound all_below
sound-piece [] [] n e h = absurd (omega arith)
sound-piece [] (y ∷ r) n e h = absurd (omega arith)
sound-piece (a ∷ []) [] n e h =
    interchange (ltb a max_count) true (all_below max_count (pair_vars (pairs_at n []))) (all_below prime (pair_values (pairs_at n [])))
sound-piece (a ∷ []) (y ∷ r) n e h = absurd (omega arith)
sound-piece (a ∷ b ∷ []) r n e h =
    interchange (ltb a max_count) (ltb b prime) (all_below max_count (pair_vars (pairs_at n r))) (all_below prime (pair_values (pairs_at n r)))
sound-piece (a ∷ b ∷ y ∷ x) r n e h = absurd (omega arith)

sound-at : (s : List ℕ) (i n : ℕ) → 0 < n
    → publics_sound n (drop i s)
    ≡ ((ltb (get_or s i 0) max_count && ltb (get_or s (i + 1) 0) prime) && publics_sound (n - 1) (drop (i + 2) s))
unfolding publics_sound all_below
sound-at s i n h =
    rw (pairs-at s i n h)
    (interchange (ltb (get_or s i 0) max_count) (ltb (get_or s (i + 1) 0) prime)
    (all_below max_count (pair_vars (pairs_at (n - 1) (drop (i + 2) s))))
    (all_below prime (pair_values (pairs_at (n - 1) (drop (i + 2) s)))))

-- words that are lacking count as 0, which is sound
lacking : (n : ℕ) → publics_sound n [] ≡ true
unfolding publics_sound all_below
lacking zero = refl
lacking (suc n) = lacking n

module _ (s : List ℕ) (i n : ℕ) (whole : Bool) (e : publics_sound n (drop i s) ≡ whole) where
  pub sound-lacking : length s ≤ i → true ≡ whole
  sound-lacking h = sym (ap (publics_sound n) (drop_of_length-le s h) ∙ lacking n) ∙ e

  pub sound-all : n ≤ 0 → true ≡ whole
  unfolding publics_sound all_below
  sound-all h = let z : n ≡ 0 = omega arith in rw z at e

  module _ (h : 0 < n) where
    pub sound-wire : max_count ≤ get_or s i 0 → false ≡ whole
    sound-wire k = sym (sound-at s i n h ∙ simp (le-ltb (get_or s i 0) max_count k)) ∙ e

    module _ (k : get_or s i 0 < max_count) where
      pub sound-unit : prime ≤ get_or s (i + 1) 0 → false ≡ whole
      sound-unit l = sym (sound-at s i n h ∙ simp (lt-ltb (get_or s i 0) max_count k, le-ltb (get_or s (i + 1) 0) prime l)) ∙ e

      pub sound_more : get_or s (i + 1) 0 < prime → publics_sound (n - 1) (drop (i + 2) s) ≡ whole
      sound_more l = sym (sound-at s i n h ∙ simp (lt-ltb (get_or s i 0) max_count k, lt-ltb (get_or s (i + 1) 0) prime l)) ∙ e

-- what the pairs before say, with those in s still to be looked at
module _ (sound : Bool) (s : List ℕ) (whole : Bool) (e : (sound && publics_sound (length s / 2) s) ≡ whole) where
  pub pairs-more : (x r : List ℕ) → s ≡ x ++ r → length x ≡ 2
      → ((sound && (ltb (get_or x 0 0) max_count && ltb (get_or x 1 0) prime)) && publics_sound (length r / 2) r) ≡ whole
  pairs-more x r z l =
      let k = length-append x r in
      let n : length s / 2 ≡ suc (length r / 2) = omega (arith, k, ap length z) in
      and_assoc sound (ltb (get_or x 0 0) max_count && ltb (get_or x 1 0) prime) (publics_sound (length r / 2) r)
      ∙ sym (ap (λ (b : Bool). sound && b) (sound-piece x r (length r / 2) (omega arith) (omega arith)))
      ∙ (rw (n, z) at e)

  pub pairs-all : length s < 2 → sound ≡ whole
  unfolding publics_sound all_below
  pairs-all h = let z : length s / 2 ≡ 0 = omega arith in sym (and-true sound) ∙ (rw z at e)

-- all n pairs from place `at` on
pub pairs-held : (s r : List ℕ) (at n : ℕ) → r ≡ take (at + 2 * n - at) (drop at s) → at + 2 * n ≤ length s
    → publics_sound (length r / 2) r ≡ publics_sound n (drop at s)
unfolding publics_sound
pairs-held s r at n z h =
    let k : at + 2 * n - at ≡ 2 * n = omega arith in
    let m : length (take (2 * n) (drop at s)) / 2 ≡ n = simp (length-take, length-drop) (omega arith) in
    rw (z, k, m, pairs_at-take n (drop at s))

-- ---- one equation: its terms are as pairs, and its image is a unit
pub one-sound : (s : List ℕ) (at : ℕ)
    → equations_held (equation_at (drop at s) ∷ [])
    ≡ (publics_sound (get_or s at 0) (drop (at + 1) s) && ltb (get_or s (at + 1 + 2 * get_or s at 0) 0) prime)
unfolding equation_at publics_sound
one-sound s at =
    let t = get_or s at 0 in
    let r = drop (at + 1) s in
    let image = ltb (get_or s (at + 1 + 2 * t) 0) prime in
    rw (
      at_first s at,
      drop-drop 1 at s,
      ← vars-same t r,
      ← values_same t r,
      get_or-drop (at + 1) s (2 * t) 0,
      and-true image,
    )
    (sym (and_assoc (all_below max_count (pair_vars (pairs_at t r))) (all_below prime (pair_values (pairs_at t r))) image))

pub size_is : (s : List ℕ) (at : ℕ) → size_at (drop at s) ≡ 2 + 2 * get_or s at 0
unfolding size_at
size_is s at = rw (at_first s at)

-- ---- equations one after the other, from place `at` on
unfoldable pub rest_sound : ℕ → ℕ → List ℕ → Bool
rest_sound n at s = eqb (at + equations_end n (drop at s)) (length s) && equations_held (equations_at n (drop at s))

pub rest-whole : (n : ℕ) (s : List ℕ) → rest_sound n 0 s ≡ equations_sound n s
unfolding rest_sound equations_sound
rest-whole n s =
    let e : 0 + equations_end n s ≡ equations_end n s = omega arith in
    ap (λ (k : ℕ). eqb k (length s) && equations_held (equations_at n s)) e

one-and-rest : (a b c x : Bool) → (a && (b && (c && x))) ≡ ((a && (b && (c && true))) && x)
one-and-rest true true true x = refl
one-and-rest true true false x = refl
one-and-rest true false c x = refl
one-and-rest false b c x = refl

-- the first equation, and what is left behind it
rest_at : (s : List ℕ) (at n : ℕ) → 0 < n
    → rest_sound n at s
    ≡ (eqb (at + size_at (drop at s) + equations_end (n - 1) (drop (at + size_at (drop at s)) s)) (length s)
    && (equations_held (equation_at (drop at s) ∷ []) && equations_held (equations_at (n - 1) (drop (at + size_at (drop at s)) s))))
unfolding rest_sound
rest_at s at zero h = absurd (omega arith)
rest_at s at (suc n) h =
    let size = size_at (drop at s) in
    let r = drop (at + size) s in
    let q = equation_at (drop at s) in
    let z : suc n - 1 ≡ n = omega arith in
    let k : at + (size + equations_end n r) ≡ at + size + equations_end n r = omega arith in
    rw (z, drop-drop size at s, k)
    (ap (λ (b : Bool). eqb (at + size + equations_end n r) (length s) && b)
    (one-and-rest (all_below max_count (term_vars q.terms)) (all_below prime (term_weights q.terms)) (ltb q.image prime) (equations_held (equations_at n r))))

module _ (s : List ℕ) (at n : ℕ) (whole : Bool) (e : rest_sound n at s ≡ whole) where
  pub rest_end : n ≤ 0 → eqb at (length s) ≡ whole
  unfolding rest_sound
  rest_end h =
      let z : n ≡ 0 = omega arith in
      let k : at ≡ at + 0 = omega arith in
      ap (λ (m : ℕ). eqb m (length s)) k ∙ sym (and-true (eqb (at + 0) (length s))) ∙ (rw z at e)

  module _ (h : 0 < n) (f : at ≤ length s) where
    abbrev size : ℕ
    size = size_at (drop at s)

    pub rest-long : length s - at < size → false ≡ whole
    rest-long k =
        let x = equations_end (n - 1) (drop (at + size) s) in
        let d : eqb (at + size + x) (length s) ≡ false = ne_eqb (at + size + x) (length s) (λ z. omega arith) in
        sym (rest_at s at n h ∙ simp d) ∙ e

    pub rest-unsound : equations_held (equation_at (drop at s) ∷ []) ≡ false → false ≡ whole
    rest-unsound k = sym (rest_at s at n h ∙ simp (k, and-false)) ∙ e

    pub rest_more : equations_held (equation_at (drop at s) ∷ []) ≡ true → rest_sound (n - 1) (at + size) s ≡ whole
    unfolding rest_sound
    rest_more k = sym (rest_at s at n h ∙ simp k) ∙ e

-- ---- slots
slots_at : (s : List ℕ) (i : ℕ) → i < length s
    → slots_sound (drop i s) ≡ ((ltb (get_or s i 0) prime || eqb (get_or s i 0) unassigned) && slots_sound (drop (i + 1) s))
unfolding slots_sound
slots_at s i h = rw (drop-cons s i 0 h, add-one)

-- what the slots before i say, with the slots from i on still to be looked at
module _ (s : List ℕ) (sound : Bool) (i : ℕ) (e : (sound && slots_sound (drop i s)) ≡ slots_sound s) where
  pub slots-more : i < length s
      → ((sound && (ltb (get_or s i 0) prime || eqb (get_or s i 0) unassigned)) && slots_sound (drop (i + 1) s)) ≡ slots_sound s
  slots-more h =
      and_assoc sound (ltb (get_or s i 0) prime || eqb (get_or s i 0) unassigned) (slots_sound (drop (i + 1) s))
      ∙ sym (ap (λ (b : Bool). sound && b) (slots_at s i h)) ∙ e

  pub slots-all : length s ≤ i → sound ≡ slots_sound s
  unfolding slots_sound
  slots-all h = sym (and-true sound) ∙ rw (drop_of_length-le s h) at e

-- ---- the words of n pieces, by their half
pub twice_half : (width n : ℕ) → 2 * (n * width) ≡ words_of width n
twice_half width n = let e = mul-add n width width in omega arith
