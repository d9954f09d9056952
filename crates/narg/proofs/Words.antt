-- Lists of words in bytes, each below a bound: the laws of Fields and Lists put together.
-- Assumes nothing.
use Prim.Native.Nat.{ℕ, zero, suc, ◌+◌, ◌*◌, ◌/◌, ◌-◌, ◌≤◌, ◌<◌, min}
use mathlib.Core.Path.{◌≡◌, refl, sym, ap, ◌∙◌}
use mathlib.Core.Bool.{Bool, true, false, ◌&&◌}
use mathlib.Core.List.{List, [], ◌∷◌, ◌++◌}
use native.Mathlib.Omega.{arith}
use borrow.Author.Tests.{lt-ltb, ltb-true}
use lib.Dec.{ltb}
use lib.ListN.{length, take, drop, get_or, length-drop}
use lib.Seq.{drop-drop, get_or-drop}
use Rattle.std.specs.Int.{w32, from_le_bytes, to_le_bytes}
use Rattle.std.specs.Simd.{first_chunks}
use Rattle.words.specs.Store.{all_below, All}
use Rattle.narg.specs.Bytes.{word_end, IsBytes, u32_bytes, word_in}
use Rattle.narg.specs.Reader.{Got, got, on_got, give, word, below, times, each}
use Rattle.narg.proofs.Fields.{length-u32_bytes, word-rest, word-long, below-law, below-back, below_rest, below-got, rest_at}
use Rattle.narg.proofs.Lists.{length-each, ReadBack, times-law, times-back, times-all, times-rest, times-cons, times_more}

pub length-words : (ws : List ℕ) → length (each u32_bytes ws) ≡ 4 * length ws
length-words = length-each u32_bytes 4 length-u32_bytes

module _ (bound k : ℕ) where
  -- written and read
  pub words-law : bound ≤ word_end → (ws : List ℕ) (r : List ℕ) → All (λ x. x < bound) ws → times (below bound k) (length ws) (each u32_bytes ws ++ r) ≡ got ws r
  words-law h = times-law (below bound k) u32_bytes (λ x. x < bound) (below-law bound k h)

  module _ (n : ℕ) (bs ws r : List ℕ) where
    -- read and written
    pub words_back : IsBytes bs → times (below bound k) n bs ≡ got ws r → ReadBack u32_bytes n bs ws r
    words_back = times-back (below bound k) u32_bytes (below-back bound k) n bs ws r

    pub words-all : times (below bound k) n bs ≡ got ws r → All (λ x. x < bound) ws
    words-all = times-all (below bound k) (λ x. x < bound) (λ b a s e. (below-got bound k b a s e).1) n bs ws r

    pub words-rest : times (below bound k) n bs ≡ got ws r → (4 * n ≤ length bs) × (r ≡ drop (4 * n) bs)
    words-rest = times-rest (below bound k) 4 (below_rest bound k) n bs ws r

  -- the bound asked or not
  pub words-plain : (n : ℕ) (bs ws r : List ℕ) → times (below bound k) n bs ≡ got ws r → times word n bs ≡ got ws r
  words-plain zero bs ws r e = e
  words-plain (suc n) bs ws r e =
      let c = times-cons (below bound k) bs ws r n e in
      times_more word bs n c.item c.rest (below-got bound k bs c.item c.rest c.first).0
      ∙ ap (λ (g : Got (List ℕ)). on_got g (λ l. give (c.item ∷ l))) (words-plain n c.rest c.list r c.others)
      ∙ ap (λ (l : List ℕ). got l r) (sym c.all)

  -- past a place
  pub words-rest-at : (s : List ℕ) (at n : ℕ) (ws r : List ℕ) → times (below bound k) n (drop at s) ≡ got ws r
      → (4 * n ≤ length s - at) × (r ≡ drop (at + 4 * n) s)
  words-rest-at s at n ws r e = let t = words-rest n (drop at s) ws r e in rest_at s at (4 * n) r t.0 t.1

pub word-rest-at : (s : List ℕ) (at v : ℕ) (r : List ℕ) → word (drop at s) ≡ got v r → (at + 4 ≤ length s) × (r ≡ drop (at + 4) s)
word-rest-at s at v r e =
    let t = word-rest (drop at s) v r e in
    let u = rest_at s at 4 r t.0 t.1 in (omega arith, u.1)

-- the bound as a test and as a fact
pub all-all_below : (bound : ℕ) (ws : List ℕ) → All (λ x. x < bound) ws → all_below bound ws ≡ true
unfolding all_below
all-all_below bound [] h = refl
all-all_below bound (x ∷ ws) h = rw (lt-ltb x bound h.0, all-all_below bound ws h.1)

pub all_below-all : (bound : ℕ) (ws : List ℕ) → all_below bound ws ≡ true → All (λ x. x < bound) ws
unfolding all_below
all_below-all bound [] e = tt
all_below-all bound (x ∷ ws) e = go (ltb x bound) refl (λ z. all_below-all bound ws z) e
  where
    go : (b : Bool) → ltb x bound ≡ b → (all_below bound ws ≡ true → All (λ y. y < bound) ws) → (b && all_below bound ws) ≡ true
        → (x < bound) × All (λ y. y < bound) ws
    go true t rest f = (ltb-true x bound t, rest f)
    go false t rest f = absurd (let z : ◌≡◌ {A = ℕ} 0 1 = cc in omega arith)

-- ---- the words by their places
-- the first n words of the bytes
abbrev pub words_of : ℕ → List ℕ → List ℕ
words_of zero bs = []
words_of (suc n) bs = word_in bs 0 ∷ words_of n (drop 4 bs)

pub length-words_of : (n : ℕ) (bs : List ℕ) → length (words_of n bs) ≡ n
length-words_of zero bs = refl
length-words_of (suc n) bs = ap suc (length-words_of n (drop 4 bs))

pub times-words_of : (n : ℕ) (bs : List ℕ) → 4 * n ≤ length bs → times word n bs ≡ got (words_of n bs) (drop (4 * n) bs)
times-words_of zero bs h = refl
times-words_of (suc n) bs h =
    let l = length-drop 4 bs in
    let z : 4 + 4 * n ≡ 4 * suc n = omega arith in
    rw (word-long bs (omega arith), times-words_of n (drop 4 bs) (omega arith), drop-drop, z)

-- past the first n bytes
pub word_in-drop : (n : ℕ) (bs : List ℕ) (i : ℕ) → word_in (drop n bs) i ≡ word_in bs (n + i)
word_in-drop n bs i =
    let e1 : n + (i + 1) ≡ n + i + 1 = omega arith in
    let e2 : n + (i + 2) ≡ n + i + 2 = omega arith in
    let e3 : n + (i + 3) ≡ n + i + 3 = omega arith in
    simp (get_or-drop, e1, e2, e3)

get_or-words_of : (n : ℕ) (bs : List ℕ) (i : ℕ) → i < n → get_or (words_of n bs) i 0 ≡ word_in bs (4 * i)
get_or-words_of zero bs i h = absurd (omega arith)
get_or-words_of (suc n) bs zero h = refl
get_or-words_of (suc n) bs (suc i) h =
    let e : 4 + 4 * i ≡ 4 * suc i = omega arith in
    get_or-words_of n (drop 4 bs) i (omega arith) ∙ word_in-drop 4 bs (4 * i) ∙ ap (word_in bs) e

pub get_or-words_of-at : (s : List ℕ) (at n i : ℕ) → i < n → get_or (words_of n (drop at s)) i 0 ≡ word_in s (at + 4 * i)
get_or-words_of-at s at n i h = get_or-words_of n (drop at s) i h ∙ word_in-drop at s (4 * i)

-- ---- words as the library reads and writes them
pub u32_bytes-le : (v : ℕ) → to_le_bytes w32 v ≡ u32_bytes v
unfolding u32_bytes
u32_bytes-le v =
    let two : v / 65536 ≡ v / 256 / 256 = omega arith in
    let three : v / 16777216 ≡ v / 256 / 256 / 256 = omega arith in
    rw (two, three)

word_in-le : (bs : List ℕ) → 4 ≤ length bs → from_le_bytes w32 (take 4 bs) ≡ word_in bs 0
word_in-le [] h = absurd (omega arith)
word_in-le (a ∷ []) h = absurd (omega arith)
word_in-le (a ∷ b ∷ []) h = absurd (omega arith)
word_in-le (a ∷ b ∷ c ∷ []) h = absurd (omega arith)
word_in-le (a ∷ b ∷ c ∷ d ∷ rest) h = omega arith

-- four bytes cut out at a place
pub word_in-cut : (s : List ℕ) (at : ℕ) (cut : List ℕ) → cut ≡ take 4 (drop at s) → at + 4 ≤ length s → from_le_bytes w32 cut ≡ word_in s at
word_in-cut s at cut e h =
    let l = length-drop at s in
    let z : at + 0 ≡ at = omega arith in
    ap (from_le_bytes w32) e ∙ word_in-le (drop at s) (omega arith) ∙ word_in-drop at s 0 ∙ ap (word_in s) z

-- ---- bytes cut into fours
pub length-first_chunks : (n : ℕ) (bs : List ℕ) → length (first_chunks 4 n bs) ≡ n
length-first_chunks zero bs = refl
length-first_chunks (suc n) bs = ap suc (length-first_chunks n (drop 4 bs))

take-first_chunks : (k n : ℕ) (bs : List ℕ) → k ≤ n → take k (first_chunks 4 n bs) ≡ first_chunks 4 k bs
take-first_chunks zero n bs h = refl
take-first_chunks (suc k) zero bs h = absurd (omega arith)
take-first_chunks (suc k) (suc n) bs h = ap (λ (l : List (List ℕ)). take 4 bs ∷ l) (take-first_chunks k n (drop 4 bs) (omega arith))

get_or-first_chunks : (n : ℕ) (bs : List ℕ) (i : ℕ) → i < n → get_or (first_chunks 4 n bs) i [] ≡ take 4 (drop (4 * i) bs)
get_or-first_chunks zero bs i h = absurd (omega arith)
get_or-first_chunks (suc n) bs zero h = refl
get_or-first_chunks (suc n) bs (suc i) h =
    let e : 4 + 4 * i ≡ 4 * suc i = omega arith in
    get_or-first_chunks n (drop 4 bs) i (omega arith) ∙ ap (take 4) (drop-drop (4 * i) 4 bs ∙ ap (λ (m : ℕ). drop m bs) e)

-- the words that the bytes hold from a place on, at most n
abbrev pub chunks_held : (s : List ℕ) (at n : ℕ) → List (List ℕ)
chunks_held s at n = first_chunks 4 (min n ((length s - at) / 4)) (drop at s)

module _ (s : List ℕ) (at n : ℕ) (cs : List (List ℕ)) where
  pub chunks_held-take : (k : ℕ) → cs ≡ first_chunks 4 (length (drop at s) / 4) (drop at s) → k ≡ min n (length cs) → take k cs ≡ chunks_held s at n
  chunks_held-take k e h =
      let d = length-drop at s in
      let l = ap length e ∙ length-first_chunks (length (drop at s) / 4) (drop at s) in
      let m : k ≡ min n ((length s - at) / 4) = omega arith in
      ap (take k) e ∙ take-first_chunks k (length (drop at s) / 4) (drop at s) (omega arith) ∙ ap (λ (j : ℕ). first_chunks 4 j (drop at s)) m

  -- where the bytes hold all n, those are the first n
  pub chunks_held-all : cs ≡ first_chunks 4 (length (drop at s) / 4) (drop at s) → 4 * n ≤ length s - at → take n cs ≡ chunks_held s at n
  chunks_held-all e h =
      let d = length-drop at s in
      let l = ap length e ∙ length-first_chunks (length (drop at s) / 4) (drop at s) in
      chunks_held-take n e (omega arith)

  pub length-chunks_held : cs ≡ chunks_held s at n → length cs ≡ min n ((length s - at) / 4)
  length-chunks_held e = ap length e ∙ length-first_chunks (min n ((length s - at) / 4)) (drop at s)

  -- the i-th of them
  pub chunks_held-word : (i : ℕ) → cs ≡ chunks_held s at n → i < length cs → from_le_bytes w32 (get_or cs i []) ≡ word_in s (at + 4 * i)
  chunks_held-word i e h =
      let l = length-chunks_held e in
      word_in-cut s (at + 4 * i) (get_or cs i [])
      (ap (λ (x : List (List ℕ)). get_or x i []) e
      ∙ get_or-first_chunks (min n ((length s - at) / 4)) (drop at s) i (omega arith)
      ∙ ap (take 4) (drop-drop (4 * i) at s))
      (omega arith)
