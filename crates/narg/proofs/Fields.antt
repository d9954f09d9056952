-- Fields in bytes: what was written is read (`-law`), what was read is what was written (`-back`), and what a
-- reader leaves is the rest of the bytes (`-rest`).
--
-- The four digits of a word are its remainders by 256, one division after the other. Assumes nothing.
use Prim.Native.Nat.{ℕ, ◌+◌, ◌*◌, ◌/◌, ◌%◌, ◌-◌, ◌≤◌, ◌<◌}
use mathlib.Core.Path.{◌≡◌, refl, sym, ap, ◌∙◌}
use mathlib.Core.Bool.{Bool, true, false}
use mathlib.Core.List.{List, [], ◌∷◌, ◌++◌}
use native.Mathlib.Omega.{arith}
use borrow.Author.Tests.{lt-ltb, le-ltb, ltb-true, le-leb, lt-leb, leb-true}
use lib.Dec.{ltb, leb}
use lib.ListN.{length, take, drop, length-append, take-append-drop, length-drop}
use lib.Seq.{take-append_seam, drop-append_seam, drop-drop, get_or-append-add, length-take-le}
use Rattle.limits.specs.Questions.{pick}
use Rattle.narg.specs.Bytes.{word_end, IsBytes, u32_bytes, word4, word_in}
use Rattle.narg.specs.Reader.{Got, got, stop, on_got, ◌>>◌, give, need, word, part, below}

-- a refusal is no value
pub never : {A : Type 0} {a : A} {r : List ℕ} {k : ℕ} → stop k ≡ got a r → ⊥
never e = let z : ◌≡◌ {A = ℕ} 0 1 = cc in omega arith

-- ---- bytes (of a lent slice `s`, in a function's answers: `λ i. (c.type_inv.s i).fits`)
pub is_bytes-rest : (bytes rest : List ℕ) → IsBytes (bytes ++ rest) → IsBytes rest
is_bytes-rest bytes rest h i = rw get_or-append-add at (h (length bytes + i))

pub length-u32_bytes : (v : ℕ) → length (u32_bytes v) ≡ 4
unfolding u32_bytes
length-u32_bytes v = refl

-- ---- a word
word4-digits : (v : ℕ) → v < word_end → word4 (v % 256) (v / 256 % 256) (v / 256 / 256 % 256) (v / 256 / 256 / 256 % 256) ≡ v
word4-digits v h = omega arith

pub word-law : (v : ℕ) (r : List ℕ) → v < word_end → word (u32_bytes v ++ r) ≡ got v r
unfolding word u32_bytes
word-law v r h = ap (λ (n : ℕ). got n r) (word4-digits v h)

-- one digit
digit-mod : (x y : ℕ) → x < 256 → (x + 256 * y) % 256 ≡ x
digit-mod x y h = omega arith

digit-div : (x y : ℕ) → x < 256 → (x + 256 * y) / 256 ≡ y
digit-div x y h = omega arith

digits-word4 : (a b c d : ℕ) → a < 256 → b < 256 → c < 256 → d < 256 → u32_bytes (word4 a b c d) ≡ a ∷ b ∷ c ∷ d ∷ []
unfolding u32_bytes
digits-word4 a b c d ha hb hc hd =
    let e : word4 a b c d ≡ a + 256 * (b + 256 * (c + 256 * d)) = omega arith in
    let last : d % 256 ≡ d = omega arith in
    simp (e, digit-mod a (b + 256 * (c + 256 * d)) ha, digit-div a (b + 256 * (c + 256 * d)) ha, digit-mod b (c + 256 * d) hb, digit-div b (c + 256 * d) hb, digit-mod c d hc, digit-div c d hc, last)

pub word_back : (bs : List ℕ) (v : ℕ) (r : List ℕ) → IsBytes bs → word bs ≡ got v r → u32_bytes v ++ r ≡ bs
unfolding word
word_back [] v r h e = cc
word_back (a ∷ []) v r h e = cc
word_back (a ∷ b ∷ []) v r h e = cc
word_back (a ∷ b ∷ c ∷ []) v r h e = cc
word_back (a ∷ b ∷ c ∷ d ∷ rest) v r h e =
    let ev : word4 a b c d ≡ v = cc in
    let er : rest ≡ r = cc in
    rw (← ev, ← er, digits-word4 a b c d (h 0) (h 1) (h 2) (h 3))

-- what a word's reader says, by the length
pub word-short : (bs : List ℕ) → length bs < 4 → word bs ≡ stop 20
unfolding word
word-short [] h = refl
word-short (a ∷ []) h = refl
word-short (a ∷ b ∷ []) h = refl
word-short (a ∷ b ∷ c ∷ []) h = refl
word-short (a ∷ b ∷ c ∷ d ∷ rest) h = absurd (omega arith)

pub word-long : (bs : List ℕ) → 4 ≤ length bs → word bs ≡ got (word_in bs 0) (drop 4 bs)
unfolding word
word-long [] h = absurd (omega arith)
word-long (a ∷ []) h = absurd (omega arith)
word-long (a ∷ b ∷ []) h = absurd (omega arith)
word-long (a ∷ b ∷ c ∷ []) h = absurd (omega arith)
word-long (a ∷ b ∷ c ∷ d ∷ rest) h = refl

-- what it leaves
pub word-rest : (bs : List ℕ) (v : ℕ) (r : List ℕ) → word bs ≡ got v r → (4 ≤ length bs) × (r ≡ drop 4 bs)
unfolding word
word-rest [] v r e = absurd (never e)
word-rest (a ∷ []) v r e = absurd (never e)
word-rest (a ∷ b ∷ []) v r e = absurd (never e)
word-rest (a ∷ b ∷ c ∷ []) v r e = absurd (never e)
word-rest (a ∷ b ∷ c ∷ d ∷ rest) v r e = (omega arith, cc)

-- its only refusal
pub word-stop : (bs : List ℕ) (k : ℕ) → word bs ≡ stop k → k ≡ 20
unfolding word
word-stop [] k e = cc
word-stop (a ∷ []) k e = cc
word-stop (a ∷ b ∷ []) k e = cc
word-stop (a ∷ b ∷ c ∷ []) k e = cc
word-stop (a ∷ b ∷ c ∷ d ∷ rest) k e = absurd (never (sym e))

-- ---- a word below a bound
module _ (bound k : ℕ) (bs : List ℕ) where
  pub below-short : word bs ≡ stop 20 → below bound k bs ≡ stop 20
  unfolding below
  below-short e = rw e

  pub below-not : (v : ℕ) (r : List ℕ) → word bs ≡ got v r → bound ≤ v → below bound k bs ≡ stop k
  unfolding below
  below-not v r e h = rw (e, le-ltb v bound h)

  pub below-yes : (v : ℕ) (r : List ℕ) → word bs ≡ got v r → v < bound → below bound k bs ≡ got v r
  unfolding below
  below-yes v r e h = rw (e, lt-ltb v bound h)

  -- and back: what was got is a word below the bound
  pub below-got : (v : ℕ) (r : List ℕ) → below bound k bs ≡ got v r → (word bs ≡ got v r) × (v < bound)
  unfolding below
  below-got v r e = go (word bs) refl e
    where
      asked : (x : ℕ) (rest : List ℕ) (b : Bool) → ltb x bound ≡ b → word bs ≡ got x rest
          → on_got (need k b rest) (λ u. give x) ≡ got v r → (word bs ≡ got v r) × (v < bound)
      asked x rest true t w f = let ev : x ≡ v = cc in (cc, rw (← ev) (ltb-true x bound t))
      asked x rest false t w f = absurd (never f)

      go : (g : Got ℕ) → word bs ≡ g → on_got g (λ x. need k (ltb x bound) >> give x) ≡ got v r → (word bs ≡ got v r) × (v < bound)
      go (got x rest) w f = asked x rest (ltb x bound) refl w f
      go (stop j) w f = absurd (never f)

pub below-law : (bound k : ℕ) → bound ≤ word_end → (v : ℕ) (r : List ℕ) → v < bound → below bound k (u32_bytes v ++ r) ≡ got v r
below-law bound k b v r h = below-yes bound k (u32_bytes v ++ r) v r (word-law v r (omega arith)) h

pub below-back : (bound k : ℕ) (bs : List ℕ) (v : ℕ) (r : List ℕ) → IsBytes bs → below bound k bs ≡ got v r → u32_bytes v ++ r ≡ bs
below-back bound k bs v r h e = word_back bs v r h (below-got bound k bs v r e).0

pub below_rest : (bound k : ℕ) (bs : List ℕ) (v : ℕ) (r : List ℕ) → below bound k bs ≡ got v r → (4 ≤ length bs) × (r ≡ drop 4 bs)
below_rest bound k bs v r e = word-rest bs v r (below-got bound k bs v r e).0

-- ---- n bytes
pub part-law : (l r : List ℕ) → part (length l) (l ++ r) ≡ got l r
unfolding part
part-law l r =
    let e = length-append l r in
    rw (le-leb (length l) (length (l ++ r)) (omega arith), take-append_seam l r, drop-append_seam l r)

pub part-short : (n : ℕ) (bs : List ℕ) → length bs < n → part n bs ≡ stop 20
unfolding part
part-short n bs h = rw (lt-leb n (length bs) h)

pub part-long : (n : ℕ) (bs : List ℕ) → n ≤ length bs → part n bs ≡ got (take n bs) (drop n bs)
unfolding part
part-long n bs h = rw (le-leb n (length bs) h)

pub part-rest : (n : ℕ) (bs l r : List ℕ) → part n bs ≡ got l r → (n ≤ length bs) × (l ≡ take n bs) × (r ≡ drop n bs)
unfolding part
part-rest n bs l r e = go (leb n (length bs)) refl e
  where
    go : (b : Bool) → leb n (length bs) ≡ b → pick b (got (take n bs) (drop n bs)) (stop 20) ≡ got l r
        → (n ≤ length bs) × (l ≡ take n bs) × (r ≡ drop n bs)
    go true t f = (leb-true n (length bs) t, cc, cc)
    go false t f = absurd (never f)

pub part-back : (n : ℕ) (bs l r : List ℕ) → part n bs ≡ got l r → l ++ r ≡ bs
part-back n bs l r e = let t = part-rest n bs l r e in rw (t.1, t.2) (take-append-drop n bs)

pub part_length : (n : ℕ) (bs l r : List ℕ) → part n bs ≡ got l r → length l ≡ n
part_length n bs l r e = let t = part-rest n bs l r e in rw t.1 (length-take-le n bs t.0)

-- ---- what is left of the bytes past a place
pub rest_at : (s : List ℕ) (at size : ℕ) (r : List ℕ) → size ≤ length (drop at s) → r ≡ drop size (drop at s)
    → (size ≤ length s - at) × (r ≡ drop (at + size) s)
rest_at s at size r h e = (rw length-drop at h, e ∙ drop-drop size at s)
