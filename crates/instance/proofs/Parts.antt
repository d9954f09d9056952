-- Parts in stores: pairs that were stored are read again, whatever follows; pieces one after the other are
-- the first words of a store. Assumes nothing.
use Prim.Native.Nat.{ℕ, zero, suc, ◌+◌, ◌*◌}
use mathlib.Core.Path.{◌≡◌, refl, sym, ap, ◌∙◌}
use mathlib.Core.List.{List, [], ◌∷◌, ◌++◌}
use native.Mathlib.Omega.{arith}
use lib.ListN.{length, take, drop}
use lib.Seq.{take-add, take-take, take-nil}
use Rattle.words.specs.Pieces.{words_of, pieces, flat}
use Rattle.allocator.specs.Slots.{Pair, pair}
use Rattle.instance.specs.Parts.{pair_words, pairs_at}

-- ---- pairs
pub pair_words-length : (ps : List Pair) → length (pair_words ps) ≡ 2 * length ps
pair_words-length [] = refl
pair_words-length (p ∷ ps) = let e = pair_words-length ps in omega arith

-- pairs that were stored are read again, whatever follows
pub pairs_at-pair_words : (ps : List Pair) (r : List ℕ) → pairs_at (length ps) (pair_words ps ++ r) ≡ ps
pairs_at-pair_words [] r = refl
pairs_at-pair_words (p ∷ ps) r = ap (λ (l : List Pair). p ∷ l) (pairs_at-pair_words ps r)

-- n pairs are in the first 2n words
pub pairs_at-take : (n : ℕ) (s : List ℕ) → pairs_at n (take (2 * n) s) ≡ pairs_at n s
pairs_at-take zero s = refl
pairs_at-take (suc n) [] = let e : 2 * suc n ≡ suc (suc (2 * n)) = omega arith in rw e
pairs_at-take (suc n) (x ∷ []) =
    let e : 2 * suc n ≡ suc (suc (2 * n)) = omega arith in
    rw (e, take-nil {A = ℕ} (suc (2 * n)))
pairs_at-take (suc n) (x ∷ v ∷ s) =
    let e : 2 * suc n ≡ suc (suc (2 * n)) = omega arith in
    rw e (ap (λ (l : List Pair). pair x v ∷ l) (pairs_at-take n s))

-- ---- pieces
-- one after the other they are the first words
pub flat-pieces : (k n : ℕ) (s : List ℕ) → flat (pieces k n s) ≡ take (n * k) s
flat-pieces k zero s = let e : 0 * k ≡ 0 = omega arith in rw e
flat-pieces k (suc n) s =
    let e : suc n * k ≡ k + n * k = omega arith in
    ap (λ (l : List ℕ). take k s ++ l) (flat-pieces k n (drop k s)) ∙ sym (take-add k (n * k) s) ∙ ap (λ (m : ℕ). take m s) (sym e)

-- those that a store holds by a count
pub flat-held : (width n : ℕ) (s : List ℕ) → flat (pieces (width + width) n (take (words_of width n) s)) ≡ take (words_of width n) s
flat-held width n s = flat-pieces (width + width) n (take (words_of width n) s) ∙ take-take (words_of width n) (words_of width n) s (omega arith)
