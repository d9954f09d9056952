-- Words that a store begins with: what was put at their end is there, and pieces of them are read again,
-- whatever lies behind. Assumes nothing.
use Prim.Native.Nat.{ℕ, ◌+◌, ◌*◌, ◌≤◌}
use mathlib.Core.Path.{◌≡◌, refl, sym, ap, ap₂, ◌∙◌}
use mathlib.Core.List.{List, [], ◌∷◌, ◌++◌, append_assoc, append-nil}
use native.Mathlib.Omega.{arith}
use lib.ListN.{length, drop, length-append}
use lib.Seq.{take_at, drop_at, take-append_seam, drop-append-add}
use Rattle.words.specs.Store.{put_words, fit_words, All, Begins}
use Rattle.words.specs.Pieces.{words_of, pieces, flat}
use Rattle.words.proofs.Pieces.{words_of-suc}
use Rattle.words.proofs.Written.{fit-fit}

-- ---- words put at the end of those that a store begins with
pub begins-put : (l words store : List ℕ) (at : ℕ) → at ≡ length l → Begins l store → Begins (l ++ words) (put_words at words store)
begins-put l words store at e b = record {
  rest = drop (length words) b.rest;
  is =
      ap₂ (λ (k : ℕ) (s : List ℕ). put_words k words s) e b.is
      ∙ ap₂ (λ (u v : List ℕ). u ++ (words ++ v)) (take-append_seam l b.rest) (drop-append-add l b.rest (length words))
      ∙ sym (append_assoc l words (drop (length words) b.rest));
}

pub begins-fits : (l store : List ℕ) → Begins l store → length l ≤ length store
begins-fits l store b = let e = ap length b.is ∙ length-append l b.rest in omega arith

-- ---- pieces of k words
pub flat-length : (k : ℕ) (qs : List (List ℕ)) → All (λ q. length q ≡ k) qs → length (flat qs) ≡ length qs * k
flat-length k [] a = omega arith
flat-length k (q ∷ qs) a =
    let e = flat-length k qs a.1 in
    let z = a.0 in
    length-append q (flat qs) ∙ omega arith

pub flat-snoc : (qs : List (List ℕ)) (q : List ℕ) → flat (qs ++ (q ∷ [])) ≡ flat qs ++ q
flat-snoc [] q = append-nil q
flat-snoc (p ∷ qs) q = ap (λ (l : List ℕ). p ++ l) (flat-snoc qs q) ∙ sym (append_assoc p (flat qs) q)

pub pieces-flat : (k : ℕ) (qs : List (List ℕ)) (r : List ℕ) → All (λ q. length q ≡ k) qs → pieces k (length qs) (flat qs ++ r) ≡ qs
pieces-flat k [] r a = refl
pieces-flat k (q ∷ qs) r a =
    rw (append_assoc q (flat qs) r, take_at q (flat qs ++ r) k a.0, drop_at q (flat qs ++ r) k a.0)
    (ap (λ (l : List (List ℕ)). q ∷ l) (pieces-flat k qs r a.1))

-- the pieces that a store begins with are read again
pub pieces-held : (k : ℕ) (qs : List (List ℕ)) (store : List ℕ) → All (λ q. length q ≡ k) qs → Begins (flat qs) store
    → pieces k (length qs) store ≡ qs
pieces-held k qs store a b = ap (λ (s : List ℕ). pieces k (length qs) s) b.is ∙ pieces-flat k qs b.rest a

-- two halves put one behind the other are a piece, behind n that are there
pub halves-put : (width n : ℕ) (first second store : List ℕ) → length first ≡ width → length second ≡ width
    → words_of width (n + 1) ≤ length store
    → fit_words (words_of width n + width) second (fit_words (words_of width n) first store) ≡ put_words (words_of width n) (first ++ second) store
halves-put width n first second store f s h =
    let more = words_of-suc width n in
    ap (λ (k : ℕ). fit_words (words_of width n + k) second (fit_words (words_of width n) first store)) (sym f)
    ∙ fit-fit (words_of width n) first second store (omega arith)

-- and one more is put at their end
pub pieces-put : (k : ℕ) (qs : List (List ℕ)) (q store : List ℕ) → All (λ p. length p ≡ k) qs → Begins (flat qs) store
    → Begins (flat (qs ++ (q ∷ []))) (put_words (length qs * k) q store)
pieces-put k qs q store a b =
    rw (flat-snoc qs q) (begins-put (flat qs) q store (length qs * k) (sym (flat-length k qs a)) b)
