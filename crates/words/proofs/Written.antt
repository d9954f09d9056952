-- Words put into a store that holds them: the length stays, and two lists put one behind the other are their
-- join put at once. Assumes nothing.
use Prim.Native.Nat.{ℕ, ◌+◌, ◌≤◌}
use mathlib.Core.Path.{◌≡◌, sym, ap, ap₂, ◌∙◌}
use mathlib.Core.List.{List, ◌++◌, append_assoc}
use native.Mathlib.Omega.{arith}
use borrow.Author.Tests.{le-leb}
use lib.ListN.{length, take, drop, length-append, length-drop}
use lib.Seq.{length-take-le, take_at, drop-append-add, drop-drop, sets, sets-eq}
use Rattle.words.specs.Store.{put_words, fit_words}

module _ (at : ℕ) (words s : List ℕ) (h : at + length words ≤ length s) where
  pub fit-put : fit_words at words s ≡ put_words at words s
  fit-put = simp (le-leb (at + length words) (length s) h)

  pub put-length : length (put_words at words s) ≡ length s
  put-length =
      let t : length (take at s) ≡ at = length-take-le at s (omega arith) in
      simp (length-append, length-drop) (omega arith)

  -- words stored one by one
  pub sets-put : sets s at words ≡ put_words at words s
  sets-put = sets-eq words s at h ∙ append_assoc (take at s) words (drop (at + length words) s)

module _ (at : ℕ) (a b s : List ℕ) (h : at + (length a + length b) ≤ length s) where
  head : take at s ++ (a ++ drop (at + length a) s) ≡ (take at s ++ a) ++ drop (at + length a) s
  head = sym (append_assoc (take at s) a (drop (at + length a) s))

  head-length : length (take at s ++ a) ≡ at + length a
  head-length =
      let t : length (take at s) ≡ at = length-take-le at s (omega arith) in
      length-append (take at s) a ∙ omega arith

  put-put : put_words (at + length a) b (put_words at a s) ≡ put_words at (a ++ b) s
  put-put =
      let t = take at s ++ a in
      let r = drop (at + length a) s in
      let l = length-append a b in
      let joined : at + length a + length b ≡ at + length (a ++ b) = omega arith in
      let back : drop (at + length a + length b) (t ++ r) ≡ drop (at + length (a ++ b)) s =
      ap (λ (n : ℕ). drop (n + length b) (t ++ r)) (sym head-length)
      ∙ drop-append-add t r (length b)
      ∙ drop-drop (length b) (at + length a) s
      ∙ ap (λ (n : ℕ). drop n s) joined in
      ap (put_words (at + length a) b) head
      ∙ ap₂ (λ (u v : List ℕ). u ++ (b ++ v)) (take_at t r (at + length a) head-length) back
      ∙ append_assoc (take at s) a (b ++ drop (at + length (a ++ b)) s)
      ∙ ap (λ (l : List ℕ). take at s ++ l) (sym (append_assoc a b (drop (at + length (a ++ b)) s)))

  pub fit-fit : fit_words (at + length a) b (fit_words at a s) ≡ put_words at (a ++ b) s
  fit-fit =
      let f : at + length a ≤ length s = omega arith in
      let n = put-length at a s f in
      ap (fit_words (at + length a) b) (fit-put at a s f)
      ∙ fit-put (at + length a) b (put_words at a s) (omega arith)
      ∙ put-put
