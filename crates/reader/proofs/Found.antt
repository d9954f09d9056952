-- The part at a place: each answer by facts on numbers, for the code's returns; and what a part that was
-- answered tells of the bytes, for those who call.
-- Assumes nothing.
use Prim.Native.Nat.{ℕ, ◌+◌, ◌-◌, ◌≤◌, ◌<◌}
use mathlib.Core.Path.{◌≡◌, refl, sym, ap, ◌∙◌}
use mathlib.Core.Bool.{Bool, true, false}
use mathlib.Core.List.{List, []}
use native.Mathlib.Omega.{arith}
use native.Mathlib.Nat.{add-sub_cancel_left}
use borrow.Author.Tests.{le-leb, lt-leb, leb-true, leb-false}
use lib.Dec.{leb}
use lib.ListN.{length, take, drop, get_or, length-drop}
use lib.Seq.{length-take-le, get_or-take, get_or-drop}
use Rattle.limits.specs.Questions.{pick}
use Rattle.narg.specs.Reader.{got, stop, part}
use Rattle.narg.proofs.Fields.{part-long as long}
use Rattle.reader.specs.At.{bytes_of, part_at, place_at}

module _ (s : List ℕ) (at n : ℕ) where
  pub part_at-none : length s < at + n → [] ≡ part_at s at n
  unfolding part_at part
  part_at-none h = go (leb n (length (drop at s))) refl
    where
      go : (b : Bool) → leb n (length (drop at s)) ≡ b → [] ≡ bytes_of (pick b (got (take n (drop at s)) (drop n (drop at s))) (stop 20))
      go true t =
          let l = length-drop at s in
          let z : n ≡ 0 = omega (arith, leb-true n (length (drop at s)) t) in
          rw z
      go false t = refl

  pub part_at-some : at + n ≤ length s → take n (drop at s) ≡ part_at s at n
  unfolding part_at
  part_at-some h = let l = length-drop at s in rw (long n (drop at s) (omega arith))

  pub place_at-none : (p : ℕ × ℕ) → length s < at + n → p ≡ place_at s at n p
  unfolding place_at
  place_at-none p h = simp (lt-leb (at + n) (length s) h)

  pub place_at-some : (p : ℕ × ℕ) → at + n ≤ length s → (p.0, at + p.1) ≡ place_at s at n p
  unfolding place_at
  place_at-some p h = simp (le-leb (at + n) (length s) h)

  -- the part as the code cuts it: from the place to the end
  pub part_at-cut : at + n ≤ length s → take ((at + n) - at) (drop at s) ≡ part_at s at n
  part_at-cut h = ap (λ (k : ℕ). take k (drop at s)) (add-sub_cancel_left at n) ∙ part_at-some h

  -- for those who call: what the length of a part tells of the bytes, and what its bytes are
  module _ (m : List ℕ) (e : m ≡ part_at s at n) where
    pub part-short : length m < n → length s < at + n
    part-short h = go (leb (at + n) (length s)) refl
      where
        go : (b : Bool) → leb (at + n) (length s) ≡ b → length s < at + n
        go true t =
            let k = leb-true (at + n) (length s) t in
            let l = length-drop at s in
            let z : length m ≡ n = ap (λ (x : List ℕ). length x) (e ∙ sym (part_at-some k)) ∙ length-take-le n (drop at s) (omega arith) in
            absurd (omega arith)
        go false t = leb-false (at + n) (length s) t

    pub part-long : 0 < n → n ≤ length m → at + n ≤ length s
    part-long p h = go (leb (at + n) (length s)) refl
      where
        go : (b : Bool) → leb (at + n) (length s) ≡ b → at + n ≤ length s
        go true t = leb-true (at + n) (length s) t
        go false t =
            let z : length m ≡ 0 = ap (λ (x : List ℕ). length x) (e ∙ sym (part_at-none (leb-false (at + n) (length s) t))) in
            absurd (omega arith)

    pub part-get_or : at + n ≤ length s → (i : ℕ) → i < n → get_or m i 0 ≡ get_or s (at + i) 0
    part-get_or h i k = ap (λ (x : List ℕ). get_or x i 0) (e ∙ sym (part_at-some h)) ∙ get_or-take n (drop at s) i 0 k ∙ get_or-drop at s i 0
