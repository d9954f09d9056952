-- Words moved down by n places: they agree with the store that leaves n out, and what is behind them is as it was.
-- Assumes nothing.
use Prim.Native.Nat.{ℕ, ◌+◌, ◌-◌, ◌≤◌, ◌<◌}
use mathlib.Core.Path.{◌≡◌, refl, sym, ap, ap₂, ◌∙◌}
use mathlib.Core.Bool.{Bool, true, false, ◌&&◌}
use mathlib.Core.List.{List, ◌++◌, append_assoc}
use native.Mathlib.Omega.{arith}
use borrow.Author.Tests.{le-leb, lt-leb}
use lib.Dec.{leb}
use lib.ListN.{length, take, drop, replicate, length-append, length-drop, length-take, length-replicate, take-append-drop}
use lib.Seq.{drop-drop, take_at, length_paste_head, take-paste, drop-paste}
use Rattle.std.specs.List.{copy_within}
use Rattle.limits.specs.Questions.{pick}
use Rattle.strike.specs.Strike.{struck_words, fit_struck}

-- ---- by its cases
module _ (at n end : ℕ) (s : List ℕ) where
  by-false : (b : Bool) → b ≡ false → s ≡ pick b (struck_words at n end s) s
  by-false b e = rw e

  pub struck-short : length s < end → s ≡ fit_struck at n end s
  unfolding fit_struck
  struck-short h = by-false (leb (at + n) end && leb end (length s)) (go (leb (at + n) end))
    where
      go : (b : Bool) → (b && leb end (length s)) ≡ false
      go true = lt-leb end (length s) h
      go false = refl

  pub struck-none : end < at + n → s ≡ fit_struck at n end s
  unfolding fit_struck
  struck-none h = by-false (leb (at + n) end && leb end (length s)) (rw (lt-leb (at + n) end h))

  pub struck-is : at + n ≤ end → end ≤ length s → fit_struck at n end s ≡ struck_words at n end s
  unfolding fit_struck
  struck-is h k = simp (le-leb (at + n) end h, le-leb end (length s) k)

-- ---- by the two calls: words moved down, then zeros in the freed places
module _ (at n end : ℕ) (s : List ℕ) (h : at + n ≤ end) (k : end ≤ length s) where
  abbrev pub moved : List ℕ
  moved = copy_within s (at + n) end at

  pub moved-struck : take (end - n) moved ++ (replicate n 0 ++ drop (end - n + n) moved) ≡ fit_struck at n end s
  moved-struck =
      let r = drop (at + n) s in
      let m = end - (at + n) in
      let p : at + m ≡ end - n = omega arith in
      let z : end - n + n ≡ at + m + n = omega arith in
      let f : at + m + n ≡ end = omega arith in
      let l : m ≤ length r = simp length-drop (omega arith) in
      let head : take (end - n) moved ≡ take at s ++ take m r = rw (← p) (take-paste s at r m (omega arith) l) in
      let same : take (end - n) (take at s ++ r) ≡ take at s ++ take m r =
      ap (λ (t : List ℕ). take (end - n) (take at s ++ t)) (sym (take-append-drop m r))
      ∙ ap (take (end - n)) (sym (append_assoc (take at s) (take m r) (drop m r)))
      ∙ take_at (take at s ++ take m r) (drop m r) (end - n) (length_paste_head s at r m (omega arith) l ∙ p) in
      let rest : drop (end - n + n) moved ≡ drop end s =
      ap (λ (j : ℕ). drop j moved) z
      ∙ sym (drop-drop n (at + m) moved)
      ∙ ap (drop n) (drop-paste s at r m (omega arith) l)
      ∙ drop-drop n (at + m) s
      ∙ ap (λ (j : ℕ). drop j s) f in
      ap₂ (λ (u v : List ℕ). u ++ (replicate n 0 ++ v)) (head ∙ sym same) rest ∙ sym (struck-is at n end s h k)

-- ---- the length stays
pub struck-size : (at n end : ℕ) (s : List ℕ) → at + n ≤ end → end ≤ length s → length (struck_words at n end s) ≡ length s
struck-size at n end s h k = simp (length-append, length-take, length-drop, length-replicate) (omega arith)
