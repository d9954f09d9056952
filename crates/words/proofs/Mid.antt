-- A part of a store, lent and filled with one value. Assumes nothing.
use Prim.Native.Nat.{ℕ, ◌+◌, ◌-◌, ◌≤◌}
use mathlib.Core.Path.{◌≡◌, ap, ◌∙◌}
use mathlib.Core.List.{List, ◌++◌}
use native.Mathlib.Nat.{add-sub_cancel_left}
use native.Mathlib.Omega.{arith}
use lib.ListN.{length, take, drop, replicate}
use borrow.Rule.Slice.PartMut.{mid_of, put_mid, mid_len, Post-is}

pub fill-mid : (at n v : ℕ) (s ys : List ℕ) → at + n ≤ length s → ys ≡ replicate (length (mid_of at ((at + n) - at) s)) v
    → put_mid at ((at + n) - at) s ys ≡ take at s ++ (replicate n v ++ drop (at + n) s)
fill-mid at n v s ys h e =
    ap (λ (l : List ℕ). put_mid at ((at + n) - at) s l) (e ∙ ap (λ (k : ℕ). replicate k v) (mid_len at (at + n) s h ∙ add-sub_cancel_left at n))
    ∙ ap (λ (l : List ℕ). take at s ++ (replicate n v ++ l)) (Post-is at (at + n) s (omega arith))
