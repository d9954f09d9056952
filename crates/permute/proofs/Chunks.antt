-- A turn of a loop over chunks of words: a chunk comes off the front of the words left. Assumes nothing.
use Prim.Native.Nat.{ℕ, zero, suc, ◌+◌, ◌*◌, ◌≤◌, ◌<◌}
use mathlib.Core.Path.{◌≡◌, refl, sym, ap, ◌∙◌}
use mathlib.Core.Bool.{true}
use mathlib.Core.List.{List, [], ◌∷◌, ◌++◌}
use native.Mathlib.Omega.{arith}
use native.Mathlib.Nat.{suc-mul}
use denote.Ref.{Bor}
use lib.ListN.{length, length-append}
use lib.Seq.{take_at, drop_at}
use Rattle.std.specs.declared.iter.Take.{Take}
use Rattle.std.specs.declared.slice.ChunksExact.{ChunksExact}
use Rattle.std.specs.Iterator.{Yields}
use Rattle.std.specs.Iterator.Adapters.{take_source, take_steps}
use Rattle.std.specs.Slice.Iter.{chunks_exact_size, chunks_exact_steps}
use Rattle.limits.specs.Numbers.{prime}
use Rattle.limits.proofs.Below.{below-take, below-drop}
use Rattle.baby_bear.specs.Field.{are_units}

-- the first of n chunks of that size, and the n' that come after it
pub record Chunk (size n : ℕ) (left chunk : List ℕ) (n' : ℕ) (left' : List ℕ) : Type 0 where
  pub parts : left ≡ chunk ++ left'
  pub long : length chunk ≡ size
  pub count : n' + 1 ≡ n

-- room for the others too
pub chunk-room : {size n n' : ℕ} {left chunk left' : List ℕ} → Chunk size n left chunk n' left' → n * size ≤ length left → n' * size ≤ length left'
chunk-room {size} {n} {n'} {left} {chunk} {left'} c h =
    let e : n ≡ suc n' = omega (arith, c.count) in
    omega (arith, rw e at h, suc-mul n' size, ap length c.parts, length-append chunk left', c.long)

pub chunk-units : {size n n' : ℕ} {left chunk left' : List ℕ} → Chunk size n left chunk n' left' → are_units left ≡ true
    → (are_units chunk ≡ true) × (are_units left' ≡ true)
chunk-units {size} {n} {n'} {left} {chunk} {left'} c u =
    let v = sym (ap are_units c.parts) ∙ u in (
      rw (take_at chunk left' size c.long) at (below-take prime size (chunk ++ left') v),
      rw (drop_at chunk left' size c.long) at (below-drop prime size (chunk ++ left') v),
    )

-- none is left where the words left have no room for one
pub no-chunk : (size n len : ℕ) → n * size ≤ len → (0 < n → len < size) → n ≡ 0
no-chunk size zero len h f = refl
no-chunk size (suc n) len h f = absurd (omega (arith, suc-mul n size, f (omega arith)))

-- turns change nothing of the size
pub size_stays : (xs : List (Bor (List ℕ))) (s t : Take (ChunksExact ℕ)) → Yields (take_steps chunks_exact_steps) s xs t
    → chunks_exact_size (take_source t) ≡ chunks_exact_size (take_source s)
size_stays [] s t y = ap (λ u. chunks_exact_size (take_source u)) (sym y)
size_stays (x ∷ xs) s t y = size_stays xs y.0 t y.2 ∙ y.1.0.0
