-- What the call answers, by what the elimination of a copy of the words leaves. Assumes nothing.
use Prim.Native.Nat.{ℕ, ◌-◌, ◌*◌, ◌≤◌, ◌<◌}
use mathlib.Core.Path.{◌≡◌, refl, sym, ap, ◌∙◌}
use mathlib.Core.Bool.{Bool, true, false}
use mathlib.Core.List.{List, ◌++◌}
use native.Mathlib.Omega.{arith}
use native.Mathlib.Nat.{mul-le-mul}
use borrow.Author.Tests.{le-leb, lt-leb, eq-eqb, ne_eqb}
use lib.ListN.{length, take, drop, length-append}
use lib.Seq.{take_at}
use Rattle.limits.specs.Numbers.{max_width}
use Rattle.words.specs.Pieces.{flat}
use Rattle.words.specs.Store.{fit_words}
use Rattle.permute.specs.Parameters.{rows_of}
use Rattle.permute.proofs.Keeps.{rows_of-length}
use Rattle.permute.proofs.Parameters.{never}
use Rattle.permute.proofs.Words.{put-over}
use Rattle.matrix_inverse.specs.Inverse.{Inverse, inverse, none, eliminate, invert_matrix, is_found}
use Rattle.matrix_inverse.specs.Words.{is_regular, words_or, inverted_words, Eliminated}
use Rattle.matrix_inverse.proofs.Places.{held-lent, flat_rows}

-- a matrix has at most 576 words
pub square-small : (w : ℕ) → w ≤ max_width → w * w ≤ 576
square-small w h = mul-le-mul {n₁ = w} {m₁ = w} {n₂ = 24} {m₂ = 24} h h

-- an elimination that says no has found nothing
none_left : (w : ℕ) (words : List ℕ) (says : Bool) (last : List ℕ) (n : Inverse) → Eliminated w n says last → says ≡ false
    → (is_found n ≡ false) × (words_or words n ≡ words)
none_left w words says last (inverse n) e f = absurd (never says f e.0)
none_left w words says last none e f = (refl, refl)

-- one that says yes has left the inverse's words
some_left : (w : ℕ) (words : List ℕ) (says : Bool) (last : List ℕ) → length last ≡ w * w → (n : Inverse) → Eliminated w n says last
    → says ≡ true → (is_found n ≡ true) × (words_or words n ≡ last)
some_left w words says last l (inverse n) e t = (refl, ap flat (sym e.1) ∙ flat_rows w w last l)
some_left w words says last l none e t = absurd (never says e t)

module _ (w : ℕ) (words : List ℕ) where
  -- ---- no matrix
  -- too wide
  pub too_wide : max_width < w → (false ≡ is_regular w words) × (words ≡ inverted_words w words)
  unfolding is_regular inverted_words
  too_wide h = rw (lt-leb w max_width h) (refl, refl)

  -- as wide as a matrix may be, but not as many words
  pub wrong_size : w ≤ max_width → (length words ≡ w * w → ⊥) → (false ≡ is_regular w words) × (words ≡ inverted_words w words)
  unfolding is_regular inverted_words
  wrong_size h n = rw (le-leb w max_width h, ne_eqb (length words) (w * w) n) (refl, refl)

  -- ---- a matrix
  module _ (h : w ≤ max_width) (l : length words ≡ w * w) where
    -- what is answered is what is found
    pub regular-is : is_regular w words ≡ is_found (invert_matrix (rows_of w w words))
    unfolding is_regular
    regular-is = rw (le-leb w max_width h, eq-eqb (length words) (w * w) l)

    -- and the words are its words
    pub inverted-is : inverted_words w words ≡ words_or words (invert_matrix (rows_of w w words))
    unfolding inverted_words
    inverted-is = rw (le-leb w max_width h, eq-eqb (length words) (w * w) l)

    -- ---- a copy of the words, put into room for it
    module _ (room work : List ℕ) (r : 576 ≤ length room) (e : work ≡ fit_words 0 words room) where
      -- as it is lent it's the words
      copied : take (w * w - 0) work ≡ words
      copied = rw e (held-lent words room (w * w) l (omega (arith, square-small w h)))

      -- what an elimination leaves in its place
      module _ (last : List ℕ) (k : length last ≡ length (take (w * w - 0) work)) where
        -- it has as many words
        last-long : length last ≡ w * w
        last-long = k ∙ ap length copied ∙ l

        -- and lies within the room
        pub left-room : w * w ≤ length (last ++ drop (w * w - 0) work)
        left-room = simp length-append (omega (arith, last-long))

        module _ (says : Bool) (m : Eliminated w (eliminate (w - 0) 0 (rows_of w w (take (w * w - 0) work))) says last) where
          -- it's the elimination of the words themselves
          left : Eliminated w (invert_matrix (rows_of w w words)) says last
          left =
              let z : w - 0 ≡ length (rows_of w w words) = omega (arith, rows_of-length w w words) in
              rw (← z) (rw copied at m)

          -- it found nothing: the words stay as they are
          pub inverted-no : says ≡ false → (false ≡ is_regular w words) × (words ≡ inverted_words w words)
          inverted-no f =
              let g = none_left w words says last (invert_matrix (rows_of w w words)) left f in
              (sym (regular-is ∙ g.0), sym (inverted-is ∙ g.1))

          -- it found an inverse, whose words are put there
          pub inverted-yes : says ≡ true → (out : List ℕ) → out ≡ fit_words 0 (take (w * w - 0) (last ++ drop (w * w - 0) work)) words
              → (true ≡ is_regular w words) × (out ≡ inverted_words w words)
          inverted-yes t out o =
              let g = some_left w words says last last-long (invert_matrix (rows_of w w words)) left t in
              let z : w * w - 0 ≡ w * w = omega arith in
              let p : take (w * w - 0) (last ++ drop (w * w - 0) work) ≡ last
              = rw z (take_at last (drop (w * w) work) (w * w) last-long) in
              let q : out ≡ last = o ∙ ap (λ (t : List ℕ). fit_words 0 t words) p ∙ put-over last words (last-long ∙ sym l) in
              (sym (regular-is ∙ g.0), q ∙ sym (inverted-is ∙ g.1))
