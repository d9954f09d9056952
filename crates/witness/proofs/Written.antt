-- Inputs copied into the room for an evaluation. Assumes nothing.
use Prim.Native.Nat.{ℕ, ◌+◌}
use mathlib.Core.Path.{◌≡◌, ap, ◌∙◌}
use mathlib.Core.List.{List, ◌++◌, append-nil}
use native.Mathlib.Omega.{arith}
use lib.ListN.{length, drop_of_length-le}
use Rattle.words.specs.Store.{fit_words}
use Rattle.words.proofs.Written.{fit-put}

-- as many words put at the beginning are all of them
pub copied : (words room : List ℕ) → length room ≡ length words → fit_words 0 words room ≡ words
copied words room l =
    fit-put 0 words room (omega arith)
    ∙ ap (λ (r : List ℕ). words ++ r) (drop_of_length-le room {i = 0 + length words} (omega arith))
    ∙ append-nil words
