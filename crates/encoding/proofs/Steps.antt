-- Steps written: they are the header, the count and the held words, and a write that nothing says no to has room
-- for them. Assumes nothing.
use Prim.Native.Nat.{ℕ, ◌+◌, ◌*◌, ◌≤◌}
use mathlib.Core.Path.{◌≡◌, sym, ap, ap₂, ◌∙◌}
use mathlib.Core.List.{List, [], ◌∷◌, ◌++◌}
use native.Mathlib.Omega.{arith}
use borrow.Author.Tests.{leb-true}
use lib.Dec.{leb}
use lib.ListN.{length, take, length-append}
use Rattle.limits.specs.Questions.{ask, Question, question, first_no}
use Rattle.limits.proofs.Questions.{both, ▸-zero, first_no-append, accepted-says}
use Rattle.words.specs.Pieces.{words_of, pieces}
use Rattle.narg.specs.Bytes.{u32_bytes}
use Rattle.narg.specs.Reader.{each}
use Rattle.instance.proofs.Parts.{flat-held}
use Rattle.header.specs.Form.{letter_w, version, header_bytes}
use Rattle.encoding.specs.Form.{witness_fixed, witness_bytes}
use Rattle.encoding.specs.Answers.{witness_to_bytes, steps_asks, witness_to_bytes_no}
use Rattle.encoding.specs.Put.{list_bytes}
use Rattle.encoding.proofs.Length.{length-header, length-list_bytes, pieces-bytes}
use Rattle.encoding.proofs.Stored.{asks-stay, asks-go, length-pieces}

module _ (width steps : ℕ) (trace : List ℕ) where
  abbrev held_steps : List ℕ
  held_steps = take (words_of width steps) trace

  pub witness_to_bytes-held : witness_to_bytes width steps trace ≡ header_bytes letter_w version width ++ list_bytes steps held_steps
  unfolding witness_bytes
  witness_to_bytes-held =
      let ps = pieces (width + width) steps held_steps in
      ap₂ (λ (n : ℕ) (l : List ℕ). header_bytes letter_w version width ++ (u32_bytes n ++ l))
      (length-pieces (width + width) steps held_steps)
      (pieces-bytes ps ∙ ap (each u32_bytes) (flat-held width steps trace))

  pub witness_to_bytes-length : length (witness_to_bytes width steps trace) ≡ witness_fixed + 4 * length held_steps
  witness_to_bytes-length =
      let h = length-header letter_w version width in
      let l = length-list_bytes steps held_steps in
      ap length witness_to_bytes-held ∙ length-append (header_bytes letter_w version width) (list_bytes steps held_steps) ∙ omega arith

  -- 10, by the held words
  abbrev room_ask : ℕ → List Question
  room_ask room = question 10 (leb (length (witness_to_bytes width steps trace)) room) ∷ []

  module _ (room no : ℕ) (e : no ≡ first_no (steps_asks width steps trace)) where
    pub witness_to_bytes-first : (no ≡ 0 → ⊥) → no ≡ witness_to_bytes_no width steps trace room
    unfolding witness_to_bytes_no
    witness_to_bytes-first h = asks-stay (steps_asks width steps trace) (room_ask room) no e h

    pub witness_to_bytes-then : no ≡ 0 → (r : ℕ) → r ≡ ask 10 (leb (witness_fixed + 4 * length held_steps) room)
        → r ≡ witness_to_bytes_no width steps trace room
    unfolding witness_to_bytes_no
    witness_to_bytes-then z r f =
        asks-go (steps_asks width steps trace) (room_ask room) no e z r
        (f ∙ ap (λ (n : ℕ). ask 10 (leb n room)) (sym witness_to_bytes-length) ∙ sym (▸-zero _))

  -- an accepted write: the output holds the bytes
  pub witness_to_bytes-yes : (room : ℕ) → witness_to_bytes_no width steps trace room ≡ 0 → witness_fixed + 4 * length held_steps ≤ room
  unfolding witness_to_bytes_no
  witness_to_bytes-yes room e =
      let z = both _ _ (sym (first_no-append (steps_asks width steps trace) (room_ask room)) ∙ e) in
      let a = leb-true (length (witness_to_bytes width steps trace)) room (accepted-says (room_ask room) tt z.1 0) in
      let l = witness_to_bytes-length in
      omega arith
