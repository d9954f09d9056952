-- A witness read: the ends of reading it, what is answered, and what is left of the trace. Assumes nothing.
use Prim.Native.Nat.{ℕ, ◌≤◌, ◌<◌}
use mathlib.Core.Path.{◌≡◌, refl, sym, ap, ◌∙◌, subst}
use mathlib.Core.List.{List}
use lib.ListN.{length, drop, replicate}
use Rattle.std.specs.Prelude.{true, false, Result, Err, Ok, is_err}
use Rattle.limits.specs.declared.Refused.{Refused}
use Rattle.limits.specs.Numbers.{prime}
use Rattle.limits.specs.Questions.{first_no}
use Rattle.words.specs.Pieces.{flat}
use Rattle.narg.specs.Reader.{Got, got, stop}
use Rattle.narg.specs.declared.Cursor.{Cursor}
use Rattle.header.specs.Form.{letter_w, version}
use Rattle.header.specs.Read.{read_header}
use Rattle.header.specs.declared.Field.{Field}
use Rattle.items.specs.Answers.{padded, pieces_asks, pieces_got, ListReads}
use Rattle.items.proofs.Ends.{pieces_end}
use Rattle.items.proofs.Lists.{ListGot, after-no, after-yes}
use Rattle.decoding.specs.Read.{read_steps, read_witness}
use Rattle.decoding.specs.Answers.{witness_from_bytes, witness_answer, trace_after}
use Rattle.decoding.specs.Records.{told_steps}
use Rattle.decoding.specs.Given.{StepsLeft, steps_here, steps_answer, StepsTold}
use Rattle.decoding.proofs.Files.{ended-left, ended-yes}

-- ---- 1 and 2 first
module _ (width : ℕ) (s t : List ℕ) where
  pub asked-no : (no : ℕ) → no ≡ first_no (pieces_asks width (length t)) → (no ≡ 0 → ⊥) → witness_from_bytes width s (length t) ≡ stop no
  unfolding witness_from_bytes
  asked-no k a h = after-no (first_no (pieces_asks width (length t))) (steps_here width s t) k a h

  pub whole_is : first_no (pieces_asks width (length t)) ≡ 0 → witness_from_bytes width s (length t) ≡ steps_here width s t
  unfolding witness_from_bytes
  whole_is z = after-yes _ _ 0 (sym z) refl

-- ---- the ends of reading it
module _ (width : ℕ) (s t : List ℕ) (yes : first_no (pieces_asks width (length t)) ≡ 0) where
  abbrev here : Got (List (List ℕ))
  here = steps_here width s t

  pub header-no : (k : ℕ) → read_header letter_w version width s ≡ stop k → here ≡ stop k
  unfolding read_witness
  header-no k e = rw e

  module _ (c : Cursor) (eh : read_header letter_w version width s ≡ got tt (drop c.at s)) where
    abbrev steps : Got (List (List ℕ))
    steps = pieces_got prime 4 width (length t) s c.at

    steps-at : steps ≡ read_steps width (length t) (drop c.at s)
    unfolding pieces_got read_steps
    steps-at = after-yes _ _ 0 (sym yes) refl

    pub steps-no : (k : ℕ) → steps ≡ stop k → here ≡ stop k
    unfolding read_witness
    steps-no k e = rw (eh, sym steps-at ∙ e)

    module _ (t' : List ℕ) (r : Result Field Refused) (l : ListReads flat steps c.at t t' r) (n words : ℕ) (end : Cursor) (g : ListGot flat steps c.at t t' r l n words end) where
      after-steps : read_steps width (length t) (drop c.at s) ≡ got g.items (drop end.at s)
      unfolding read_steps
      after-steps =
          let f = sym steps-at ∙ g.reads in
          f ∙ ap (λ (x : List ℕ). got g.items x) (pieces_end (length t) s c.at prime 4 width g.items g.rest f ∙ ap (λ (m : ℕ). drop m s) (sym g.past))

      pub steps-left : end.at < length s → here ≡ stop 28
      unfolding read_witness
      steps-left h = rw (eh, after-steps) (ended-left s end.at g.items h)

      pub steps-told : length s ≤ end.at → StepsTold width s t t' (Ok n)
      unfolding read_witness StepsLeft
      steps-told h =
          let f : here ≡ got g.items (drop end.at s) = rw (eh, after-steps) (ended-yes s end.at g.items h) in
          let w = whole_is width s t yes ∙ f in
          record {
            answer = ap (λ (m : ℕ). Ok m) g.count ∙ sym (ap steps_answer w);
            left = rw w g.stored;
          }

-- a refusal
pub told-no : (width : ℕ) (s t t' : List ℕ) (r : Result ℕ Refused) (why : Refused) → r ≡ Err why → witness_from_bytes width s (length t) ≡ stop why.0 → StepsTold width s t t' r
unfolding StepsLeft
told-no width s t t' r why i x = record { answer = i ∙ sym (ap steps_answer x); left = rw x tt }

-- ---- the open read: the trace becomes 0 where it refuses
told-answer : (g : Got (List (List ℕ))) → told_steps (steps_answer g) ≡ witness_answer g
told-answer (got xs rest) = refl
told-answer (stop k) = refl

module _ (width : ℕ) (s t t₁ : List ℕ) (r : Result ℕ Refused) (h : StepsTold width s t t₁ r) where
  abbrev whole : Got (List (List ℕ))
  whole = witness_from_bytes width s (length t)

  answered : told_steps r ≡ witness_answer whole
  answered = ap told_steps h.answer ∙ told-answer whole

  -- is it refused?
  told-err : (y : Got (List (List ℕ))) → whole ≡ y → is_err r ≡ is_err (steps_answer y)
  told-err y f = ap is_err (h.answer ∙ ap steps_answer f)

  pub read_no : is_err r ≡ true → (t' : List ℕ) → t' ≡ replicate (length t) 0 → (told_steps r ≡ witness_answer whole) × (t' ≡ trace_after (length t) whole)
  read_no i t' z = go whole refl
    where
      go : (y : Got (List (List ℕ))) → whole ≡ y → (told_steps r ≡ witness_answer whole) × (t' ≡ trace_after (length t) whole)
      go (got xs rest) f = let w : true ≡ false = sym i ∙ told-err (got xs rest) f in cc
      go (stop j) f = (answered, rw f z)

  pub read-yes : is_err r ≡ false → (told_steps r ≡ witness_answer whole) × (t₁ ≡ trace_after (length t) whole)
  unfolding StepsLeft
  read-yes i = go whole refl
    where
      go : (y : Got (List (List ℕ))) → whole ≡ y → (told_steps r ≡ witness_answer whole) × (t₁ ≡ trace_after (length t) whole)
      go (got xs rest) f =
          let l : t₁ ≡ padded (length t) (flat xs) = subst (λ (x : Got (List (List ℕ))). StepsLeft x t t₁) f h.left in
          (answered, rw f l)
      go (stop j) f = let w : false ≡ true = sym i ∙ told-err (stop j) f in cc
