-- A call that counts a query's cells: its number in two parts, what is asked before the counts, and 11 and 10, which are
-- asked of them. Assumes nothing.
use Prim.Native.Nat.{ℕ}
use mathlib.Core.Path.{◌≡◌, refl, sym, ap, ◌∙◌}
use mathlib.Core.Bool.{false}
use mathlib.Core.List.{List, ◌++◌, append_assoc}
use lib.ListN.{length}
use Rattle.std.specs.Prelude.{Err}
use Rattle.limits.specs.Outcome.{Outcome, as_is}
use Rattle.limits.specs.declared.Refused.{Refused}
use Rattle.limits.proofs.Answered.{store-refused}
use Rattle.permutation.specs.Records.{First, recorded, allocated}
use Rattle.permutation.proofs.Answered.{recorded-refused, allocated-refused}
use Rattle.recording.specs.Effects.{AddsPermutation, AllocatesPermutation}
use Rattle.limits.specs.Questions.{◌▸◌, Question, first_no}
use Rattle.limits.proofs.Questions.{goes_on, stays, zero-▸, first_no-append}
use Rattle.uses.specs.Uses.{uses_asks}
use Rattle.allocator.specs.Slots.{room_asks}
use Rattle.permutation.specs.Sharing.{alone}
use Rattle.permutation.specs.declared.PermutationRelation.{PermutationRelation}
use Rattle.recording.specs.Relation.{query_room, add_permutation_front, record_asks, join_asks, allocate_permutation_front, mint_cells}
use Rattle.recording.specs.Numbers.{add_permutation_no, allocate_permutation_no}

-- ---- the number of a call whose questions end with those of the counts
module _ (front middle : List Question) (rel : PermutationRelation) (slots len : ℕ) (uses cells : List ℕ) (no k : ℕ)
    (n : no ≡ first_no (front ++ (middle ++ join_asks rel slots len uses cells))) (e : k ≡ first_no (front ++ middle)) where
  abbrev last : List Question
  last = join_asks rel slots len uses cells

  parts : no ≡ k ▸ first_no last
  parts =
      n
      ∙ ap first_no (sym (append_assoc front middle last))
      ∙ first_no-append (front ++ middle) last
      ∙ ap (λ (m : ℕ). m ▸ first_no last) (sym e)

  -- where a question before them says no
  early : (k ≡ 0 → ⊥) → k ≡ no
  early h = sym (parts ∙ stays k (first_no last) h)

  -- where none does, the number is that of the counts and the queries' room
  late : k ≡ 0 → (room tally : ℕ) → room ≡ 0 ▸ first_no (query_room rel len)
      → tally ≡ first_no (uses_asks false slots uses rel.stray cells) ▸ room → tally ≡ no
  late z room tally r t =
      t
      ∙ ap (λ (m : ℕ). first_no (uses_asks false slots uses rel.stray cells) ▸ m) (r ∙ zero-▸ (first_no (query_room rel len)))
      ∙ sym (first_no-append (uses_asks false slots uses rel.stray cells) (query_room rel len))
      ∙ sym (parts ∙ goes_on k (first_no last) z)

-- ---- record
module _ (rel : PermutationRelation) (slots len : ℕ) (uses input output : List ℕ) (k : ℕ)
    (e : k ≡ first_no (add_permutation_front alone rel slots len (length uses) input output ++ record_asks rel input output)) where
  pub record-early : (k ≡ 0 → ⊥) → k ≡ add_permutation_no rel slots len uses input output
  unfolding add_permutation_no
  record-early =
      early (add_permutation_front alone rel slots len (length uses) input output) (record_asks rel input output) rel slots len uses (input ++ output)
      (add_permutation_no rel slots len uses input output) k refl e

  pub record-late : k ≡ 0 → (room tally : ℕ) → room ≡ 0 ▸ first_no (query_room rel len)
      → tally ≡ first_no (uses_asks false slots uses rel.stray (input ++ output)) ▸ room
      → tally ≡ add_permutation_no rel slots len uses input output
  unfolding add_permutation_no
  record-late =
      late (add_permutation_front alone rel slots len (length uses) input output) (record_asks rel input output) rel slots len uses (input ++ output)
      (add_permutation_no rel slots len uses input output) k refl e

-- ---- mint
module _ (rel : PermutationRelation) (slots len : ℕ) (uses input : List ℕ) (k : ℕ)
    (e : k ≡ first_no (allocate_permutation_front alone rel slots len (length uses) input ++ room_asks rel.vars slots rel.width)) where
  pub mint-early : (k ≡ 0 → ⊥) → k ≡ allocate_permutation_no rel slots len uses input
  unfolding allocate_permutation_no
  mint-early =
      early (allocate_permutation_front alone rel slots len (length uses) input) (room_asks rel.vars slots rel.width) rel slots len uses
      (mint_cells rel input) (allocate_permutation_no rel slots len uses input) k refl e

  pub mint-late : k ≡ 0 → (room tally : ℕ) → room ≡ 0 ▸ first_no (query_room rel len)
      → tally ≡ first_no (uses_asks false slots uses rel.stray (mint_cells rel input)) ▸ room
      → tally ≡ allocate_permutation_no rel slots len uses input
  unfolding allocate_permutation_no
  mint-late =
      late (allocate_permutation_front alone rel slots len (length uses) input) (room_asks rel.vars slots rel.width) rel slots len uses
      (mint_cells rel input) (allocate_permutation_no rel slots len uses input) k refl e

-- ---- counted, and refused
-- the number of a call whose questions before the counts say yes, with what the counts and the room answer
module _ (rel : PermutationRelation) (slots len : ℕ) (uses input output : List ℕ)
    (z : first_no (add_permutation_front alone rel slots len (length uses) input output ++ record_asks rel input output) ≡ 0) where
  pub record-counted : first_no (uses_asks false slots uses rel.stray (input ++ output)) ▸ first_no (query_room rel len)
      ≡ add_permutation_no rel slots len uses input output
  record-counted = record-late rel slots len uses input output 0 (sym z) refl _ _ (sym (zero-▸ _)) refl

module _ (rel : PermutationRelation) (slots len : ℕ) (uses input : List ℕ)
    (z : first_no (allocate_permutation_front alone rel slots len (length uses) input ++ room_asks rel.vars slots rel.width) ≡ 0) where
  pub mint-counted : first_no (uses_asks false slots uses rel.stray (mint_cells rel input)) ▸ first_no (query_room rel len)
      ≡ allocate_permutation_no rel slots len uses input
  mint-counted = mint-late rel slots len uses input 0 (sym z) refl _ _ (sym (zero-▸ _)) refl

-- e: what was answered; everything stays
pub record-refused : (rel : PermutationRelation) (slots queries uses input output : List ℕ) {o : Outcome} {e : Refused} → o ≡ Err e
    → e.0 ≡ add_permutation_no rel (length slots) (length queries) uses input output → (e.0 ≡ 0 → ⊥)
    → AddsPermutation as_is rel slots queries uses input output (recorded o rel) queries uses
record-refused rel slots queries uses input output {e = e} is n h = record {
  answer = ap (λ (o : Outcome). recorded o rel) is ∙ recorded-refused _ e.0 n _ rel h;
  queries = store-refused _ e.0 n _ queries h;
  uses = store-refused _ e.0 n _ uses h;
}

pub mint-refused : (rel : PermutationRelation) (slots queries uses input : List ℕ) {o : First} {e : Refused} → o ≡ Err e
    → e.0 ≡ allocate_permutation_no rel (length slots) (length queries) uses input → (e.0 ≡ 0 → ⊥)
    → AllocatesPermutation as_is rel slots queries uses input (allocated o rel) slots queries uses
mint-refused rel slots queries uses input {e = e} is n h = record {
  answer = ap (λ (o : First). allocated o rel) is ∙ allocated-refused _ e.0 n _ rel _ h;
  slots = store-refused _ e.0 n _ slots h;
  queries = store-refused _ e.0 n _ queries h;
  uses = store-refused _ e.0 n _ uses h;
}
