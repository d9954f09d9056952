-- Record and mint keep the length of every store. Assumes nothing.
use Prim.Native.Nat.{ℕ, ◌+◌, ◌≤◌}
use mathlib.Core.Path.{◌≡◌, ap₂, ◌∙◌}
use mathlib.Core.Bool.{false}
use mathlib.Core.List.{List, ◌++◌}
use native.Mathlib.Omega.{arith}
use lib.ListN.{length, length-append}
use Rattle.limits.proofs.Questions.{on_yes-length}
use Rattle.words.specs.Pieces.{words_of}
use Rattle.words.proofs.Pieces.{words_of-suc}
use Rattle.words.proofs.Written.{put-length}
use Rattle.uses.specs.Uses.{uses_after}
use Rattle.uses.proofs.Counts.{after-length}
use Rattle.allocator.specs.Slots.{grown_slots}
use Rattle.permutation.specs.declared.PermutationRelation.{PermutationRelation}
use Rattle.permutation.proofs.Slots.{grown-length}
use Rattle.recording.specs.Relation.{up_from, mint_cells}
use Rattle.recording.specs.Numbers.{add_permutation_no, allocate_permutation_no}
use Rattle.recording.specs.Answers.{queries_with, add_permutation_queries, add_permutation_uses, allocate_permutation_slots, allocate_permutation_queries, allocate_permutation_uses}
use Rattle.recording.proofs.Accepted.{add_permutation-yes, allocate_permutation-yes}
use Rattle.recording.proofs.Minted.{up_from-length}

query-length : (rel : PermutationRelation) (cells queries : List ℕ) → length cells ≡ rel.width + rel.width
    → words_of rel.width (rel.queries + 1) ≤ length queries → length (queries_with rel cells queries) ≡ length queries
query-length rel cells queries n h =
    let e = words_of-suc rel.width rel.queries in
    put-length (words_of rel.width rel.queries) cells queries (omega arith)

-- ---- record
module _ (rel : PermutationRelation) (slots : ℕ) (queries uses input output : List ℕ) where
  pub add_permutation_queries-length : length (add_permutation_queries rel slots queries uses input output) ≡ length queries
  add_permutation_queries-length =
      on_yes-length (add_permutation_no rel slots (length queries) uses input output) (queries_with rel (input ++ output) queries) queries
      (λ z.
      let y = add_permutation-yes rel slots (length queries) uses input output z in
      query-length rel (input ++ output) queries
      (length-append input output ∙ ap₂ (λ (a b : ℕ). a + b) y.inputs y.outputs) y.room)

  pub add_permutation_uses-length : length (add_permutation_uses rel slots queries uses input output) ≡ length uses
  add_permutation_uses-length =
      on_yes-length (add_permutation_no rel slots (length queries) uses input output) (uses_after false uses (input ++ output)) uses
      (λ z. after-length false uses (input ++ output))

-- ---- mint
module _ (rel : PermutationRelation) (slots queries uses input : List ℕ) where
  abbrev number : ℕ
  number = allocate_permutation_no rel (length slots) (length queries) uses input

  pub allocate_permutation_slots-length : length (allocate_permutation_slots rel slots queries uses input) ≡ length slots
  allocate_permutation_slots-length =
      on_yes-length number (grown_slots rel.vars rel.width slots) slots
      (λ z. grown-length rel.vars rel.width slots (allocate_permutation-yes rel (length slots) (length queries) uses input z).slot_room)

  pub allocate_permutation_queries-length : length (allocate_permutation_queries rel slots queries uses input) ≡ length queries
  allocate_permutation_queries-length =
      on_yes-length number (queries_with rel (mint_cells rel input) queries) queries
      (λ z.
      let y = allocate_permutation-yes rel (length slots) (length queries) uses input z in
      query-length rel (mint_cells rel input) queries
      (length-append input (up_from rel.vars rel.width) ∙ ap₂ (λ (a b : ℕ). a + b) y.inputs (up_from-length rel.vars rel.width)) y.room)

  pub allocate_permutation_uses-length : length (allocate_permutation_uses rel slots queries uses input) ≡ length uses
  allocate_permutation_uses-length =
      on_yes-length number (uses_after false uses (mint_cells rel input)) uses (λ z. after-length false uses (mint_cells rel input))
