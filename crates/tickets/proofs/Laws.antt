-- What the lines of a text come to on the slots: their number is the first no of their questions, as many join the sets
-- as were accepted, and where the slots hold the sets of a book, count and sets settle what is asked. Assumes nothing.
use Prim.Native.Nat.{ℕ}
use mathlib.Core.Path.{◌≡◌, refl, ap, ◌∙◌, sym}
use mathlib.Core.Bool.{Bool, true, false}
use mathlib.Core.List.{List, map}
use native.Mathlib.Omega.{arith}
use borrow.Author.Tests.{ltb-true}
use lib.Dec.{ltb}
use lib.ListN.{length, take}
use Rattle.limits.specs.Numbers.{prime, max_count}
use Rattle.limits.specs.Questions.{ask, first_of_two, ◌▸◌, first_no}
use Rattle.limits.proofs.Questions.{first_no-append}
use Rattle.allocator.specs.Slots.{Pair, slot_takes, pair_no}
use Rattle.allocator.specs.Values.{joins}
use Rattle.allocator.proofs.Run.{run-number, after-number}
use Rattle.permutation.specs.Relation.{relation_asks}
use Rattle.permutation.specs.State.{HoldsSlots}
use Rattle.permutation.specs.Left.{sets_take}
use Rattle.permutation.specs.declared.PermutationRelation.{PermutationRelation}
use Rattle.permutation.proofs.Slots.{after_holds, run_holds}
use Rattle.permutation.proofs.Left.{after-seven, takes-is, RunLeft, run-left}
use Rattle.ticket.specs.Form.{read_line}
use Rattle.tickets.specs.Lines.{lines_of, is_ticket, line_pair, line_asks, line_no, lines_asks, set_lines}
use Rattle.tickets.specs.Tickets.{set_tickets_asks, set_tickets_run, set_tickets, set_tickets_slots}
use Rattle.tickets.specs.Left.{line_left, set_tickets_left, set_tickets_set}

-- a line is only accepted where its pair is
as-pair : (form wire steps held takes : Bool) → ask 40 form ▸ (ask 3 wire ▸ (ask 41 steps ▸ (ask 7 held ▸ (ask 8 takes ▸ 0)))) ≡ 0
    → ask 3 wire ▸ (ask 4 steps ▸ (ask 7 held ▸ (ask 8 takes ▸ 0))) ≡ 0
unfolding ask first_of_two
as-pair false b c d e z = absurd (omega arith)
as-pair true false c d e z = absurd (omega arith)
as-pair true true false d e z = absurd (omega arith)
as-pair true true true false e z = absurd (omega arith)
as-pair true true true true e z = z

pub line-pair : (n : ℕ) (slots bytes : List ℕ) → line_no n slots bytes ≡ 0 → pair_no n slots (line_pair bytes) ≡ 0
unfolding line_no pair_no
line-pair n slots bytes z =
    as-pair (is_ticket (read_line bytes)) (ltb (line_pair bytes).var max_count) (ltb (line_pair bytes).value prime)
    (ltb (line_pair bytes).var n) (slot_takes slots (line_pair bytes)) z

line-left : (n : ℕ) (slots : List ℕ) (sets : List Pair) → HoldsSlots n slots sets → (bytes : List ℕ)
    → line_no n slots bytes ≡ line_left n sets bytes
unfolding line_no
line-left n slots sets o bytes =
    let p = line_pair bytes in
    ap (λ (k : ℕ). ask 40 (is_ticket (read_line bytes)) ▸ (ask 3 (ltb p.var max_count) ▸ (ask 41 (ltb p.value prime) ▸ k)))
    (after-seven (ltb p.var n) (slot_takes slots p) (sets_take sets p) (λ e. takes-is n slots sets o p (ltb-true p.var n e)))

-- ---- the lines of a text
pub lines-number : (n : ℕ) (slots text : List ℕ) → (set_lines n slots text).number ≡ first_no (lines_asks n slots text)
unfolding line_no
lines-number n slots text = run-number (line_no n) line_pair (λ s bytes. line_asks n (slot_takes s) bytes) (λ s bytes. refl) slots (lines_of text)

-- the number, and the pairs that are set
pub lines_left : (n : ℕ) (slots : List ℕ) (sets : List Pair) (text : List ℕ) → HoldsSlots n slots sets
    → RunLeft n sets (set_tickets_set n sets text) (set_tickets_left n sets text) (set_lines n slots text)
lines_left n slots sets text o =
    run-left (line_no n) (line_left n) line_pair n (line-pair n) (line-left n) (lines_of text) slots sets o

-- ---- the call
module _ (rel : PermutationRelation) (slots text : List ℕ) where
  pub set_tickets-number : (set_tickets_run rel slots text).number ≡ first_no (set_tickets_asks rel slots text)
  unfolding set_tickets_run
  set_tickets-number =
      after-number (first_no (relation_asks rel (length slots))) (set_lines rel.vars slots text) slots
      ∙ ap (λ (k : ℕ). first_no (relation_asks rel (length slots)) ▸ k) (lines-number rel.vars slots text)
      ∙ sym (first_no-append (relation_asks rel (length slots)) (lines_asks rel.vars slots text))

  pub set_tickets-holds : (sets : List Pair) → HoldsSlots rel.vars slots sets
      → HoldsSlots rel.vars (set_tickets_slots rel slots text) (joins sets (map line_pair (take (set_tickets rel slots text).accepted (lines_of text))))
  unfolding set_tickets_run
  set_tickets-holds sets o =
      after_holds line_pair rel.vars sets (lines_of text) (first_no (relation_asks rel (length slots))) _ slots
      (run_holds line_pair rel.vars (line_no rel.vars) (line-pair rel.vars) (lines_of text) slots sets o) o
