-- What a ticket line's number says, that the lines which a call counts are tickets' lines, and what the lines of a text
-- come to beside a set list of their pairs: up to the first that is no ticket's, where 40 ends the run. Assumes nothing.
use Prim.Native.Nat.{ℕ, zero, suc}
use mathlib.Core.Path.{◌≡◌, refl, ap}
use mathlib.Core.Bool.{Bool, true, false, false≢true}
use mathlib.Core.Logic.{◌↔◌}
use mathlib.Core.List.{List, [], ◌∷◌, ◌++◌, map}
use native.Mathlib.Omega.{arith}
use lib.Dec.{eqb, ltb}
use lib.ListN.{length, take}
use Rattle.std.specs.Prelude.{Option, Some, None}
use Rattle.limits.specs.Numbers.{prime, max_count}
use Rattle.limits.specs.Questions.{pick, ask, first_of_two, ◌▸◌, first_no, on_yes}
use Rattle.words.specs.Store.{All}
use Rattle.allocator.specs.Slots.{is_fresh, slot_takes, pair_no, SetRun, ran, run_after, set_items, set_run, one_accepted, with_pair}
use Rattle.allocator.proofs.Run.{accepted-all}
use Rattle.permutation.specs.Relation.{relation_asks}
use Rattle.permutation.specs.declared.PermutationRelation.{PermutationRelation}
use Rattle.ticket.specs.Form.{Of, read_line}
use Rattle.ticket.specs.declared.Ticket.{Ticket}
use Rattle.ticket.proofs.Form.{read_of, bad-iff}
use Rattle.tickets.specs.Lines.{lines_of, is_ticket, ticket_pair, line_pair, ticket_asks, line_no}
use Rattle.tickets.specs.Tickets.{set_tickets_run, set_tickets}

-- ---- 40 is answered exactly where the line is no ticket's
forty : (form wire steps held takes : Bool) → ask 40 form ▸ (ask 3 wire ▸ (ask 41 steps ▸ (ask 7 held ▸ (ask 8 takes ▸ 0)))) ≡ 40
    → form ≡ false
unfolding ask first_of_two
forty false b c d e z = refl
forty true false c d e z = absurd (omega arith)
forty true true false d e z = absurd (omega arith)
forty true true true false e z = absurd (omega arith)
forty true true true true false z = absurd (omega arith)
forty true true true true true z = absurd (omega arith)

not-ticket : (r : Option Ticket) → is_ticket r ≡ false → r ≡ None
not-ticket (Some t) e = cc
not-ticket None e = refl

pub line-40 : (n : ℕ) (slots bytes : List ℕ) → (line_no n slots bytes ≡ 40) ↔ ((t : Ticket) → Of t bytes → ⊥)
unfolding line_no ask first_of_two
line-40 n slots bytes = (
  λ e.
      (bad-iff bytes).0
      (not-ticket (read_line bytes)
      (forty (is_ticket (read_line bytes)) (ltb (line_pair bytes).var max_count) (ltb (line_pair bytes).value prime)
      (ltb (line_pair bytes).var n) (slot_takes slots (line_pair bytes)) e)),
  λ f. let b : read_line bytes ≡ None = (bad-iff bytes).1 f in rw b,
)

-- ---- the lines that are counted are tickets' lines, and set what they say
pub record Counted (bytes : List ℕ) : Type 0 where
  pub ticket : Ticket
  pub of : Of ticket bytes
  pub sets : line_pair bytes ≡ ticket_pair (Some ticket)

is-ticket : (bytes : List ℕ) (r : Option Ticket) → read_line bytes ≡ r → is_ticket r ≡ true → Counted bytes
is-ticket bytes (Some t) e b = record { ticket = t; of = read_of t bytes e; sets = ap ticket_pair e }
is-ticket bytes None e b = absurd (false≢true b)

formed : (form : Bool) (k : ℕ) → ask 40 form ▸ k ≡ 0 → form ≡ true
unfolding ask first_of_two
formed true k z = refl
formed false k z = absurd (omega arith)

line-counted : (n : ℕ) (slots bytes : List ℕ) → line_no n slots bytes ≡ 0 → Counted bytes
unfolding line_no
line-counted n slots bytes z = is-ticket bytes (read_line bytes) refl (formed (is_ticket (read_line bytes)) (first_no (ticket_asks n (slot_takes slots) (line_pair bytes))) z)

pub set_tickets-counted : (rel : PermutationRelation) (slots text : List ℕ)
    → All Counted (take (set_tickets rel slots text).accepted (lines_of text))
unfolding set_tickets_run
set_tickets-counted rel slots text =
    go (first_no (relation_asks rel (length slots))) _
    (accepted-all (line_no rel.vars) line_pair Counted (line-counted rel.vars) slots (lines_of text))
  where
    go : (k : ℕ) (r : SetRun) → All Counted (take r.accepted (lines_of text)) → All Counted (take (run_after k r slots).accepted (lines_of text))
    go zero r h = h
    go (suc k) r h = tt

-- ---- lines act in order like a set list
-- 41 stands in place of 4
abbrev pub in_place : SetRun → SetRun
in_place r = ran (pick (eqb r.number 4) 41 r.number) r.accepted r.fresh r.slots

same_number : (form wire steps held takes : Bool) → form ≡ true
    → ask 40 form ▸ (ask 3 wire ▸ (ask 41 steps ▸ (ask 7 held ▸ (ask 8 takes ▸ 0))))
    ≡ (let k = ask 3 wire ▸ (ask 4 steps ▸ (ask 7 held ▸ (ask 8 takes ▸ 0))) in pick (eqb k 4) 41 k)
unfolding ask first_of_two
same_number false b c d e f = cc
same_number true false c d e f = refl
same_number true true false d e f = refl
same_number true true true false e f = refl
same_number true true true true false f = refl
same_number true true true true true f = refl

number_is : (n : ℕ) (slots bytes : List ℕ) → is_ticket (read_line bytes) ≡ true
    → line_no n slots bytes ≡ pick (eqb (pair_no n slots (line_pair bytes)) 4) 41 (pair_no n slots (line_pair bytes))
unfolding line_no pair_no
number_is n slots bytes f =
    same_number (is_ticket (read_line bytes)) (ltb (line_pair bytes).var max_count) (ltb (line_pair bytes).value prime)
    (ltb (line_pair bytes).var n) (slot_takes slots (line_pair bytes)) f

-- k: the pair's number; m: the line's; f: whether it is fresh; q, r: what the rest comes to
one_more : (slots : List ℕ) (k m : ℕ) (f : Bool) → m ≡ pick (eqb k 4) 41 k → (r q : SetRun) → r ≡ in_place q
    → on_yes {A = SetRun} m (one_accepted f r) (ran m 0 0 slots)
    ≡ in_place (on_yes k (one_accepted f q) (ran k 0 0 slots))
one_more slots zero m f e r q s = rw e (ap (one_accepted f) s)
one_more slots (suc k) m f e r q s = go (eqb (suc k) 4) e
  where
    go : (b : Bool) → m ≡ pick b 41 (suc k)
        → on_yes {A = SetRun} m (one_accepted f r) (ran m 0 0 slots) ≡ ran (pick b 41 (suc k)) 0 0 slots
    go true h = rw h
    go false h = rw h

pub like-pairs : (n : ℕ) (slots : List ℕ) (lines : List (List ℕ)) → All (λ bytes. is_ticket (read_line bytes) ≡ true) lines
    → set_items (line_no n) line_pair slots lines ≡ in_place (set_run n slots (map line_pair lines))
unfolding set_items
like-pairs n slots [] t = refl
like-pairs n slots (bytes ∷ lines) t =
    let p = line_pair bytes in
    one_more slots (pair_no n slots p) (line_no n slots bytes) (is_fresh slots p) (number_is n slots bytes t.0) _ _
    (like-pairs n (with_pair slots p) lines t.1)

-- a line that is no ticket's ends the run with 40, where no line before it did
pub up-to-bad : (n : ℕ) (slots : List ℕ) (lines : List (List ℕ)) (bytes : List ℕ) (rest : List (List ℕ)) → read_line bytes ≡ None
    → set_items (line_no n) line_pair slots (lines ++ (bytes ∷ rest))
    ≡ (let r = set_items (line_no n) line_pair slots lines in ran (r.number ▸ 40) r.accepted r.fresh r.slots)
unfolding set_items line_no ask first_of_two
up-to-bad n slots [] bytes rest e = rw e
up-to-bad n slots (a ∷ lines) bytes rest e =
    go (line_no n slots a) (is_fresh slots (line_pair a)) _ _ (up-to-bad n (with_pair slots (line_pair a)) lines bytes rest e)
  where
    go : (k : ℕ) (f : Bool) (r q : SetRun) → r ≡ ran (q.number ▸ 40) q.accepted q.fresh q.slots
        → on_yes {A = SetRun} k (one_accepted f r) (ran k 0 0 slots)
        ≡ (let t = on_yes {A = SetRun} k (one_accepted f q) (ran k 0 0 slots) in ran (t.number ▸ 40) t.accepted t.fresh t.slots)
    go zero f r q s = ap (one_accepted f) s
    go (suc k) f r q s = refl
