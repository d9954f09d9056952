-- What ticket texts are: the lines of a text are the text, and those of tickets written one after the other are these
-- tickets' lines and set their wires to their steps. Assumes nothing.
use Prim.Native.Nat.{ℕ, zero, suc, ◌+◌, ◌*◌, ◌/◌, ◌^◌, ◌≤◌, ◌<◌}
use mathlib.Core.Path.{◌≡◌, refl, sym, ap, ap₂, ◌∙◌}
use mathlib.Core.List.{List, [], ◌∷◌, ◌++◌, map, append-nil}
use native.Mathlib.Nat.{not-suc-le-zero}
use native.Mathlib.Omega.{arith}
use lib.ListN.{length, take, drop, length-drop, take-append-drop}
use Rattle.std.specs.Prelude.{Some}
use Rattle.words.specs.Store.{All}
use Rattle.words.specs.Pieces.{pieces, flat}
use Rattle.words.proofs.Held.{flat-length, pieces-flat}
use Rattle.allocator.specs.Slots.{Pair}
use Rattle.ticket.specs.Form.{wire_columns, grams_columns, ticket_line}
use Rattle.ticket.specs.declared.Ticket.{Ticket}
use Rattle.ticket.proofs.Form.{of-read, line-length}
use Rattle.tickets.specs.Lines.{lines_of, ticket_pair, line_pair}

-- ---- the lines of a text are the text
pieces-cover : (n : ℕ) (s : List ℕ) → length s ≤ n * 24 → flat (pieces 24 n s) ≡ s
pieces-cover zero [] h = refl
pieces-cover zero (x ∷ s) h = absurd (not-suc-le-zero h)
pieces-cover (suc n) s h =
    let d = length-drop 24 s in
    ap (λ (l : List ℕ). take 24 s ++ l) (pieces-cover n (drop 24 s) (omega arith)) ∙ take-append-drop 24 s

pub lines-flat : (text : List ℕ) → flat (lines_of text) ≡ text
unfolding lines_of
lines-flat text = pieces-cover ((length text + 23) / 24) text (omega arith)

-- ---- tickets written one after the other
-- both numbers fit their columns
abbrev pub Fits : Ticket → Type 0
Fits t = (t.wire < 10 ^ wire_columns) × (t.grams < 10 ^ grams_columns)

written : (ts : List Ticket) → All (λ q. length q ≡ 24) (map ticket_line ts)
written [] = tt
written (t ∷ ts) = (line-length t, written ts)

pub lines-written : (ts : List Ticket) → lines_of (flat (map ticket_line ts)) ≡ map ticket_line ts
unfolding lines_of
lines-written ts =
    let qs = map ticket_line ts in
    let l : length (flat qs) ≡ length qs * 24 = flat-length 24 qs (written ts) in
    let n : (length (flat qs) + 23) / 24 ≡ length qs = omega arith in
    ap₂ (λ (k : ℕ) (s : List ℕ). pieces 24 k s) n (sym (append-nil (flat qs))) ∙ pieces-flat 24 qs [] (written ts)

pub pairs-written : (ts : List Ticket) → All Fits ts
    → map line_pair (lines_of (flat (map ticket_line ts))) ≡ map (λ t. ticket_pair (Some t)) ts
pairs-written ts f = ap (map line_pair) (lines-written ts) ∙ go ts f
  where
    go : (ts : List Ticket) → All Fits ts → map line_pair (map ticket_line ts) ≡ map (λ t. ticket_pair (Some t)) ts
    go [] f = refl
    go (t ∷ ts) f =
        ap₂ (λ (p : Pair) (ps : List Pair). p ∷ ps)
        (ap ticket_pair (of-read t (ticket_line t) (record { wire = f.0.0; grams = f.0.1; line = refl }))) (go ts f.1)
