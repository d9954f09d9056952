-- Laws of the form: a line is read as a ticket exactly where it is that ticket's (`read-iff`), it is of at most one
-- (`one-ticket`), and it is bad exactly where it is of none (`bad-iff`).
--
-- What a number's columns spell is the number without the digits that found no column (`spelled-right`, `spelled-justified`).
-- So a number that fits is spelled as it is, and what is spelled fits. Assumes nothing.
use Prim.Native.Nat.{ℕ, zero, suc, ◌+◌, ◌-◌, ◌*◌, ◌/◌, ◌%◌, ◌^◌, ◌<◌}
use mathlib.Core.Path.{◌≡◌, refl, sym, ap, ap₂, subst, ◌∙◌}
use mathlib.Core.Bool.{Bool, true, false}
use mathlib.Core.Logic.{◌↔◌}
use mathlib.Core.List.{List, [], ◌∷◌, ◌++◌}
use native.Mathlib.Nat.{mod-lt, mod-eq_of_lt, pow-zero, pow-suc, one-le-pow}
use native.Mathlib.Omega.{arith}
use borrow.Author.Tests.{eq-eqb, eqb-true}
use lib.Dec.{eqb}
use lib.Arith.{mod-mul}
use lib.ListN.{length}
use Rattle.limits.specs.Questions.{pick}
use Rattle.limits.proofs.Below.{both_true, true-both}
use Rattle.std.specs.Prelude.{Option, Some, None}
use Rattle.ticket.specs.Form.{blank, last_digit, last_or_blank, right_or_blank, justified, line_length, ticket_line, Of}
use Rattle.ticket.specs.Form.{spelled, spelled_ticket, same_bytes, read_line}
use Rattle.ticket.specs.declared.Ticket.{Ticket}

-- ---- the same bytes
same_bytes-eq : (s t : List ℕ) → same_bytes s t ≡ true → s ≡ t
same_bytes-eq [] [] e = refl
same_bytes-eq [] (b ∷ t) e = cc
same_bytes-eq (a ∷ s) [] e = cc
same_bytes-eq (a ∷ s) (b ∷ t) e =
    let h = both_true (eqb a b) (same_bytes s t) e in
    ap₂ (λ (x : ℕ) (l : List ℕ). x ∷ l) (eqb-true a b h.0) (same_bytes-eq s t h.1)

eq-same_bytes : (s : List ℕ) → same_bytes s s ≡ true
eq-same_bytes [] = refl
eq-same_bytes (a ∷ s) = true-both _ _ (eq-eqb a a refl) (eq-same_bytes s)

-- ---- what columns spell
-- a power of 10 is not 0
pub powers-above : (k : ℕ) → 0 < 10 ^ k
powers-above k = one-le-pow k 10 (omega arith)

spelled-snoc : (n b : ℕ) (s : List ℕ) → spelled n (s ++ (b ∷ [])) ≡ spelled n s * 10 + (b - 48)
spelled-snoc n b [] = refl
spelled-snoc n b (a ∷ s) = spelled-snoc (n * 10 + (a - 48)) b s

-- one column more on the right
spelled-next : (k n b : ℕ) (s : List ℕ) → b - 48 ≡ n % 10 → spelled 0 s ≡ n / 10 % 10 ^ k
    → spelled 0 (s ++ (b ∷ [])) ≡ n % 10 ^ suc k
spelled-next k n b s d e =
    spelled-snoc 0 b s ∙ rw (d, e, pow-suc 10 k) (sym (mod-mul n (powers-above k) (omega arith)))

column-digit : (n : ℕ) → last_or_blank n - 48 ≡ n % 10
column-digit n = go (eqb n 0) refl
  where
    go : (t : Bool) → eqb n 0 ≡ t → pick t blank (last_digit n) - 48 ≡ n % 10
    go true z = let e : n ≡ 0 = eqb-true n 0 z in omega arith
    go false z = omega arith

spelled-right : (k n : ℕ) → spelled 0 (right_or_blank k n) ≡ n % 10 ^ k
spelled-right zero n = rw (pow-zero 10) (omega arith)
spelled-right (suc k) n = spelled-next k n _ (right_or_blank k (n / 10)) (column-digit n) (spelled-right k (n / 10))

spelled-justified : (k n : ℕ) → spelled 0 (justified k n) ≡ n % 10 ^ k
spelled-justified zero n = rw (pow-zero 10) (omega arith)
spelled-justified (suc k) n = spelled-next k n _ (right_or_blank k (n / 10)) (omega arith) (spelled-right k (n / 10))

-- a number that fits is spelled as it is, and one that is spelled as it is fits
fits-spelled : (k n : ℕ) → n < 10 ^ k → spelled 0 (justified k n) ≡ n
fits-spelled k n h = spelled-justified k n ∙ mod-eq_of_lt h

spelled-fits : (k n : ℕ) → n ≡ spelled 0 (justified k n) → n < 10 ^ k
spelled-fits k n e = subst (λ (m : ℕ). m < 10 ^ k) (sym (e ∙ spelled-justified k n)) (mod-lt n (powers-above k))

-- ---- a ticket's line
module _ (t : Ticket) where
  pub line-length : length (ticket_line t) ≡ line_length
  unfolding ticket_line
  line-length = refl

  -- the ticket that a line spells
  spelled-line : spelled_ticket (ticket_line t)
      ≡ record { wire = spelled 0 (justified 10 t.wire); grams = spelled 0 (justified 12 t.grams) }
  unfolding ticket_line
  spelled-line = refl

-- ---- the reading
-- the line of a ticket whose numbers fit spells that ticket
of-spelled : (t : Ticket) (bytes : List ℕ) → Of t bytes → spelled_ticket bytes ≡ t
of-spelled t bytes o = rw (o.line, spelled-line t, fits-spelled 10 _ o.wire, fits-spelled 12 _ o.grams)

-- and bytes that are the line of the ticket that they spell are of it: both numbers fit
spelled-of : (t : Ticket) (bytes : List ℕ) → bytes ≡ ticket_line t → spelled_ticket bytes ≡ t → Of t bytes
spelled-of t bytes e z =
    let same : t ≡ spelled_ticket (ticket_line t) = sym z ∙ ap spelled_ticket e in
    record {
      wire = spelled-fits 10 t.wire (ap (λ (u : Ticket). u.wire) (same ∙ spelled-line t));
      grams = spelled-fits 12 t.grams (ap (λ (u : Ticket). u.grams) (same ∙ spelled-line t));
      line = e;
    }

bad-not-of : (t : Ticket) → None ≡ Some t → ⊥
bad-not-of t e = absurd (let z : ◌≡◌ {A = ℕ} 0 1 = cc in omega arith)

pub of-read : (t : Ticket) (bytes : List ℕ) → Of t bytes → read_line bytes ≡ Some t
unfolding read_line
of-read t bytes o =
    let e : same_bytes bytes (ticket_line t) ≡ true = rw o.line (eq-same_bytes (ticket_line t)) in
    rw (of-spelled t bytes o, e)

pub read_of : (t : Ticket) (bytes : List ℕ) → read_line bytes ≡ Some t → Of t bytes
unfolding read_line
read_of t bytes e = go (same_bytes bytes (ticket_line (spelled_ticket bytes))) refl e
  where
    go : (b : Bool) → same_bytes bytes (ticket_line (spelled_ticket bytes)) ≡ b → pick b (Some (spelled_ticket bytes)) None ≡ Some t
        → Of t bytes
    go true z e =
        let same : spelled_ticket bytes ≡ t = cc in
        spelled-of t bytes (same_bytes-eq _ _ z ∙ ap ticket_line same) same
    go false z e = absurd (bad-not-of t e)

pub read-iff : (t : Ticket) (bytes : List ℕ) → (read_line bytes ≡ Some t) ↔ Of t bytes
read-iff t bytes = (read_of t bytes, of-read t bytes)

-- no line is of two tickets
pub one-ticket : (t u : Ticket) (bytes : List ℕ) → Of t bytes → Of u bytes → t ≡ u
one-ticket t u bytes o p = sym (of-spelled t bytes o) ∙ of-spelled u bytes p

-- a line is bad exactly where it is of no ticket
pub none-bad : (bytes : List ℕ) → ((t : Ticket) → Of t bytes → ⊥) → read_line bytes ≡ None
none-bad bytes none = go (read_line bytes) refl
  where
    go : (r : Option Ticket) → read_line bytes ≡ r → read_line bytes ≡ None
    go (Some t) e = absurd (none t (read_of t bytes e))
    go None e = e

pub bad-iff : (bytes : List ℕ) → (read_line bytes ≡ None) ↔ ((t : Ticket) → Of t bytes → ⊥)
bad-iff bytes = (λ e t o. bad-not-of t (sym e ∙ of-read t bytes o), none-bad bytes)
