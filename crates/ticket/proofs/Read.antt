-- Laws of the reading for the code that asks about a line's parts one after the other: where one of them is not as in the form
-- the line is of no ticket, and where all are it is that of the two numbers. Assumes nothing.
use Prim.Native.Nat.{ℕ, suc, ◌^◌, ◌<◌}
use mathlib.Core.Path.{◌≡◌, sym, ap, ◌∙◌}
use mathlib.Core.List.{List, [], ◌∷◌, ◌++◌}
use native.Mathlib.Omega.{arith}
use lib.ListN.{length, take, drop, get_or, length-drop, drop_of_length-le}
use lib.Seq.{length-take-le, take-suc, split_at, get_or-drop}
use Rattle.std.specs.Prelude.{Some, None}
use Rattle.ticket.specs.Form.{blank, newline, justified, ticket_line, read_line}
use Rattle.ticket.specs.Scan.{scanned}
use Rattle.ticket.proofs.Form.{line-length, of-read, none-bad}
use Rattle.ticket.proofs.Scan.{justified-scanned, scanned-justified, bad-not-number}

-- the first columns of s, read as a number, are its columns
columns_of : (s : List ℕ) (k n : ℕ) → k < length s → scanned (take k s) (get_or s k 0) ≡ Some n
    → (n < 10 ^ suc k) × (take (suc k) s ≡ justified (suc k) n)
columns_of s k n h e =
    let r = scanned-justified (take k s) (get_or s k 0) n e in
    let z : length (take k s) ≡ k = length-take-le k s (omega arith) in
    (rw z at r.fits, take-suc s k 0 h ∙ rw z at r.columns)

module _ (l : List ℕ) where
  -- ---- one part is not as in the form
  pub not-long : (length l ≡ 24 → ⊥) → None ≡ read_line l
  not-long h = sym (none-bad l (λ t o. h (ap length o.line ∙ line-length t)))

  pub not-blank : (get_or l 10 0 ≡ blank → ⊥) → None ≡ read_line l
  unfolding ticket_line
  not-blank h = sym (none-bad l (λ t o. h (ap (λ (s : List ℕ). get_or s 10 0) o.line)))

  pub not-newline : (get_or l 23 0 ≡ newline → ⊥) → None ≡ read_line l
  unfolding ticket_line
  not-newline h = sym (none-bad l (λ t o. h (ap (λ (s : List ℕ). get_or s 23 0) o.line)))

  pub not-wire : scanned (take 9 l) (get_or l 9 0) ≡ None → None ≡ read_line l
  unfolding ticket_line
  not-wire e =
      sym (none-bad l (λ t o. bad-not-number t.wire
      (sym e ∙ ap (λ (s : List ℕ). scanned (take 9 s) (get_or s 9 0)) o.line ∙ justified-scanned 9 t.wire o.wire)))

  pub not-grams : scanned (take 11 (drop 11 l)) (get_or l 22 0) ≡ None → None ≡ read_line l
  unfolding ticket_line
  not-grams e =
      sym (none-bad l (λ t o. bad-not-number t.grams
      (sym e ∙ ap (λ (s : List ℕ). scanned (take 11 (drop 11 s)) (get_or s 22 0)) o.line ∙ justified-scanned 11 t.grams o.grams)))

  -- ---- all parts are as in the form
  pub all-parts : length l ≡ 24 → get_or l 10 0 ≡ blank → get_or l 23 0 ≡ newline
      → (w g : ℕ) → scanned (take 9 l) (get_or l 9 0) ≡ Some w → scanned (take 11 (drop 11 l)) (get_or l 22 0) ≡ Some g
      → Some (record { wire = w; grams = g }) ≡ read_line l
  unfolding ticket_line
  all-parts h b n w g x y = sym (of-read _ l (record { wire = wire.0; grams = grams.0; line = whole }))
    where
      length_rest : length (drop 11 l) ≡ 13
      length_rest = length-drop 11 l ∙ omega (arith, h)

      wire : (w < 10 ^ 10) × (take 10 l ≡ justified 10 w)
      wire = columns_of l 9 w (omega (arith, h)) x

      grams : (g < 10 ^ 12) × (take 12 (drop 11 l) ≡ justified 12 g)
      grams = columns_of (drop 11 l) 11 g (omega (arith, length_rest)) (rw (get_or-drop 11 l 11 0) y)

      rest : drop 11 l ≡ justified 12 g ++ (newline ∷ [])
      rest =
          split_at (drop 11 l) 12 0 (omega (arith, length_rest))
          ∙ rw (grams.1, get_or-drop 11 l 12 0, n, drop_of_length-le (drop 11 l) {i = 13} (omega (arith, length_rest)))

      whole : l ≡ ticket_line (record { wire = w; grams = g })
      whole = split_at l 10 0 (omega (arith, h)) ∙ rw (wire.1, b, rest)
