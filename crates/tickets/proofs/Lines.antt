-- A text's lines one after the other: none of no text, else 24 bytes, or as many as there are, and the lines of what is
-- left. Assumes nothing.
use Prim.Native.Nat.{ℕ, suc, ◌+◌, ◌-◌, ◌/◌, ◌<◌, min}
use mathlib.Core.Path.{◌≡◌, refl, sym, ap, ◌∙◌}
use mathlib.Core.List.{List, [], ◌∷◌, ◌++◌, append-nil}
use native.Mathlib.Omega.{arith}
use lib.ListN.{length, take, drop, length-append, length-drop, drop_of_length-le}
use lib.Seq.{take_all, take_at, drop_at}
use Rattle.words.specs.Pieces.{pieces}
use Rattle.tickets.specs.Lines.{lines_of}

lines_none : lines_of [] ≡ []
unfolding lines_of
lines_none = refl

lines_more : (text : List ℕ) → 0 < length text → lines_of text ≡ take 24 text ∷ lines_of (drop 24 text)
unfolding lines_of
lines_more text h =
    let d : length (drop 24 text) ≡ length text - 24 = length-drop 24 text in
    let n : (length text + 23) / 24 ≡ suc ((length text - 24 + 23) / 24) = omega arith in
    ap (λ (k : ℕ). pieces 24 k text) n ∙ ap (λ (k : ℕ). take 24 text ∷ pieces 24 ((k + 23) / 24) (drop 24 text)) (sym d)

-- the first line, and those after it
pub next-line : (text line rest : List ℕ) → text ≡ line ++ rest → length line ≡ min 24 (length text) → 0 < length text
    → lines_of text ≡ line ∷ lines_of rest
next-line text line [] e l h =
    let n = ap length e ∙ length-append line [] in
    let t : take 24 text ≡ line = take_all 24 text (omega arith) ∙ e ∙ append-nil line in
    rw (lines_more text h, t, drop_of_length-le text {i = 24} (omega arith))
next-line text line (x ∷ rest) e l h =
    let n = ap length e ∙ length-append line (x ∷ rest) in
    let m : length line ≡ 24 = omega arith in
    lines_more text h ∙ rw (e, take_at line (x ∷ rest) 24 m, drop_at line (x ∷ rest) 24 m)

-- at the end there are none
pub lines_end : (text : List ℕ) → length text ≡ 0 → lines_of text ≡ []
lines_end [] h = lines_none
lines_end (x ∷ text) h = absurd (omega arith)
