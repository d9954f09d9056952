-- Bytes written one part after the other, as one written part; and what a write answers. Assumes nothing.
use Prim.Native.Nat.{ℕ, zero, suc, ◌+◌, ◌*◌, ◌≤◌}
use mathlib.Core.Path.{◌≡◌, refl, sym, ap, ◌∙◌}
use mathlib.Core.List.{List, [], ◌∷◌, ◌++◌, append_assoc}
use native.Mathlib.Omega.{arith}
use lib.ListN.{length, drop, length-append}
use Rattle.std.specs.Prelude.{Ok}
use Rattle.limits.specs.Questions.{Question, first_no}
use Rattle.limits.proofs.Questions.{stays, goes_on, first_no-append}
use Rattle.words.specs.Store.{put_words, fit_words}
use Rattle.words.specs.Pieces.{pieces}
use Rattle.narg.specs.Bytes.{u32_bytes}
use Rattle.narg.specs.Reader.{each}
use Rattle.narg.proofs.At.{put-fits}
use Rattle.narg.proofs.Fields.{length-u32_bytes}
use Rattle.narg.proofs.Words.{length-words}
use Rattle.narg.proofs.Stores.{put_two, length-put_words}
use Rattle.header.specs.Form.{magic, header_bytes, header_length}
use Rattle.encoding.specs.Answers.{Writes}
use Rattle.encoding.specs.Put.{PutsAt}

-- bytes that the output holds
pub fit_is : (at : ℕ) (ys out : List ℕ) → at + length ys ≤ length out → fit_words at ys out ≡ put_words at ys out
fit_is at ys out h = (put-fits out at ys {n = length ys} refl h).1

-- ---- one part and then another behind it are one part
module _ (at : ℕ) (xs ys before : List ℕ) {mid end : ℕ} {between after : List ℕ} where
  pub put_then : PutsAt at xs before mid between → PutsAt mid ys between end after → mid ≤ length before
      → PutsAt at (xs ++ ys) before end after
  put_then p q h =
      let l = length-append xs ys in
      let e = p.past in
      let f = q.past in
      record {
        past = omega arith;
        out = q.out ∙ ap (put_words mid ys) p.out ∙ put_two at xs ys before mid (sym p.past) h;
      }

pub put-length : {at end : ℕ} {bytes before after : List ℕ} → PutsAt at bytes before end after → end ≤ length before
    → length after ≡ length before
put-length {at} {end} {bytes} {before} {after} p h =
    let e = p.past in ap length p.out ∙ length-put_words at bytes before (omega arith)

-- a word, and words
module _ (at : ℕ) (before : List ℕ) {after : List ℕ} where
  pub put_word : (v : ℕ) → at + 4 ≤ length before → after ≡ fit_words at (u32_bytes v) before → PutsAt at (u32_bytes v) before (at + 4) after
  put_word v h e =
      let l = length-u32_bytes v in
      record { past = omega arith; out = e ∙ fit_is at (u32_bytes v) before (omega arith) }

  pub put-words : (ws : List ℕ) → at + 4 * length ws ≤ length before → after ≡ fit_words at (each u32_bytes ws) before
      → PutsAt at (each u32_bytes ws) before (at + 4 * length ws) after
  put-words ws h e =
      let l = length-words ws in
      record { past = omega arith; out = e ∙ fit_is at (each u32_bytes ws) before (omega arith) }

-- ---- the header, stored as five bytes and word by word
pub header-stored : (out : List ℕ) (last version width : ℕ) (front : List ℕ) → front ≡ magic last ++ (version ∷ []) → header_length ≤ length out
    → fit_words 9 (u32_bytes 4) (fit_words 5 (u32_bytes width) (front ++ drop 5 out)) ≡ put_words 0 (header_bytes last version width) out
unfolding header_bytes
header-stored out last version width front e h =
    let five = magic last ++ (version ∷ []) in
    let o1 = five ++ drop 5 out in
    let o2 = fit_words 5 (u32_bytes width) o1 in
    let p : PutsAt 0 five out 5 o1 = record { past = refl; out = refl } in
    let l : length o1 ≡ length out = put-length p (omega arith) in
    let q : PutsAt 5 (u32_bytes width) o1 9 o2 = put_word 5 o1 width (omega arith) refl in
    let m : length o2 ≡ length out = put-length q (omega arith) ∙ l in
    let r : PutsAt 9 (u32_bytes 4) o2 13 (fit_words 9 (u32_bytes 4) o2) = put_word 9 o2 4 (omega arith) refl in
    ap (λ (f : List ℕ). fit_words 9 (u32_bytes 4) (fit_words 5 (u32_bytes width) (f ++ drop 5 out))) e
    ∙ (put_then 0 (five ++ u32_bytes width) (u32_bytes 4) out (put_then 0 five (u32_bytes width) out p q (omega arith)) r (omega arith)).out
    ∙ ap (λ (l : List ℕ). put_words 0 l out) (append_assoc five (u32_bytes width) (u32_bytes 4))

-- ---- questions in two parts: the first part's no stays, else the second is asked
module _ (ps qs : List Question) (no : ℕ) (e : no ≡ first_no ps) where
  pub asks-stay : (no ≡ 0 → ⊥) → no ≡ first_no (ps ++ qs)
  asks-stay h = e ∙ sym (first_no-append ps qs ∙ stays _ _ (λ z. h (e ∙ z)))

  pub asks-go : no ≡ 0 → (r : ℕ) → r ≡ first_no qs → r ≡ first_no (ps ++ qs)
  asks-go z r f = f ∙ sym (first_no-append ps qs ∙ goes_on _ _ (sym e ∙ z))

-- ---- what a write answers
module _ (bytes out : List ℕ) (no answer : ℕ) (e : no ≡ answer) where
  pub written-accepted : no ≡ 0 → (len : ℕ) (last : List ℕ) → PutsAt 0 bytes out len last
      → Writes (λ w. w) answer bytes out (record { outcome = Ok tt; len = len }) last
  written-accepted z len last p =
      rw (← e, z) (record { answer = ap (λ (n : ℕ). record { outcome = Ok tt; len = n }) (p.past ∙ omega arith); out = p.out })

-- ---- how many pieces
pub length-pieces : (k n : ℕ) (s : List ℕ) → length (pieces k n s) ≡ n
length-pieces k zero s = refl
length-pieces k (suc n) s = ap suc (length-pieces k n (drop k s))
