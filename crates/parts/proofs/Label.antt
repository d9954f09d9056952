-- The label: what its length and the part behind it come to; and what an answer tells, with where the label lies in
-- the bytes. Assumes nothing.
use Prim.Native.Nat.{ℕ, zero, suc, ◌+◌, ◌^◌, ◌≤◌, ◌<◌}
use mathlib.Core.Path.{◌≡◌, refl, sym, ap, ◌∙◌}
use mathlib.Core.Bool.{true, false}
use mathlib.Core.List.{List}
use native.Mathlib.Omega.{arith}
use lib.ListN.{length, take, drop, length-drop}
use lib.Seq.{drop-drop, length-take-le}
use Rattle.std.specs.Prelude.{Some, None, Result, Ok, Err}
use Rattle.limits.specs.Outcome.{refusal}
use Rattle.limits.specs.declared.Refused.{Refused}
use Rattle.utf8.specs.Utf8.{is_utf8}
use Rattle.narg.specs.Reader.{Got, got, stop, word, part, give}
use Rattle.narg.specs.Cursor.{cursor, read_u32}
use Rattle.narg.specs.declared.Cursor.{Cursor}
use Rattle.narg.proofs.Fields.{word-rest, part-short as cut, part-long as uncut, part-rest, part_length}
use Rattle.narg.proofs.At.{read_u32-read, read_u32-stop, word_next}
use Rattle.reader.specs.At.{part_at}
use Rattle.reader.proofs.Found.{part_at-some, part-short, part-long}
use Rattle.header.specs.declared.Field.{Field}
use Rattle.header.proofs.Got.{took, asked as header-asked}
use Rattle.parts.specs.Read.{read_label}
use Rattle.parts.specs.Answers.{label_past, label_field}

-- ---- reading it
module _ (s : List ℕ) (at : ℕ) where
  label-short : read_u32 s at ≡ None → read_label (drop at s) ≡ stop 20
  unfolding read_label
  label-short e = rw (read_u32-stop s at e)

  module _ (n : ℕ) (c : Cursor) (ew : read_u32 s at ≡ Some (n, c)) where
    label-start : c.at ≤ length s
    label-start = let w = read_u32-read s at n c ew in let f = w.fits in let p = w.past in omega arith

    label-cut : length s < c.at + n → read_label (drop at s) ≡ stop 20
    unfolding read_label
    label-cut h = let k = label-start in let l = length-drop c.at s in rw (word_next s at n c ew, cut n (drop c.at s) (omega arith))

    module _ (h : c.at + n ≤ length s) where
      label-bad : is_utf8 (take n (drop c.at s)) ≡ false → read_label (drop at s) ≡ stop 25
      unfolding read_label
      label-bad u = let l = length-drop c.at s in rw (word_next s at n c ew, uncut n (drop c.at s) (omega arith), u)

      label-yes : is_utf8 (take n (drop c.at s)) ≡ true → read_label (drop at s) ≡ got (take n (drop c.at s)) (drop (c.at + n) s)
      unfolding read_label
      label-yes u =
          let l = length-drop c.at s in
          rw (word_next s at n c ew, uncut n (drop c.at s) (omega arith), u)
          (ap (λ (r : List ℕ). got (take n (drop c.at s)) r) (drop-drop n c.at s))

      label-length : n ≡ length (take n (drop c.at s))
      label-length = let l = length-drop c.at s in sym (length-take-le n (drop c.at s) (omega arith))

-- a refusal
refused : (at : ℕ) {g : Got (List ℕ)} {k : ℕ} → g ≡ stop k → Err (refusal k) ≡ label_field at g
refused at e = sym (ap (label_field at) e)

-- by its length and the part behind it
module _ (s : List ℕ) (at : ℕ) where
  pub label-none : read_u32 s at ≡ None → Err (refusal 20) ≡ label_field at (read_label (drop at s))
  label-none e = refused at (label-short s at e)

  module _ (n : ℕ) (c : Cursor) (ew : read_u32 s at ≡ Some (n, c)) (m : List ℕ) (ep : m ≡ part_at s c.at n) where
    pub label-few : length m < n → Err (refusal 20) ≡ label_field at (read_label (drop at s))
    label-few h = refused at (label-cut s at n c ew (part-short s c.at n m ep h))

    module _ (h : n ≤ length m) where
      within : c.at + n ≤ length s
      within = go n refl
        where
          go : (k : ℕ) → n ≡ k → c.at + n ≤ length s
          go zero z = let l = label-start s at n c ew in omega arith
          go (suc k) z = part-long s c.at n m ep (omega arith) h

      bytes-are : m ≡ take n (drop c.at s)
      bytes-are = ep ∙ sym (part_at-some s c.at n within)

      -- its end is a number that the code has
      pub first_fits : length s < 2 ^ 64 → c.at + n < 2 ^ 64
      first_fits l = let w = within in omega arith

      pub label-not : is_utf8 m ≡ false → Err (refusal 25) ≡ label_field at (read_label (drop at s))
      label-not u = refused at (label-bad s at n c ew within (ap is_utf8 (sym bytes-are) ∙ u))

      pub label-got : is_utf8 m ≡ true → Ok (record { value = n; extra = 0; next = cursor (c.at + n) }) ≡ label_field at (read_label (drop at s))
      label-got u =
          let p = (read_u32-read s at n c ew).past in
          let z : c.at + n ≡ at + 4 + n = omega arith in
          let l = label-length s at n c ew within in
          (λ i. Ok (record { value = l i; extra = 0; next = cursor (z i) }))
          ∙ (λ i. Ok (record { value = length (take n (drop c.at s)); extra = 0; next = cursor (at + 4 + l i) }))
          ∙ sym (ap (label_field at) (label-yes s at n c ew within (ap is_utf8 (sym bytes-are) ∙ u)))

-- ---- what an answer tells
-- a label whose length stands at a place lies behind it, and what is read next stands behind the label
pub record LabelAt (s : List ℕ) (at : ℕ) (label rest : List ℕ) : Type 0 where
  pub inside : label_past at label ≤ length s
  pub is : take (length label) (drop (at + 4) s) ≡ label
  pub next : rest ≡ drop (label_past at label) s

pub label_at : (s : List ℕ) (at : ℕ) (label rest : List ℕ) → read_label (drop at s) ≡ got label rest → LabelAt s at label rest
unfolding read_label
label_at s at label rest e =
    took (word (drop at s)) _ label rest e (λ n h ew e₁.
    took (part n h) _ label rest e₁ (λ l r ep e₂.
    header-asked 25 (is_utf8 l) r (give l) label rest e₂ (λ t e₃.
    let same : l ≡ label = cc in
    let last : r ≡ rest = cc in
    let w = word-rest (drop at s) n h ew in
    let p = part-rest n h l r ep in
    let k = part_length n h l r ep in
    let there : h ≡ drop (at + 4) s = w.1 ∙ drop-drop 4 at s in
    let size = length-drop at s in
    let left = ap length there ∙ length-drop (at + 4) s in
    let z : at + 4 + n ≡ label_past at label = ap (λ (m : ℕ). at + 4 + m) (sym k ∙ ap length same) in
    record {
      inside = rw (← z) (omega (arith, w.0, p.0));
      is = rw (← same, k) (ap (take n) (sym there) ∙ sym p.1);
      next = sym last ∙ p.2 ∙ ap (drop n) there ∙ drop-drop n (at + 4) s ∙ ap (λ (m : ℕ). drop m s) z;
    })))

module _ (s : List ℕ) (at : ℕ) (r : Result Field Refused) (e : r ≡ label_field at (read_label (drop at s))) where
  pub label-refused : (why : Refused) → r ≡ Err why → read_label (drop at s) ≡ stop why.0
  label-refused why i = go (read_label (drop at s)) (sym e ∙ i)
    where
      go : (y : Got (List ℕ)) → label_field at y ≡ Err why → y ≡ stop why.0
      go (got l rest) h = absurd (let z : ◌≡◌ {A = ℕ} 0 1 = cc in omega arith)
      go (stop j) h =
          let z : refusal j ≡ why = cc in
          ap (λ (x : Refused). stop x.0) z

  -- a label that was got
  pub record LabelGot (n : ℕ) (next : Cursor) : Type 0 where
    pub label : List ℕ
    pub reads : read_label (drop at s) ≡ got label (drop next.at s)
    pub count : n ≡ length label
    pub past : next.at ≡ label_past at label

  pub label-told : (f : Field) → r ≡ Ok f → LabelGot f.value f.next
  label-told f i = go (read_label (drop at s)) refl (sym e ∙ i)
    where
      go : (y : Got (List ℕ)) → read_label (drop at s) ≡ y → label_field at y ≡ Ok f → LabelGot f.value f.next
      go (got l rest) e h =
          let p : record { value = length l; extra = 0; next = cursor (label_past at l) } ≡ f = cc in
          let q = ap (λ (x : Field). x.next.at) (sym p) in
          record {
            label = l;
            reads = e ∙ ap (λ (t : List ℕ). got l t) ((label_at s at l rest e).next ∙ ap (λ (m : ℕ). drop m s) (sym q));
            count = ap (λ (x : Field). x.value) (sym p);
            past = q;
          }
      go (stop j) e h = absurd (let z : ◌≡◌ {A = ℕ} 0 1 = cc in omega arith)
