-- What follows from a header that was read: what each of its fields got, and where it ends. Assumes nothing.
use Prim.Native.Nat.{ℕ}
use mathlib.Core.Path.{◌≡◌, refl, sym, ap, ◌∙◌}
use mathlib.Core.Bool.{Bool, true, false}
use mathlib.Core.List.{List, [], ◌∷◌}
use native.Mathlib.Omega.{arith}
use borrow.Author.Tests.{eqb-true}
use lib.Dec.{eqb}
use lib.ListN.{drop}
use lib.Seq.{drop-drop}
use Rattle.std.specs.Prelude.{Result, Ok, Err}
use Rattle.limits.specs.Outcome.{refusal}
use Rattle.limits.specs.declared.Refused.{Refused}
use Rattle.narg.specs.Reader.{Got, got, stop, on_got, Reader, ◌>>◌, need, word}
use Rattle.narg.specs.Cursor.{cursor}
use Rattle.narg.proofs.Fields.{never, word-rest}
use Rattle.header.specs.Form.{is_magic, unit_length, width_at, header_length}
use Rattle.header.specs.Read.{read_magic, read_header}
use Rattle.header.specs.Answers.{header_field}
use Rattle.header.specs.declared.Field.{Field}

-- ---- a reader and then another, a question and then a reader: what follows from what both got
pub took : {A B C : Type 0} (g : Got A) (next : A → Reader B) (b : B) (r : List ℕ) → on_got g next ≡ got b r
    → ((a : A) (m : List ℕ) → g ≡ got a m → next a m ≡ got b r → C) → C
took (got a m) next b r e k = k a m refl e
took (stop j) next b r e k = absurd (never e)

pub asked : {B C : Type 0} (k : ℕ) (says : Bool) (bs : List ℕ) (next : Reader B) (b : B) (r : List ℕ) → (need k says >> next) bs ≡ got b r
    → (says ≡ true → next bs ≡ got b r → C) → C
asked k true bs next b r e f = f refl e
asked k false bs next b r e f = absurd (never e)

-- a question that was the last
pub need-last : (k : ℕ) (says : Bool) (bs : List ℕ) (u : Unit {0}) (r : List ℕ) → need k says bs ≡ got u r → (says ≡ true) × (bs ≡ r)
need-last k true bs u r e = (refl, cc)
need-last k false bs u r e = absurd (never e)

pub got-is : {A : Type 0} {g : Got A} {a b : A} {r s : List ℕ} → g ≡ got a r → a ≡ b → r ≡ s → g ≡ got b s
got-is e p q = rw (← p, ← q) e

-- a header that was read, and what is left after its fields
pub record HeaderGot (last version width : ℕ) (bs r : List ℕ) : Type 0 where
  pub after_magic : List ℕ
  pub after_width : List ℕ
  pub magic_got : read_magic last version bs ≡ got tt after_magic
  pub width_got : word after_magic ≡ got width after_width
  pub unit_got : word after_width ≡ got unit_length r

pub header-got : (last version width : ℕ) (bs : List ℕ) (u : Unit {0}) (r : List ℕ) → read_header last version width bs ≡ got u r
    → HeaderGot last version width bs r
unfolding read_header
header-got last version width bs u r e =
    took (read_magic last version bs) _ u r e (λ m after_magic em e1.
    took (word after_magic) _ u r e1 (λ w after_width ew e2.
    asked 23 (eqb w width) after_width _ u r e2 (λ tw e3.
    took (word after_width) _ u r e3 (λ n rest en e4.
    let t = need-last 24 (eqb n unit_length) rest u r e4 in
    record {
      after_magic = after_magic;
      after_width = after_width;
      magic_got = em;
      width_got = got-is ew (eqb-true w width tw) refl;
      unit_got = got-is en (eqb-true n unit_length t.0) t.1;
    }))))

-- ---- where it ends
magic-rest : (last version : ℕ) (bs : List ℕ) (u : Unit {0}) (r : List ℕ) → read_magic last version bs ≡ got u r → r ≡ drop width_at bs
unfolding read_magic
magic-rest last version [] u r e = absurd (never e)
magic-rest last version (a ∷ []) u r e = absurd (never e)
magic-rest last version (a ∷ b ∷ []) u r e = absurd (never e)
magic-rest last version (a ∷ b ∷ c ∷ []) u r e = absurd (never e)
magic-rest last version (a ∷ b ∷ c ∷ d ∷ []) u r e =
    asked 21 (is_magic a b c d last) [] _ u r e (λ t e1. absurd (never e1))
magic-rest last version (a ∷ b ∷ c ∷ d ∷ v ∷ rest) u r e =
    asked 21 (is_magic a b c d last) (v ∷ rest) _ u r e (λ t e1.
    sym (need-last 22 (eqb v version) rest u r e1).1)

module _ (last version width : ℕ) (s : List ℕ) where
  header-rest : (u : Unit {0}) (r : List ℕ) → read_header last version width s ≡ got u r → r ≡ drop header_length s
  header-rest u r e =
      let g = header-got last version width s u r e in
      let m = magic-rest last version s tt g.after_magic g.magic_got in
      let w = (word-rest g.after_magic width g.after_width g.width_got).1 in
      let n = (word-rest g.after_width unit_length r g.unit_got).1 in
      n ∙ ap (drop 4) (w ∙ ap (drop 4) m) ∙ simp drop-drop

  -- what the answer tells
  module _ (f : Result Field Refused) (ef : f ≡ header_field (read_header last version width s)) where
    pub field-stop : (k : ℕ) → f ≡ Err (refusal k) → read_header last version width s ≡ stop k
    field-stop k e = go (read_header last version width s) (sym ef ∙ e)
      where
        go : (g : Got (Unit {0})) → header_field g ≡ Err (refusal k) → g ≡ stop k
        go (got u r) h = absurd (let z : ◌≡◌ {A = ℕ} 0 1 = cc in omega arith)
        go (stop j) h =
            let z : refusal j ≡ refusal k = cc in
            ap (λ (r : Refused). stop r.0) z

    pub field-got : (field : Field) → f ≡ Ok field → read_header last version width s ≡ got tt (drop field.next.at s)
    field-got field e = go (read_header last version width s) refl (sym ef ∙ e)
      where
        go : (g : Got (Unit {0})) → read_header last version width s ≡ g → header_field g ≡ Ok field → g ≡ got tt (drop field.next.at s)
        go (got u r) w h =
            let z : record { value = 0; extra = 0; next = cursor header_length } ≡ field = cc in
            ap (λ (l : List ℕ). got tt l) (header-rest u r w ∙ ap (λ (c : Field). drop c.next.at s) z)
        go (stop j) w h = absurd (let z : ◌≡◌ {A = ℕ} 0 1 = cc in omega arith)
