-- The header: magic, version, width and unit length by what stands at their places, for the code's returns.
-- Assumes nothing.
use Prim.Native.Nat.{ℕ, ◌≤◌, ◌<◌}
use mathlib.Core.Path.{◌≡◌, refl, sym, ap, ◌∙◌}
use mathlib.Core.Bool.{Bool, true, false}
use mathlib.Core.List.{List, [], ◌∷◌}
use native.Mathlib.Omega.{arith}
use borrow.Author.Tests.{eq-eqb, ne_eqb}
use lib.ListN.{length, drop, get_or}
use Rattle.std.specs.Prelude.{Ok, Err, Some, None}
use Rattle.limits.specs.Outcome.{Outcome, asked, refusal}
use Rattle.limits.specs.declared.Refused.{Refused}
use Rattle.narg.specs.Reader.{got, stop}
use Rattle.narg.specs.Cursor.{cursor, read_u32}
use Rattle.narg.specs.declared.Cursor.{Cursor}
use Rattle.narg.proofs.At.{read_u32-read, read_u32-stop}
use Rattle.reader.specs.At.{part_at}
use Rattle.reader.proofs.Found.{part-short, part-long, part-get_or}
use Rattle.header.specs.Form.{is_magic, unit_length, version_at, width_at, unit_length_at}
use Rattle.header.specs.Read.{read_magic, read_header}
use Rattle.header.specs.Answers.{header_field}

-- do the first four bytes make the magic?
abbrev magic_in : List ℕ → ℕ → Bool
magic_in s last = is_magic (get_or s 0 0) (get_or s 1 0) (get_or s 2 0) (get_or s 3 0) last

module _ (last version : ℕ) where
  magic-short : (s : List ℕ) → length s < 4 → read_magic last version s ≡ stop 20
  unfolding read_magic
  magic-short [] h = refl
  magic-short (a ∷ []) h = refl
  magic-short (a ∷ b ∷ []) h = refl
  magic-short (a ∷ b ∷ c ∷ []) h = refl
  magic-short (a ∷ b ∷ c ∷ d ∷ rest) h = absurd (omega arith)

  magic-no : (s : List ℕ) → 4 ≤ length s → magic_in s last ≡ false → read_magic last version s ≡ stop 21
  unfolding read_magic
  magic-no [] h t = absurd (omega arith)
  magic-no (a ∷ []) h t = absurd (omega arith)
  magic-no (a ∷ b ∷ []) h t = absurd (omega arith)
  magic-no (a ∷ b ∷ c ∷ []) h t = absurd (omega arith)
  magic-no (a ∷ b ∷ c ∷ d ∷ rest) h t = rw t

  version-short : (s : List ℕ) → 4 ≤ length s → magic_in s last ≡ true → length s < 5 → read_magic last version s ≡ stop 20
  unfolding read_magic
  version-short [] h t k = absurd (omega arith)
  version-short (a ∷ []) h t k = absurd (omega arith)
  version-short (a ∷ b ∷ []) h t k = absurd (omega arith)
  version-short (a ∷ b ∷ c ∷ []) h t k = absurd (omega arith)
  version-short (a ∷ b ∷ c ∷ d ∷ []) h t k = rw t
  version-short (a ∷ b ∷ c ∷ d ∷ v ∷ rest) h t k = absurd (omega arith)

  version-no : (s : List ℕ) → 5 ≤ length s → magic_in s last ≡ true → (get_or s version_at 0 ≡ version → ⊥) → read_magic last version s ≡ stop 22
  unfolding read_magic
  version-no [] h t k = absurd (omega arith)
  version-no (a ∷ []) h t k = absurd (omega arith)
  version-no (a ∷ b ∷ []) h t k = absurd (omega arith)
  version-no (a ∷ b ∷ c ∷ []) h t k = absurd (omega arith)
  version-no (a ∷ b ∷ c ∷ d ∷ []) h t k = absurd (omega arith)
  version-no (a ∷ b ∷ c ∷ d ∷ v ∷ rest) h t k = rw (t, ne_eqb v version k)

  magic-yes : (s : List ℕ) → 5 ≤ length s → magic_in s last ≡ true → get_or s version_at 0 ≡ version → read_magic last version s ≡ got tt (drop width_at s)
  unfolding read_magic
  magic-yes [] h t k = absurd (omega arith)
  magic-yes (a ∷ []) h t k = absurd (omega arith)
  magic-yes (a ∷ b ∷ []) h t k = absurd (omega arith)
  magic-yes (a ∷ b ∷ c ∷ []) h t k = absurd (omega arith)
  magic-yes (a ∷ b ∷ c ∷ d ∷ []) h t k = absurd (omega arith)
  magic-yes (a ∷ b ∷ c ∷ d ∷ v ∷ rest) h t k = rw (t, eq-eqb v version k)

-- the same by the two parts that hold magic and version
module _ (s front mark : List ℕ) (ef : front ≡ part_at s 0 version_at) (em : mark ≡ part_at s version_at 1) (last version : ℕ) where
  pub part-magic-short : length front < 4 → read_magic last version s ≡ stop 20
  part-magic-short h = magic-short last version s (part-short s 0 version_at front ef h)

  module _ (h : 4 ≤ length front) where
    long : 4 ≤ length s
    long = part-long s 0 version_at front ef (omega arith) h

    same : magic_in s last ≡ magic_in front last
    same =
        let b = part-get_or s 0 version_at front ef long in
        rw (b 0 (omega arith), b 1 (omega arith), b 2 (omega arith), b 3 (omega arith))

    pub part-magic-no : magic_in front last ≡ false → read_magic last version s ≡ stop 21
    part-magic-no t = magic-no last version s long (same ∙ t)

    module _ (t : magic_in front last ≡ true) where
      pub part-version-short : length mark < 1 → read_magic last version s ≡ stop 20
      part-version-short k = version-short last version s long (same ∙ t) (part-short s version_at 1 mark em k)

      module _ (k : 1 ≤ length mark) where
        longer : 5 ≤ length s
        longer = part-long s version_at 1 mark em (omega arith) k

        mark-is : get_or mark 0 0 ≡ get_or s version_at 0
        mark-is = part-get_or s version_at 1 mark em longer 0 (omega arith)

        pub part-version-no : (get_or mark 0 0 ≡ version → ⊥) → read_magic last version s ≡ stop 22
        part-version-no n = version-no last version s longer (same ∙ t) (λ z. n (mark-is ∙ z))

        pub part-magic-yes : get_or mark 0 0 ≡ version → read_magic last version s ≡ got tt (drop width_at s)
        part-magic-yes y = magic-yes last version s longer (same ∙ t) (sym mark-is ∙ y)

-- the header by its fields
module _ (last version width : ℕ) (s : List ℕ) where
  pub header-stop : (k : ℕ) → read_magic last version s ≡ stop k → read_header last version width s ≡ stop k
  unfolding read_header
  header-stop k e = rw e

  module _ (front : read_magic last version s ≡ got tt (drop width_at s)) where
    pub width-short : read_u32 s width_at ≡ None → read_header last version width s ≡ stop 20
    unfolding read_header
    width-short e = rw (front, read_u32-stop s width_at e)

    module _ (w : ℕ) (c : Cursor) (ew : read_u32 s width_at ≡ Some (w, c)) where
      pub width-no : (w ≡ width → ⊥) → read_header last version width s ≡ stop 23
      unfolding read_header
      width-no h = rw (front, (read_u32-read s width_at w c ew).reads, ne_eqb w width h)

      module _ (h : w ≡ width) where
        pub unit-short : read_u32 s unit_length_at ≡ None → read_header last version width s ≡ stop 20
        unfolding read_header
        unit-short e = rw (front, (read_u32-read s width_at w c ew).reads, eq-eqb w width h, read_u32-stop s unit_length_at e)

        module _ (n : ℕ) (d : Cursor) (en : read_u32 s unit_length_at ≡ Some (n, d)) where
          pub unit-no : (n ≡ unit_length → ⊥) → read_header last version width s ≡ stop 24
          unfolding read_header
          unit-no l = rw (front, (read_u32-read s width_at w c ew).reads, eq-eqb w width h, (read_u32-read s unit_length_at n d en).reads, ne_eqb n unit_length l)

          pub header-yes : n ≡ unit_length → Ok (record { value = 0; extra = 0; next = d }) ≡ header_field (read_header last version width s)
          unfolding read_header
          header-yes l =
              let u = read_u32-read s unit_length_at n d en in
              ap (λ (at : ℕ). Ok (record { value = 0; extra = 0; next = cursor at })) u.past
              ∙ rw (front, (read_u32-read s width_at w c ew).reads, eq-eqb w width h, u.reads, eq-eqb n unit_length l)

-- ---- one question, by its answer
pub asked-yes : (k : ℕ) (says : Bool) {r : Outcome} {u : Unit {0}} → r ≡ asked k says → r ≡ Ok u → says ≡ true
asked-yes k true is was = refl
asked-yes k false is was = cc

pub asked-no : (k : ℕ) (says : Bool) {r : Outcome} {e : Refused} → r ≡ asked k says → r ≡ Err e → (says ≡ false) × (e ≡ refusal k)
asked-no k true is was = cc
asked-no k false is was = (refl, cc)
