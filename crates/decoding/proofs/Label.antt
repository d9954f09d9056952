-- The label of an accepted read is the part of the bytes behind the header and the length, so that what a reader takes
-- there is the label. Assumes nothing.
use Prim.Native.Nat.{ℕ, ◌+◌, ◌≤◌}
use mathlib.Core.Path.{◌≡◌, refl, sym, ap, ◌∙◌}
use mathlib.Core.List.{List}
use native.Mathlib.Omega.{arith}
use denote.Ref.{Bor}
use lib.ListN.{length, take, drop}
use Rattle.std.specs.Prelude.{Result, Ok, Err}
use Rattle.limits.specs.declared.Refused.{Refused}
use Rattle.limits.specs.Questions.{first_no}
use Rattle.narg.specs.Reader.{Got, got, stop, ◌>>◌, give, number}
use Rattle.reader.specs.At.{part_at, place_at}
use Rattle.reader.proofs.Found.{part_at-some, place_at-some}
use Rattle.validated.specs.Validated.{gate_no}
use Rattle.header.specs.Form.{letter_i, version}
use Rattle.header.specs.Read.{read_header}
use Rattle.header.proofs.Got.{took, asked}
use Rattle.parts.proofs.Label.{label_at}
use Rattle.decoding.specs.Read.{Rooms, Rule, File, file, read_label, read_parts, increasing, ended, read_file, read_instance}
use Rattle.decoding.specs.Answers.{read_asks, instance_from_bytes, instance_answer, header_end, label_start, label_read, label_place, Stores, rooms_of, InstanceReads, FileReads}
use Rattle.decoding.specs.Records.{InstanceRead, told_instance, outcome_only}
use Rattle.decoding.specs.declared.InstanceRead.{InstanceRead as Read}
use Rattle.decoding.specs.declared.InstanceFile.{InstanceFile}
use Rattle.decoding.proofs.After.{number-got, after-some, ended-got}
use Rattle.decoding.proofs.Files.{header-end}

-- ---- where it lies
-- a label lies in the bytes
pub record Lies (s : List ℕ) (label : List ℕ) : Type 0 where
  pub inside : label_start + length label ≤ length s
  pub is : take (length label) (drop label_start s) ≡ label

pub label-lies : (rule : Rule) (version width : ℕ) (m : Rooms) (s : List ℕ) (f : File) (rest : List ℕ) → read_instance rule version width m s ≡ got f rest → Lies s f.label
unfolding read_instance read_file
label-lies rule version width m s f rest e =
    took (read_file version width m s) _ f rest e (λ f₁ r₁ e₁ n₁.
    let n₂ = number-got (first_no (rule f₁.parts)) r₁ (number (gate_no f₁.parts m.scratch) >> ended >> give f₁) f rest n₁ in
    let n₃ = number-got (gate_no f₁.parts m.scratch) r₁ (ended >> give f₁) f rest n₂ in
    let same : f₁ ≡ f = (ended-got r₁ f₁ f rest n₃).1 in
    took (read_header letter_i version width s) _ f₁ r₁ e₁ (λ w h eh n₄.
    took (read_label h) _ f₁ r₁ n₄ (λ l r₅ el n₅.
    took (read_parts width m r₅) _ f₁ r₁ n₅ (λ ps r₆ ep n₆.
    asked 27 (increasing ps.publics) r₆ _ f₁ r₁ n₆ (λ t n₇.
    let names : file l ps ≡ f₁ = cc in
    let a = label_at s header_end l r₅ (ap read_label (sym (header-end version width s w h eh)) ∙ el) in
    rw (← same, ← names) (record { inside = a.inside; is = a.is }))))))

module _ (rule : Rule) (width : ℕ) (s : List ℕ) (m : Rooms) where
  abbrev g : Got File
  g = instance_from_bytes rule width s m

  -- what is got was read
  got_read : (f : File) (rest : List ℕ) → g ≡ got f rest → read_instance rule version width m s ≡ got f rest
  unfolding instance_from_bytes
  got_read f rest e = (after-some (first_no (read_asks width m)) _ f rest e).1

  -- the part that a reader takes by the answer is the label, where the contract says that it lies
  pub record Taken (r : InstanceRead) : Type 0 where
    pub label : part_at s r.label.at r.label.len ≡ label_read g
    pub place : (p : ℕ × ℕ) → place_at s r.label.at r.label.len p ≡ label_place g p

  pub label-taken : (r : InstanceRead) → r ≡ instance_answer width g → Taken r
  label-taken r e = go g refl
    where
      go : (y : Got File) → g ≡ y → Taken r
      go (got f rest) i =
          let l = label-lies rule version width m s f rest (got_read f rest i) in
          let a = e ∙ ap (instance_answer width) i in
          record {
            label = rw (a, i) (sym (part_at-some s label_start (length f.label) l.inside) ∙ l.is);
            place = λ p. rw (a, i) (sym (place_at-some s label_start (length f.label) p l.inside));
          }
      go (stop k) i =
          let a = e ∙ ap (instance_answer width) i in
          record {
            label = rw (a, i) (sym (part_at-some s 0 0 (omega arith)));
            place = λ p.
                let z : 0 + p.1 ≡ p.1 = omega arith in
                rw (a, i) (sym (place_at-some s 0 0 p (omega arith)) ∙ ap (λ (n : ℕ). (p.0, n)) z);
          }

-- an answer by place and length, and the part that a reader takes by it
module _ (rule : Rule) (width : ℕ) (x : Bor (List ℕ)) (before after : Stores) (r : Result Read Refused)
    (h : InstanceReads rule (instance_answer width) width x.now before after (told_instance r)) where
  pub file-refused : (out : Result InstanceFile Refused) (why : Refused) → out ≡ Err why → r ≡ Err why → FileReads rule width x before after out
  file-refused out why i e =
      let a = ap told_instance (sym e) ∙ h.answer in
      record { outcome = ap outcome_only i ∙ ap (λ (y : InstanceRead). y.outcome) a; file = rw i tt; left = h.left }

  pub file-reads : (read : Read) → r ≡ Ok read
      → (m : Bor (List ℕ)) → m.now ≡ part_at x.now read.label.at read.label.len → m.ref_ptr ≡ place_at x.now read.label.at read.label.len x.ref_ptr
      → FileReads rule width x before after (Ok (record { instance = read.instance; label = m }))
  file-reads read i m e p =
      let a = ap told_instance (sym i) ∙ h.answer in
      let t = label-taken rule width x.now (rooms_of before) (told_instance (Ok read)) a in
      record {
        outcome = ap (λ (y : InstanceRead). y.outcome) a;
        file = record { instance = ap (λ (y : InstanceRead). y.instance) a; label = e ∙ t.label; place = p ∙ t.place x.ref_ptr };
        left = h.left;
      }
