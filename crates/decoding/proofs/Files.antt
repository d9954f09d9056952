-- An instance read: the ends of reading the file and the whole; what is answered, and what is left of the stores.
-- Assumes nothing.
use Prim.Native.Nat.{ℕ, ◌+◌, ◌-◌, ◌≤◌, ◌<◌}
use mathlib.Core.Path.{◌≡◌, refl, sym, ap, ◌∙◌, subst}
use mathlib.Core.Bool.{Bool, true, false}
use mathlib.Core.List.{List}
use native.Mathlib.Omega.{arith}
use lib.ListN.{length, drop, replicate, drop_of_length-le}
use lib.Seq.{drop-cons}
use Rattle.limits.specs.Outcome.{refusal}
use Rattle.std.specs.Prelude.{Result, Err, Ok, is_err}
use Rattle.limits.specs.declared.Refused.{Refused}
use Rattle.limits.specs.Questions.{◌▸◌, ask, first_no}
use Rattle.limits.specs.Asks.{store_asks}
use Rattle.limits.proofs.Questions.{both, first_no-append, ▸-zero, stays, goes_on}
use Rattle.words.specs.Store.{All}
use Rattle.narg.specs.Reader.{Got, got, stop, ◌>>◌, give, number}
use Rattle.narg.specs.Cursor.{cursor}
use Rattle.narg.specs.declared.Cursor.{Cursor}
use Rattle.instance.specs.Parts.{Parts, pairs_at, parts_of}
use Rattle.validated.specs.Validated.{gate_no}
use Rattle.instance.specs.declared.PermutationInstance.{PermutationInstance}
use Rattle.header.specs.Form.{letter_i, version}
use Rattle.header.specs.Read.{read_header}
use Rattle.header.specs.Answers.{header_field}
use Rattle.header.specs.declared.Field.{Field}
use Rattle.header.proofs.Got.{took, asked, field-got}
use Rattle.items.specs.Answers.{got_after}
use Rattle.items.proofs.Lists.{after-no, after-yes}
use Rattle.parts.specs.Answers.{read_parts_asks, label_past, label_field, parts_from, parts_end, PartsReads}
use Rattle.parts.specs.Told.{PartsStored, parts_here}
use Rattle.parts.proofs.Label.{LabelGot, label_at}
use Rattle.parts.proofs.Parts.{from-here, PartsGot, parts_at, pairs-held, parts_held}
use Rattle.zero_wire.proofs.Zero.{starts-where-listed}
use Rattle.decoding.specs.Read.{Rooms, rooms, Rule, File, file, read_label, read_parts, increasing, is_empty, ended, read_file, read_instance}
use Rattle.decoding.specs.Records.{told_instance}
use Rattle.decoding.specs.Answers.{read_asks, instance_from_bytes, header_end, label_start, instance_answer, Stores, stores, rooms_of, instance_got, InstanceReads}
use Rattle.decoding.specs.Given.{read_at, file_read, rule_of, rule_no, file_end, file_answer, FileLeft, file_here, FileTold, Kept, InstanceLeft, instance_here, whole_answer, InstanceTold}
use Rattle.decoding.specs.declared.InstanceRead.{InstanceRead}
use Rattle.decoding.proofs.After.{need-after, number-after, after-after}

-- ---- the header's end
pub header-end : (version width : ℕ) (s : List ℕ) (u : Unit {0}) (r : List ℕ) → read_header letter_i version width s ≡ got u r → r ≡ drop header_end s
header-end version width s u r e =
    let f : Field = record { value = 0; extra = 0; next = cursor header_end } in
    let g = field-got letter_i version width s (header_field (read_header letter_i version width s)) refl f (ap header_field e) in
    let z : got u r ≡ got tt (drop header_end s) = sym e ∙ g in
    cc

pub header-past : (last width : ℕ) (s : List ℕ) (r : Result Field Refused) → r ≡ header_field (read_header last version width s) → (f : Field) → r ≡ Ok f → f.next.at ≡ header_end
header-past last width s r e f i = go (read_header last version width s) (sym e ∙ i)
  where
    go : (g : Got (Unit {0})) → header_field g ≡ Ok f → f.next.at ≡ header_end
    go (got u r) h =
        let z : record { value = 0; extra = 0; next = cursor header_end } ≡ f = cc in
        ap (λ (x : Field). x.next.at) (sym z)
    go (stop j) h = absurd (let z : ◌≡◌ {A = ℕ} 0 1 = cc in omega arith)

-- ---- nothing left over
empty_left : (s : List ℕ) (end : ℕ) → end < length s → is_empty (drop end s) ≡ false
empty_left s end h = rw (drop-cons s end 0 h)

pub ended-left : {B : Type 0} (s : List ℕ) (end : ℕ) (b : B) → end < length s → (ended >> give b) (drop end s) ≡ stop 28
ended-left s end b h = rw (empty_left s end h)

pub ended-yes : {B : Type 0} (s : List ℕ) (end : ℕ) (b : B) → length s ≤ end → (ended >> give b) (drop end s) ≡ got b (drop end s)
ended-yes s end b h = rw (drop_of_length-le s h)

-- ---- the file
module _ (width : ℕ) (s p q e : List ℕ) (yes : first_no (read_parts_asks width (rooms (length p) (length q) (length e) 0)) ≡ 0) where
  abbrev here : Got File
  here = file_here width s p q e

  pub header-no : (k : ℕ) → read_header letter_i version width s ≡ stop k → here ≡ stop k
  unfolding read_file
  header-no k f = rw f

  module _ (c : Cursor) (eh : read_header letter_i version width s ≡ got tt (drop c.at s)) where
    pub label-no : (k : ℕ) → read_label (drop c.at s) ≡ stop k → here ≡ stop k
    unfolding read_file
    label-no k f = rw (eh, f)

    module _ (rl : Result Field Refused) (al : rl ≡ label_field c.at (read_label (drop c.at s))) (n : ℕ) (c1 : Cursor) (gl : LabelGot s c.at rl al n c1) where
      -- a label that ends at a cursor begins so many bytes before it
      pub label-fits : n ≤ c1.at
      label-fits = let a = gl.count in let b = gl.past in omega arith

      parts_are : parts_from width s c1.at p q e ≡ parts_here width s c1.at p q e
      parts_are = from-here width s c1.at p q e yes

      pub parts-no : (k : ℕ) → parts_from width s c1.at p q e ≡ stop k → here ≡ stop k
      unfolding read_file
      parts-no k f = rw (eh, gl.reads, sym parts_are ∙ f)

      module _ (p' q' e' : List ℕ) (rp : Result (PermutationInstance × Cursor) Refused) (hp : PartsReads width s c1.at p q e p' q' e' rp) (ins : PermutationInstance) (end : Cursor)
          (gp : PartsGot width s c1.at p q e p' q' e' rp hp ins end) where
        parts-got : read_parts width (rooms (length p) (length q) (length e) 0) (drop c1.at s) ≡ got gp.parts gp.rest
        parts-got = sym parts_are ∙ gp.reads

        abbrev f : File
        f = file gl.label gp.parts

        -- after the parts: 27
        order-here : here ≡ got_after (ask 27 (increasing gp.parts.publics)) (got f gp.rest)
        unfolding read_file
        order-here = rw (eh, gl.reads, parts-got) (need-after 26 (increasing gp.parts.publics) gp.rest (give f))

        module _ (no : ℕ) (ao : no ≡ ask 27 (increasing (pairs_at ins.publics p'))) where
          order_is : no ≡ ask 27 (increasing gp.parts.publics)
          order_is = ao ∙ ap (λ l. ask 27 (increasing l)) (pairs-held width gp.parts ins gp.is p q e p' q' e' gp.stored)

          pub order-no : (no ≡ 0 → ⊥) → here ≡ stop no
          order-no h = order-here ∙ after-no _ _ no order_is h

          pub file-told : no ≡ 0 → c.at ≡ header_end → (r : InstanceRead) → r ≡ read_at ins (c1.at - n) n → FileTold width s p q e p' q' e' (Ok (r, end))
          unfolding FileLeft
          file-told z i r er =
              let g : here ≡ got f gp.rest = order-here ∙ after-yes _ _ no order_is z in
              let a = gl.count in
              let b = gl.past in
              let start : c1.at - n ≡ label_start = omega arith in
              let past : c1.at ≡ label_past header_end gl.label = omega arith in
              let last = gp.past ∙ ap (λ (m : ℕ). parts_end m gp.parts) past in
              record {
                answer =
                    ap (λ (x : InstanceRead). Ok (x, end)) (er ∙ (λ j. read_at (gp.is j) (start j) (a j)))
                    ∙ (λ j. Ok (file_read width f, cursor (last j)))
                    ∙ sym (ap (file_answer width) g);
                left = rw g gp.stored;
              }

-- a refusal
pub file-no : (width : ℕ) (s p q e p' q' e' : List ℕ) (r : Result (InstanceRead × Cursor) Refused) (why : Refused) → r ≡ Err why → file_here width s p q e ≡ stop why.0
    → FileTold width s p q e p' q' e' r
unfolding FileLeft
file-no width s p q e p' q' e' r why i x = record { answer = i ∙ sym (ap (file_answer width) x); left = rw x tt }

-- ---- what a file's answer tells
-- where it ends, that its publics increase, and that each query has 2w cells
record FileAt (width : ℕ) (s : List ℕ) (f : File) (rest : List ℕ) : Type 0 where
  order : increasing f.parts.publics ≡ true
  next : rest ≡ drop (file_end f) s
  cells : All (λ x. length x ≡ width + width) f.parts.queries

file-at : (width : ℕ) (m : Rooms) (s : List ℕ) (f : File) (rest : List ℕ) → read_file version width m s ≡ got f rest → FileAt width s f rest
unfolding read_file
file-at width m s f rest e =
    took (read_header letter_i version width s) _ f rest e (λ u r₁ e₁ n₁.
    took (read_label r₁) _ f rest n₁ (λ l r₂ e₂ n₂.
    took (read_parts width m r₂) _ f rest n₂ (λ ps r₃ e₃ n₃.
    asked 27 (increasing ps.publics) r₃ _ f rest n₃ (λ t n₄.
    let same : file l ps ≡ f = cc in
    let last : r₃ ≡ rest = cc in
    let i₁ = header-end version width s u r₁ e₁ in
    let i₂ = (label_at s header_end l r₂ (ap read_label (sym i₁) ∙ e₂)).next in
    let p = parts_at width m s (label_past header_end l) ps r₃ (ap (read_parts width m) (sym i₂) ∙ e₃) in
    record {
      order = subst (λ (x : File). increasing x.parts.publics ≡ true) same t;
      next = sym last ∙ p.next ∙ ap (λ (x : File). drop (file_end x) s) same;
      cells = subst (λ (x : File). All (λ y. length y ≡ width + width) x.parts.queries) same p.cells;
    }))))

module _ (width : ℕ) (s p q e p' q' e' : List ℕ) (r : Result (InstanceRead × Cursor) Refused) (h : FileTold width s p q e p' q' e' r) where
  pub file-refused : (why : Refused) → r ≡ Err why → file_here width s p q e ≡ stop why.0
  file-refused why i = go (file_here width s p q e) (sym h.answer ∙ i)
    where
      go : (y : Got File) → file_answer width y ≡ Err why → y ≡ stop why.0
      go (got f rest) z = absurd (let n : ◌≡◌ {A = ℕ} 0 1 = cc in omega arith)
      go (stop j) z =
          let n : refusal j ≡ why = cc in
          ap (λ (x : Refused). stop x.0) n

  -- a file that was got, and stored
  pub record FileGiven (read : InstanceRead) (end : Cursor) : Type 0 where
    pub file : File
    pub reads : file_here width s p q e ≡ got file (drop end.at s)
    pub is : read ≡ file_read width file
    pub stored : PartsStored file.parts p q e p' q' e'
    pub holds : parts_of read.instance p' q' e' ≡ file.parts
    pub pairs : pairs_at read.instance.publics p' ≡ file.parts.publics
    pub order : increasing file.parts.publics ≡ true

  pub file-got : (read : InstanceRead) (end : Cursor) → r ≡ Ok (read, end) → FileGiven read end
  unfolding FileLeft
  file-got read end i = go (file_here width s p q e) refl (sym h.answer ∙ i)
    where
      go : (y : Got File) → file_here width s p q e ≡ y → file_answer width y ≡ Ok (read, end) → FileGiven read end
      go (got f rest) g z =
          let w : ◌≡◌ {A = InstanceRead × Cursor} (file_read width f, cursor (file_end f)) (read, end) = cc in
          let n = ap (λ (x : InstanceRead × Cursor). x.0) w in
          let c = ap (λ (x : InstanceRead × Cursor). x.1) w in
          let a = file-at width (rooms (length p) (length q) (length e) 0) s f rest g in
          let st : PartsStored f.parts p q e p' q' e' = subst (λ (x : Got File). FileLeft x p q e p' q' e') g h.left in
          record {
            file = f;
            reads = g ∙ ap (λ (t : List ℕ). got f t) (a.next ∙ ap (λ (x : Cursor). drop x.at s) c);
            is = sym n;
            stored = st;
            holds = parts_held width f.parts read.instance (ap (λ (x : InstanceRead). x.instance) (sym n)) p q e p' q' e' st a.cells;
            pairs = pairs-held width f.parts read.instance (ap (λ (x : InstanceRead). x.instance) (sym n)) p q e p' q' e' st;
            order = a.order;
          }
      go (stop j) g z = absurd (let n : ◌≡◌ {A = ℕ} 0 1 = cc in omega arith)

-- ---- what the rule asks, by the pairs that a store holds
pub rule-is : (strict : Bool) (parts : Parts) → increasing parts.publics ≡ true
    → rule_no strict parts.vars parts.publics ≡ first_no (rule_of strict parts)
rule-is true parts o = ap (ask 46) (sym (starts-where-listed parts o)) ∙ sym (▸-zero _)
rule-is false parts o = refl

-- ---- the whole: the file, the rule, the gate and the end
module _ (rule : Rule) (width : ℕ) (s : List ℕ) (before : Stores) where
  abbrev whole : Got File
  whole = instance_here rule width s before

  abbrev inner : Got File
  inner = file_here width s before.publics before.queries before.equations

  same-file : read_file version width (rooms_of before) s ≡ inner
  unfolding read_file read_parts
  same-file = refl

  pub whole-refused : (k : ℕ) → inner ≡ stop k → whole ≡ stop k
  unfolding read_instance
  whole-refused k f = rw (same-file, f)

  module _ (f : File) (end : ℕ) (ef : inner ≡ got f (drop end s)) where
    abbrev gate : ℕ
    gate = gate_no f.parts (length before.scratch)

    asked_here : whole ≡ got_after (first_no (rule f.parts) ▸ gate) ((ended >> give f) (drop end s))
    unfolding read_instance
    asked_here =
        rw (same-file, ef)
        (number-after (first_no (rule f.parts)) (drop end s) (number gate >> ended >> give f)
        ∙ ap (got_after (first_no (rule f.parts))) (number-after gate (drop end s) (ended >> give f))
        ∙ after-after (first_no (rule f.parts)) gate _)

    module _ (first : ℕ) (b : first ≡ first_no (rule f.parts)) where
      pub rule-refused : (first ≡ 0 → ⊥) → whole ≡ stop first
      rule-refused h = asked_here ∙ after-no _ _ first (sym (stays first gate h) ∙ ap (λ (n : ℕ). n ▸ gate) b) h

      module _ (z : first ≡ 0) (no : ℕ) (ps : Parts) (same : ps ≡ f.parts) (a : no ≡ gate_no ps (length before.scratch)) where
        asked_is : no ≡ first_no (rule f.parts) ▸ gate
        asked_is = a ∙ ap (λ (x : Parts). gate_no x (length before.scratch)) same ∙ sym (goes_on (first_no (rule f.parts)) gate (sym b ∙ z))

        pub gate-refused : (no ≡ 0 → ⊥) → whole ≡ stop no
        gate-refused h = asked_here ∙ after-no _ _ no asked_is h

        module _ (y : no ≡ 0) where
          pub end_refused : end < length s → whole ≡ stop 28
          end_refused h = asked_here ∙ after-yes _ _ no asked_is y ∙ ended-left s end f h

          pub whole-yes : length s ≤ end → whole ≡ got f (drop end s)
          whole-yes h = asked_here ∙ after-yes _ _ no asked_is y ∙ ended-yes s end f h

-- ---- 1 and 2 first
module _ (rule : Rule) (width : ℕ) (bytes : List ℕ) (before : Stores) where
  abbrev got-file : Got File
  got-file = instance_got rule width bytes before

  pub asked-no : (no : ℕ) → no ≡ first_no (read_asks width (rooms_of before)) → (no ≡ 0 → ⊥) → got-file ≡ stop no
  unfolding instance_from_bytes
  asked-no k a h = after-no (first_no (read_asks width (rooms_of before))) (instance_here rule width bytes before) k a h

  module _ (z : first_no (read_asks width (rooms_of before)) ≡ 0) where
    -- the parts' questions among them
    pub asked-parts : first_no (read_parts_asks width (rooms (length before.publics) (length before.queries) (length before.equations) 0)) ≡ 0
    asked-parts = (both _ _ (sym (first_no-append (read_parts_asks width (rooms_of before)) (store_asks (length before.scratch))) ∙ z)).0

    pub whole_is : got-file ≡ instance_here rule width bytes before
    unfolding instance_from_bytes
    whole_is = after-yes _ _ 0 (sym z) refl

  -- telling
  pub tell_no : (after : Stores) (r : Result InstanceRead Refused) (why : Refused) → r ≡ Err why → got-file ≡ stop why.0 → InstanceTold rule width bytes before after r
  unfolding InstanceLeft
  tell_no after r why i x = record { answer = i ∙ sym (ap (whole_answer width) x); left = rw x tt }

  pub tell_yes : (after : Stores) (f : File) (rest : List ℕ) → got-file ≡ got f rest → (read : InstanceRead) → read ≡ file_read width f
      → PartsStored f.parts before.publics before.queries before.equations after.publics after.queries after.equations
      → after.scratch ≡ replicate (length before.scratch) 0 → InstanceTold rule width bytes before after (Ok read)
  unfolding InstanceLeft
  tell_yes after f rest x read i st sc =
      record { answer = ap (λ (y : InstanceRead). Ok y) i ∙ sym (ap (whole_answer width) x); left = rw x (record { parts = st; scratch = sc }) }

-- ---- the open read: the stores and the scratch become 0 where it refuses
-- all 0
abbrev pub zeros : List ℕ → List ℕ
zeros s = replicate (length s) 0

abbrev pub cleared : Stores → Stores
cleared before = stores (zeros before.publics) (zeros before.queries) (zeros before.equations) (zeros before.scratch)

pub cleared-is : (before : Stores) {p q e s : List ℕ} → p ≡ zeros before.publics → q ≡ zeros before.queries → e ≡ zeros before.equations
    → s ≡ zeros before.scratch → stores p q e s ≡ cleared before
cleared-is before i j k l = λ x. stores (i x) (j x) (k x) (l x)

told-answer : (width : ℕ) (g : Got File) → told_instance (whole_answer width g) ≡ instance_answer width g
told-answer width (got f rest) = refl
told-answer width (stop k) = refl

module _ (rule : Rule) (width : ℕ) (bytes : List ℕ) (before after : Stores) (r : Result InstanceRead Refused) (t : InstanceTold rule width bytes before after r) where
  abbrev gotten : Got File
  gotten = instance_got rule width bytes before

  answered : told_instance r ≡ instance_answer width gotten
  answered = ap told_instance t.answer ∙ told-answer width gotten

  -- is it refused?
  told-err : (y : Got File) → gotten ≡ y → is_err r ≡ is_err (whole_answer width y)
  told-err y f = ap is_err (t.answer ∙ ap (whole_answer width) f)

  -- a refusal leaves all 0
  no_reads : (k : ℕ) → gotten ≡ stop k → (last : Stores) → last ≡ cleared before → InstanceReads rule (instance_answer width) width bytes before last (told_instance r)
  no_reads k f last c = record { answer = answered; left = rw (f, c) (record { publics = refl; queries = refl; equations = refl; scratch = refl }) }

  pub read_no : is_err r ≡ true → (last : Stores) → last ≡ cleared before → InstanceReads rule (instance_answer width) width bytes before last (told_instance r)
  read_no o last c = go gotten refl
    where
      go : (y : Got File) → gotten ≡ y → InstanceReads rule (instance_answer width) width bytes before last (told_instance r)
      go (got f rest) i = let w : true ≡ false = sym o ∙ told-err (got f rest) i in cc
      go (stop j) i = no_reads j i last c

  pub read-yes : is_err r ≡ false → InstanceReads rule (instance_answer width) width bytes before after (told_instance r)
  unfolding InstanceLeft
  read-yes o = go gotten refl
    where
      go : (y : Got File) → gotten ≡ y → InstanceReads rule (instance_answer width) width bytes before after (told_instance r)
      go (got f rest) i =
          let l : Kept f before after = subst (λ (x : Got File). InstanceLeft x before after) i t.left in
          record {
            answer = answered;
            left = rw i (record { publics = l.parts.publics; queries = l.parts.queries; equations = l.parts.equations; scratch = l.scratch });
          }
      go (stop j) i = let w : false ≡ true = sym o ∙ told-err (stop j) i in cc
