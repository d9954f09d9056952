-- What was read is what was written: bytes that a read accepts are the bytes of the parts that it gives, which
-- are sound, nothing is left over, and no question says no of them. With `read-written`: a read accepts exactly
-- the bytes of sound parts that pass 10, 27, what the rule asks, 16 and 12 to 15, and gives those parts back.
-- Assumes nothing.
use Prim.Native.Nat.{ℕ, zero, suc, ◌+◌, ◌<◌}
use mathlib.Core.Path.{◌≡◌, refl, sym, ap, ◌∙◌}
use mathlib.Core.Bool.{Bool, true, false, ◌&&◌}
use mathlib.Core.Logic.{◌↔◌}
use mathlib.Core.List.{List, [], ◌∷◌, ◌++◌, append_assoc, append-nil}
use borrow.Author.Tests.{eqb-true}
use lib.Dec.{eqb, leb}
use lib.ListN.{length}
use Rattle.limits.specs.Numbers.{prime, max_count}
use Rattle.limits.specs.Questions.{ask, first_no}
use Rattle.words.specs.Store.{All}
use Rattle.words.specs.Pieces.{words_of}
use Rattle.utf8.specs.Utf8.{is_utf8}
use Rattle.narg.specs.Bytes.{word_end, IsBytes, u32_bytes}
use Rattle.narg.specs.Reader.{got, Reader, ◌>>=◌, ◌>>◌, give, need, number, byte, word, part, wire, unit, times, items, each}
use Rattle.narg.proofs.Fields.{never, is_bytes-rest, word_back, part-back, part_length}
use Rattle.narg.proofs.Lists.{passed, need-got, items-cons, items_back}
use Rattle.allocator.specs.Slots.{Pair}
use Rattle.expr.specs.Equation.{Equation}
use Rattle.instance.specs.Parts.{Parts}
use Rattle.validated.specs.Validated.{gate_no}
use Rattle.header.specs.Form.{letter_i, letter_w, magic, header_bytes}
use Rattle.encoding.specs.Form.{label_bytes, pair_bytes, piece_bytes, equation_bytes, parts_bytes, instance_bytes, witness_bytes}
use Rattle.header.specs.Read.{read_magic, read_header}
use Rattle.decoding.specs.Read.{Rooms, File, read_label, read_pair, read_equation, pair_size, piece_size, size_of, read_publics, read_queries, read_equations, read_parts, read_steps, increasing, Rule, file, read_file, ended, read_instance, read_witness}
use Rattle.decoding.specs.Sound.{SoundPair, SoundEquation, SoundPiece, SoundFile, SoundSteps, room_asks, order_asks, got_after}
use Rattle.roundtrip.proofs.Fields.{word_below, pair-back, pair-sound, equation-back, equation-sound, piece_back, piece-sound}
use Rattle.decoding.proofs.After.{number-got, after-got, ended-got}
use Rattle.header.proofs.Got.{took, asked, need-last, got-is, HeaderGot, header-got}
use Rattle.roundtrip.proofs.Reading.{read-written, read-witness-written}

-- what is left of bytes is bytes
rest-bytes : (l r bs : List ℕ) → l ++ r ≡ bs → IsBytes bs → IsBytes r
rest-bytes l r bs e h = is_bytes-rest l r (rw e h)

-- ---- header and label
both_true : (a b : Bool) → (a && b) ≡ true → (a ≡ true) × (b ≡ true)
both_true true b e = (refl, e)
both_true false b e = (cc, cc)

byte-back : (bs : List ℕ) (a : ℕ) (r : List ℕ) → byte bs ≡ got a r → a ∷ r ≡ bs
byte-back [] a r e = absurd (never e)
byte-back (x ∷ bs) a r e = cc

magic-back : (last version : ℕ) (bs : List ℕ) (u : Unit {0}) (r : List ℕ) → read_magic last version bs ≡ got u r → magic last ++ (version ∷ r) ≡ bs
unfolding read_magic
magic-back last version [] u r e = absurd (never e)
magic-back last version (a ∷ []) u r e = absurd (never e)
magic-back last version (a ∷ b ∷ []) u r e = absurd (never e)
magic-back last version (a ∷ b ∷ c ∷ []) u r e = absurd (never e)
magic-back last version (a ∷ b ∷ c ∷ d ∷ rest) u r e =
    asked 21 (eqb a 83 && (eqb b 70 && (eqb c 82 && eqb d last))) rest _ u r e (λ t e1.
    took (byte rest) _ u r e1 (λ v after ev e2.
    let n = need-last 22 (eqb v version) after u r e2 in
    let ea = both_true _ _ t in
    let eb = both_true _ _ ea.1 in
    let ec = both_true _ _ eb.1 in
    rw (eqb-true a 83 ea.0, eqb-true b 70 eb.0, eqb-true c 82 ec.0, eqb-true d last ec.1)
    (ap (λ (l : List ℕ). magic last ++ l) (byte-back rest version r (got-is ev (eqb-true v version n.0) n.1)))))

header-back : (last version width : ℕ) (bs r : List ℕ) → IsBytes bs → HeaderGot last version width bs r
    → (header_bytes last version width ++ r ≡ bs) × (width < word_end) × IsBytes r
unfolding header_bytes
header-back last version width bs r h g =
    let bm = magic-back last version bs tt g.after_magic g.magic_got in
    let hm = rest-bytes (magic last ++ (version ∷ [])) g.after_magic bs bm h in
    let bw = word_back g.after_magic width g.after_width hm g.width_got in
    let hw = rest-bytes (u32_bytes width) g.after_width g.after_magic bw hm in
    let bn = word_back g.after_width 4 r hw g.unit_got in (
      rw (append_assoc (u32_bytes width) (u32_bytes 4) r, bn, bw) bm,
      word_below g.after_magic width g.after_width hm g.width_got,
      rest-bytes (u32_bytes 4) r g.after_width bn hw,
    )

record LabelBack (bs label r : List ℕ) : Type 0 where
  pub bytes : label_bytes label ++ r ≡ bs
  pub count : length label < word_end
  pub utf8 : is_utf8 label ≡ true
  pub rest : IsBytes r

label-join : (n : ℕ) (bs after label r : List ℕ) → u32_bytes n ++ after ≡ bs → label ++ r ≡ after → length label ≡ n → label_bytes label ++ r ≡ bs
label-join n bs after label r bn bl c = rw (append_assoc (u32_bytes (length label)) label r, bl, c) bn

label-back : (bs label r : List ℕ) → IsBytes bs → read_label bs ≡ got label r → LabelBack bs label r
unfolding read_label
label-back bs label r h e =
    let n = passed (word bs) (λ n. part n >>= λ l. need 25 (is_utf8 l) >> give l) label r e in
    let l = passed (part n.value n.rest) (λ l. need 25 (is_utf8 l) >> give l) label r n.second in
    let u = need-got 25 (is_utf8 l.value) l.rest (give l.value) label r l.second in
    let el : l.value ≡ label = cc in
    let pl = l.first ∙ u.1 in
    let c = part_length n.value n.rest label r pl in
    record {
      bytes =
          label-join n.value bs n.rest label r (word_back bs n.value n.rest h n.first)
          (part-back n.value n.rest label r pl) c;
      count = rw c (word_below bs n.value n.rest h n.first);
      utf8 = ap is_utf8 (sym el) ∙ u.0;
      rest = rest-bytes label r n.rest (part-back n.value n.rest label r pl) (rest-bytes (u32_bytes n.value) n.rest bs (word_back bs n.value n.rest h n.first) h);
    }

-- ---- a count and as many items
module _ {A : Type 0} (p : Reader A) (enc : A → List ℕ) (Good : A → Type 0)
    (back : (bs : List ℕ) (a : A) (r : List ℕ) → IsBytes bs → p bs ≡ got a r → enc a ++ r ≡ bs)
    (good : (bs : List ℕ) (a : A) (r : List ℕ) → IsBytes bs → p bs ≡ got a r → Good a) where
  items-sound : (size : A → ℕ) (room used n : ℕ) (bs : List ℕ) (xs : List A) (r : List ℕ) → IsBytes bs → items p size room used n bs ≡ got xs r → All Good xs
  items-sound size room used zero bs xs r h e = let x : [] ≡ xs = cc in rw (← x) tt
  items-sound size room used (suc n) bs xs r h e =
      let c = items-cons p bs xs r size room used n e in
      let b = back bs c.item c.rest h c.first in
      let hr = rest-bytes (enc c.item) c.rest bs b h in
      rw c.all (good bs c.item c.rest h c.first, items-sound size room (used + size c.item) n c.rest c.list r hr c.others)

  record ListedBack (bs : List ℕ) (xs : List A) (r : List ℕ) : Type 0 where
    pub bytes : u32_bytes (length xs) ++ (each enc xs ++ r) ≡ bs
    pub count : length xs < word_end
    pub sound : All Good xs
    pub rest : IsBytes r

  listed_back : (size : A → ℕ) (room : ℕ) (bs : List ℕ) (xs : List A) (r : List ℕ) → IsBytes bs → (word >>= λ n. items p size room 0 n) bs ≡ got xs r
      → ListedBack bs xs r
  listed_back size room bs xs r h e =
      let n = passed (word bs) (λ n. items p size room 0 n) xs r e in
      let bn = word_back bs n.value n.rest h n.first in
      let hn = rest-bytes (u32_bytes n.value) n.rest bs bn h in
      let l = items_back p enc back size room 0 n.value n.rest xs r hn n.second in
      record {
        bytes = rw (l.bytes, l.count) bn;
        count = rw l.count (word_below bs n.value n.rest h n.first);
        sound = items-sound size room 0 n.value n.rest xs r hn n.second;
        rest = rest-bytes (each enc xs) r n.rest l.bytes hn;
      }

-- ---- the parts
-- parts that were read, and what is left after each
record PartsGot (width : ℕ) (rooms : Rooms) (bs : List ℕ) (parts : Parts) (r : List ℕ) : Type 0 where
  pub after_vars : List ℕ
  pub after_publics : List ℕ
  pub after_queries : List ℕ
  pub vars_got : word bs ≡ got parts.vars after_vars
  pub publics_got : read_publics rooms.publics after_vars ≡ got parts.publics after_publics
  pub queries_got : read_queries width rooms.queries after_publics ≡ got parts.queries after_queries
  pub equations_got : read_equations rooms.equations after_queries ≡ got parts.equations r

abbrev parts_with : ℕ → List Pair → List (List ℕ) → List Equation → Parts
parts_with vars ps qs es = record { vars = vars; publics = ps; queries = qs; equations = es }

parts-got : (width : ℕ) (rooms : Rooms) (bs : List ℕ) (parts : Parts) (r : List ℕ) → read_parts width rooms bs ≡ got parts r
    → PartsGot width rooms bs parts r
unfolding read_parts
parts-got width rooms bs parts r e =
    took (word bs) _ parts r e (λ vars after_vars ev e1.
    took (read_publics rooms.publics after_vars) _ parts r e1 (λ ps after_publics ep e2.
    took (read_queries width rooms.queries after_publics) _ parts r e2 (λ qs after_queries eq e3.
    took (read_equations rooms.equations after_queries) _ parts r e3 (λ es rest ee e4.
    let is : parts_with vars ps qs es ≡ parts = cc in
    record {
      after_vars = after_vars;
      after_publics = after_publics;
      after_queries = after_queries;
      vars_got = got-is ev (ap (λ (x : Parts). x.vars) is) refl;
      publics_got = got-is ep (ap (λ (x : Parts). x.publics) is) refl;
      queries_got = got-is eq (ap (λ (x : Parts). x.queries) is) refl;
      equations_got = got-is ee (ap (λ (x : Parts). x.equations) is) cc;
    }))))

record PartsBack (width : ℕ) (bs : List ℕ) (parts : Parts) (r : List ℕ) : Type 0 where
  pub bytes : parts_bytes parts ++ r ≡ bs
  pub vars : parts.vars < word_end
  pub publics_count : length parts.publics < word_end
  pub publics : All SoundPair parts.publics
  pub queries_count : length parts.queries < word_end
  pub queries : All (SoundPiece max_count width) parts.queries
  pub equations_count : length parts.equations < word_end
  pub equations : All SoundEquation parts.equations

parts-back : (width : ℕ) (rooms : Rooms) (bs : List ℕ) (parts : Parts) (r : List ℕ) → IsBytes bs → PartsGot width rooms bs parts r
    → PartsBack width bs parts r
unfolding read_publics read_queries read_equations
parts-back width rooms bs parts r h g =
    let bv = word_back bs parts.vars g.after_vars h g.vars_got in
    let hv = rest-bytes (u32_bytes parts.vars) g.after_vars bs bv h in
    let bp = listed_back read_pair pair_bytes SoundPair pair-back (λ b a t i. pair-sound b a t) pair_size rooms.publics
    g.after_vars parts.publics g.after_publics hv g.publics_got in
    let bq = listed_back (times wire (width + width)) piece_bytes (SoundPiece max_count width) (piece_back max_count 3 width)
    (λ b a t i. piece-sound max_count 3 width b a t) (piece_size width) rooms.queries
    g.after_publics parts.queries g.after_queries bp.rest g.queries_got in
    let be = listed_back read_equation equation_bytes SoundEquation equation-back equation-sound size_of rooms.equations
    g.after_queries parts.equations r bq.rest g.equations_got in
    record {
      bytes = simp append_assoc (rw (be.bytes, bq.bytes, bp.bytes) bv);
      vars = word_below bs parts.vars g.after_vars h g.vars_got;
      publics_count = bp.count;
      publics = bp.sound;
      queries_count = bq.count;
      queries = bq.sound;
      equations_count = be.count;
      equations = be.sound;
    }

-- ---- SFRI
pub record FileRead (rule : Rule) (version width : ℕ) (rooms : Rooms) (bytes : List ℕ) (label : List ℕ) (parts : Parts) (rest : List ℕ) : Type 0 where
  pub written : instance_bytes version width label parts ≡ bytes
  pub sound : SoundFile width label parts
  pub passes : first_no (room_asks width rooms parts ++ order_asks rule rooms parts) ≡ 0
  pub ended : rest ≡ []

-- a file that was read, and what is left after each part
record FileGot (version width : ℕ) (rooms : Rooms) (bs label : List ℕ) (parts : Parts) : Type 0 where
  pub after_header : List ℕ
  pub after_label : List ℕ
  pub header_got : HeaderGot letter_i version width bs after_header
  pub label_got : read_label after_header ≡ got label after_label
  pub parts_got : PartsGot width rooms after_label parts []

file-got : (rule : Rule) (version width : ℕ) (rooms : Rooms) (bs label : List ℕ) (parts : Parts) (rest : List ℕ)
    → read_instance rule version width rooms bs ≡ got (file label parts) rest → FileGot version width rooms bs label parts
unfolding read_instance read_file
file-got rule version width rooms bs label parts rest e =
    let f = file label parts in
    took (read_file version width rooms bs) _ f rest e (λ x after ex e1.
    let r = number-got (first_no (rule x.parts)) after (number (gate_no x.parts rooms.scratch) >> ended >> give x) f rest e1 in
    let n = number-got (gate_no x.parts rooms.scratch) after (ended >> give x) f rest r in
    let d = ended-got after x f rest n in
    let ef : read_file version width rooms bs ≡ got f [] = got-is ex d.1 d.0 in
    took (read_header letter_i version width bs) _ f [] ef (λ u after_header eh e2.
    took (read_label after_header) _ f [] e2 (λ l after_label el e3.
    took (read_parts width rooms after_label) _ f [] e3 (λ ps end ep e4.
    asked 27 (increasing ps.publics) end _ f [] e4 (λ o e5.
    let same : file l ps ≡ f = cc in
    record {
      after_header = after_header;
      after_label = after_label;
      header_got = header-got letter_i version width bs u after_header eh;
      label_got = got-is el (ap (λ (y : File). y.label) same) refl;
      parts_got = parts-got width rooms after_label parts [] (got-is ep (ap (λ (y : File). y.parts) same) cc);
    })))))

file-back : (version width : ℕ) (rooms : Rooms) (bs label : List ℕ) (parts : Parts) → IsBytes bs → FileGot version width rooms bs label parts
    → (instance_bytes version width label parts ≡ bs) × SoundFile width label parts
unfolding instance_bytes
file-back version width rooms bs label parts h g =
    let a = header-back letter_i version width bs g.after_header h g.header_got in
    let l = label-back g.after_header label g.after_label a.2 g.label_got in
    let p = parts-back width rooms g.after_label parts [] l.rest g.parts_got in
    let ep : parts_bytes parts ≡ g.after_label = sym (append-nil (parts_bytes parts)) ∙ p.bytes in (
      rw (ep, l.bytes) a.0,
      record {
        width_fits = a.1;
        label_length = l.count;
        label_utf8 = l.utf8;
        vars = p.vars;
        publics_count = p.publics_count;
        publics = p.publics;
        queries_count = p.queries_count;
        queries = p.queries;
        equations_count = p.equations_count;
        equations = p.equations;
      },
    )

pub written_read : (rule : Rule) (version width : ℕ) (rooms : Rooms) (bytes label : List ℕ) (parts : Parts) (rest : List ℕ) → IsBytes bytes
    → read_instance rule version width rooms bytes ≡ got (file label parts) rest → FileRead rule version width rooms bytes label parts rest
written_read rule version width rooms bytes label parts rest h e =
    let b = file-back version width rooms bytes label parts h (file-got rule version width rooms bytes label parts rest e) in
    let k = after-got (first_no (room_asks width rooms parts ++ order_asks rule rooms parts)) (file label parts) (file label parts) [] rest
    (sym (read-written rule version width rooms label parts b.1) ∙ ap (read_instance rule version width rooms) b.0 ∙ e) in
    record { written = b.0; sound = b.1; passes = k.0; ended = k.1 }

-- a read accepts exactly the bytes of sound parts that pass, and gives those parts back
pub reads-exactly : (rule : Rule) (version width : ℕ) (rooms : Rooms) (bytes label : List ℕ) (parts : Parts) → IsBytes bytes
    → read_instance rule version width rooms bytes ≡ got (file label parts) [] ↔ FileRead rule version width rooms bytes label parts []
reads-exactly rule version width rooms bytes label parts h = (
  λ e. written_read rule version width rooms bytes label parts [] h e,
  λ f.
      ap (read_instance rule version width rooms) (sym f.written)
      ∙ read-written rule version width rooms label parts f.sound
      ∙ ap (λ (k : ℕ). got_after k (got (file label parts) [])) f.passes,
)

-- ---- SFRW
pub record StepsRead (version width room : ℕ) (bytes : List ℕ) (steps : List (List ℕ)) (rest : List ℕ) : Type 0 where
  pub written : witness_bytes version width steps ≡ bytes
  pub sound : SoundSteps width steps
  pub passes : ask 10 (leb (words_of width (length steps)) room) ≡ 0
  pub ended : rest ≡ []

record StepsGot (version width room : ℕ) (bs : List ℕ) (steps : List (List ℕ)) : Type 0 where
  pub after_header : List ℕ
  pub header_got : HeaderGot letter_w version width bs after_header
  pub steps_got : read_steps width room after_header ≡ got steps []

steps-got : (version width room : ℕ) (bs : List ℕ) (steps : List (List ℕ)) (rest : List ℕ)
    → read_witness version width room bs ≡ got steps rest → StepsGot version width room bs steps
unfolding read_witness
steps-got version width room bs steps rest e =
    took (read_header letter_w version width bs) _ steps rest e (λ u after_header eh e1.
    took (read_steps width room after_header) _ steps rest e1 (λ ss after es e2.
    let d = ended-got after ss steps rest e2 in
    record {
      after_header = after_header;
      header_got = header-got letter_w version width bs u after_header eh;
      steps_got = got-is es d.1 d.0;
    }))

steps_back : (version width room : ℕ) (bs : List ℕ) (steps : List (List ℕ)) → IsBytes bs → StepsGot version width room bs steps
    → (witness_bytes version width steps ≡ bs) × SoundSteps width steps
unfolding witness_bytes read_steps
steps_back version width room bs steps h g =
    let a = header-back letter_w version width bs g.after_header h g.header_got in
    let l = listed_back (times unit (width + width)) piece_bytes (SoundPiece prime width) (piece_back prime 4 width)
    (λ b q t i. piece-sound prime 4 width b q t) (piece_size width) room g.after_header steps [] a.2 g.steps_got in
    let e : u32_bytes (length steps) ++ each piece_bytes steps ≡ g.after_header =
    ap (λ (x : List ℕ). u32_bytes (length steps) ++ x) (sym (append-nil (each piece_bytes steps))) ∙ l.bytes in
    (rw e a.0, record { width_fits = a.1; count = l.count; pieces = l.sound })

pub written-witness-read : (version width room : ℕ) (bytes : List ℕ) (steps : List (List ℕ)) (rest : List ℕ) → IsBytes bytes
    → read_witness version width room bytes ≡ got steps rest → StepsRead version width room bytes steps rest
written-witness-read version width room bytes steps rest h e =
    let b = steps_back version width room bytes steps h (steps-got version width room bytes steps rest e) in
    let k = after-got (ask 10 (leb (words_of width (length steps)) room)) steps steps [] rest
    (sym (read-witness-written version width room steps b.1) ∙ ap (read_witness version width room) b.0 ∙ e) in
    record { written = b.0; sound = b.1; passes = k.0; ended = k.1 }

pub reads-witness-exactly : (version width room : ℕ) (bytes : List ℕ) (steps : List (List ℕ)) → IsBytes bytes
    → read_witness version width room bytes ≡ got steps [] ↔ StepsRead version width room bytes steps []
reads-witness-exactly version width room bytes steps h = (
  λ e. written-witness-read version width room bytes steps [] h e,
  λ f.
      ap (read_witness version width room) (sym f.written)
      ∙ read-witness-written version width room steps f.sound
      ∙ ap (λ (k : ℕ). got_after k (got steps [])) f.passes,
)
