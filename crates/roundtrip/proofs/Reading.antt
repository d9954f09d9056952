-- What was written is read: the bytes of sound parts are read as those parts, up to the questions that are
-- left, which are 10 of each store, 27, what the rule asks, 16 and 12 to 15; the bytes of sound steps up to 10 of the trace.
-- Assumes nothing.
use Prim.Native.Nat.{ℕ, ◌+◌, ◌*◌, ◌<◌}
use mathlib.Core.Path.{◌≡◌, refl, sym, ap, ◌∙◌}
use mathlib.Core.Bool.{true}
use mathlib.Core.List.{List, [], ◌∷◌, ◌++◌, append_assoc, append-nil}
use native.Mathlib.Omega.{arith}
use borrow.Author.Tests.{eq-eqb}
use lib.Dec.{leb}
use lib.ListN.{length}
use Rattle.limits.specs.Numbers.{prime, max_count}
use Rattle.limits.specs.Questions.{ask, Question, question, first_no}
use Rattle.limits.proofs.Questions.{▸-zero, ▸-assoc, first_no-append}
use Rattle.words.specs.Store.{All}
use Rattle.words.specs.Pieces.{words_of}
use Rattle.utf8.specs.Utf8.{is_utf8}
use Rattle.narg.specs.Bytes.{word_end, u32_bytes}
use Rattle.narg.specs.Reader.{Got, got, Reader, on_got, ◌>>=◌, ◌>>◌, give, word, wire, unit, times, items, each, sizes}
use Rattle.narg.proofs.Fields.{word-law, part-law}
use Rattle.narg.proofs.Lists.{items-law}
use Rattle.allocator.specs.Slots.{Pair}
use Rattle.expr.specs.Equation.{Equation, equations_words}
use Rattle.instance.specs.Parts.{Parts}
use Rattle.validated.specs.Validated.{gate_asks, gate_no}
use Rattle.header.specs.Form.{letter_i, letter_w, header_bytes}
use Rattle.encoding.specs.Form.{label_bytes, pair_bytes, piece_bytes, equation_bytes, parts_bytes, instance_bytes, witness_bytes}
use Rattle.header.specs.Read.{read_magic, read_header}
use Rattle.decoding.specs.Read.{Rooms, File, read_label, read_pair, read_equation, pair_size, piece_size, size_of, read_publics, read_queries, read_equations, read_parts, read_steps, increasing, Rule, ruled, gated, ended, file, read_file, read_instance, read_witness}
use Rattle.decoding.specs.Sound.{SoundPair, SoundEquation, SoundPiece, SoundFile, SoundSteps, room_asks, order_asks, got_after}
use Rattle.decoding.proofs.After.{on_got-after, after-after, or_stop-after, need-after, number-after}
use Rattle.roundtrip.proofs.Fields.{pair-law, equation-law, piece-law, sizes-pairs, sizes-pieces, sizes-equations}

-- ---- header and label
pub header-law : (last version width : ℕ) (r : List ℕ) → width < word_end → read_header last version width (header_bytes last version width ++ r) ≡ got tt r
unfolding header_bytes read_header read_magic
header-law last version width r h =
    rw (
      eq-eqb last last refl,
      eq-eqb version version refl,
      append_assoc (u32_bytes width) (u32_bytes 4) r,
      word-law width (u32_bytes 4 ++ r) h,
      eq-eqb width width refl,
      word-law 4 r (omega arith),
    )

label-law : (label r : List ℕ) → length label < word_end → is_utf8 label ≡ true → read_label (label_bytes label ++ r) ≡ got label r
unfolding read_label
label-law label r h u =
    rw (append_assoc (u32_bytes (length label)) label r, word-law (length label) (label ++ r) h, part-law label r, u)

-- ---- a count and as many items
module _ {A : Type 0} (p : Reader A) (enc : A → List ℕ) (Good : A → Type 0) (law : (a : A) (r : List ℕ) → Good a → p (enc a ++ r) ≡ got a r) where
  pub listed-law : (size : A → ℕ) (room : ℕ) (xs : List A) (r : List ℕ) (total : ℕ) → length xs < word_end → All Good xs → sizes size xs ≡ total
      → (word >>= λ n. items p size room 0 n) (u32_bytes (length xs) ++ (each enc xs ++ r)) ≡ got_after (ask 10 (leb total room)) (got xs r)
  listed-law size room xs r total h g t =
      let z : 0 + sizes size xs ≡ total = omega arith in
      rw (word-law (length xs) (each enc xs ++ r) h, items-law p enc Good law size room 0 xs r (omega arith) g, z)
      (or_stop-after 9 (leb total room) (got xs r))

publics-law : (room : ℕ) (ps : List Pair) (r : List ℕ) → length ps < word_end → All SoundPair ps
    → read_publics room (u32_bytes (length ps) ++ (each pair_bytes ps ++ r)) ≡ got_after (ask 10 (leb (2 * length ps) room)) (got ps r)
unfolding read_publics
publics-law room ps r h g = listed-law read_pair pair_bytes SoundPair pair-law pair_size room ps r _ h g (sizes-pairs ps)

queries-law : (width room : ℕ) (qs : List (List ℕ)) (r : List ℕ) → length qs < word_end → All (SoundPiece max_count width) qs
    → read_queries width room (u32_bytes (length qs) ++ (each piece_bytes qs ++ r)) ≡ got_after (ask 10 (leb (words_of width (length qs)) room)) (got qs r)
unfolding read_queries
queries-law width room qs r h g =
    listed-law (times wire (width + width)) piece_bytes (SoundPiece max_count width) (piece-law max_count 3 width (omega arith)) (piece_size width) room qs r _ h g
    (sizes-pieces width qs)

equations-law : (room : ℕ) (es : List Equation) (r : List ℕ) → length es < word_end → All SoundEquation es
    → read_equations room (u32_bytes (length es) ++ (each equation_bytes es ++ r)) ≡ got_after (ask 10 (leb (length (equations_words es)) room)) (got es r)
unfolding read_equations
equations-law room es r h g =
    listed-law read_equation equation_bytes SoundEquation equation-law size_of room es r _ h g (sizes-equations es)

-- ---- the parts: 10 of each store is left
pub parts-law : (width : ℕ) (rooms : Rooms) (label : List ℕ) (parts : Parts) (r : List ℕ) → SoundFile width label parts
    → read_parts width rooms (parts_bytes parts ++ r) ≡ got_after (first_no (room_asks width rooms parts)) (got parts r)
unfolding read_parts
parts-law width rooms label parts r s =
    let ps = parts.publics in
    let qs = parts.queries in
    let es = parts.equations in
    let re = u32_bytes (length es) ++ (each equation_bytes es ++ r) in
    let rq = u32_bytes (length qs) ++ (each piece_bytes qs ++ re) in
    let rp = u32_bytes (length ps) ++ (each pair_bytes ps ++ rq) in
    let e : parts_bytes parts ++ r ≡ u32_bytes parts.vars ++ rp = simp append_assoc in
    rw (
      e,
      word-law parts.vars rp s.vars,
      publics-law rooms.publics ps rq s.publics_count s.publics,
      on_got-after _ ps rq _,
      queries-law width rooms.queries qs re s.queries_count s.queries,
      on_got-after _ qs re _,
      equations-law rooms.equations es r s.equations_count s.equations,
      on_got-after _ es r _,
      after-after,
      after-after,
      ▸-assoc,
      ▸-zero,
    )

-- ---- after the parts: 27, what the rule asks, then 16 and 12 to 15
abbrev pub file_asks : ℕ → Rooms → Parts → List Question
file_asks width rooms parts = room_asks width rooms parts ++ (question 27 (increasing parts.publics) ∷ [])

pub file-law : (version width : ℕ) (rooms : Rooms) (label : List ℕ) (parts : Parts) → SoundFile width label parts
    → read_file version width rooms (instance_bytes version width label parts) ≡ got_after (first_no (file_asks width rooms parts)) (got (file label parts) [])
unfolding read_file instance_bytes
file-law version width rooms label parts s =
    rw (
      header-law letter_i version width (label_bytes label ++ parts_bytes parts) s.width_fits,
      label-law label (parts_bytes parts) s.label_length s.label_utf8,
      ← append-nil (parts_bytes parts),
      parts-law width rooms label parts [] s,
      on_got-after _ parts [] _,
      need-after 26 (increasing parts.publics) [] (give (file label parts)),
      after-after,
    )
    (simp (▸-assoc, ▸-zero))

-- then what the rule asks and the gate
rest-law : (rule : Rule) (scratch : ℕ) (f : File)
    → (ruled rule f.parts >> gated scratch f.parts >> ended >> give f) [] ≡ got_after (first_no (rule f.parts ++ gate_asks f.parts scratch)) (got f [])
unfolding gate_no
rest-law rule scratch f =
    number-after (first_no (rule f.parts)) [] (gated scratch f.parts >> ended >> give f)
    ∙ ap (got_after (first_no (rule f.parts))) (number-after (gate_no f.parts scratch) [] (ended >> give f))
    ∙ after-after (first_no (rule f.parts)) (gate_no f.parts scratch) (got f [])
    ∙ ap (λ (k : ℕ). got_after k (got f [])) (sym (first_no-append (rule f.parts) (gate_asks f.parts scratch)))

-- ---- SFRI
pub read-written : (rule : Rule) (version width : ℕ) (rooms : Rooms) (label : List ℕ) (parts : Parts) → SoundFile width label parts
    → read_instance rule version width rooms (instance_bytes version width label parts)
    ≡ got_after (first_no (room_asks width rooms parts ++ order_asks rule rooms parts)) (got (file label parts) [])
unfolding read_instance
read-written rule version width rooms label parts s =
    let f = file label parts in
    let k = first_no (file_asks width rooms parts) in
    let asks = rule parts ++ gate_asks parts rooms.scratch in
    ap (λ (g : Got File). on_got g (λ x. ruled rule x.parts >> gated rooms.scratch x.parts >> ended >> give x)) (file-law version width rooms label parts s)
    ∙ on_got-after k f [] (λ x. ruled rule x.parts >> gated rooms.scratch x.parts >> ended >> give x)
    ∙ ap (got_after k) (rest-law rule rooms.scratch f)
    ∙ after-after k (first_no asks) (got f [])
    ∙ ap (λ (m : ℕ). got_after m (got f [])) (sym (first_no-append (file_asks width rooms parts) asks))

-- ---- SFRW
pub steps-law : (width room : ℕ) (steps : List (List ℕ)) (r : List ℕ) → SoundSteps width steps
    → read_steps width room (u32_bytes (length steps) ++ (each piece_bytes steps ++ r)) ≡ got_after (ask 10 (leb (words_of width (length steps)) room)) (got steps r)
unfolding read_steps
steps-law width room steps r s =
    listed-law (times unit (width + width)) piece_bytes (SoundPiece prime width) (piece-law prime 4 width (omega arith)) (piece_size width) room steps r _ s.count s.pieces
    (sizes-pieces width steps)

pub read-witness-written : (version width room : ℕ) (steps : List (List ℕ)) → SoundSteps width steps
    → read_witness version width room (witness_bytes version width steps)
    ≡ got_after (ask 10 (leb (words_of width (length steps)) room)) (got steps [])
unfolding read_witness witness_bytes
read-witness-written version width room steps s =
    rw (
      header-law letter_w version width (u32_bytes (length steps) ++ each piece_bytes steps) s.width_fits,
      ← append-nil (each piece_bytes steps),
      steps-law width room steps [] s,
      on_got-after _ steps [] _,
    )
