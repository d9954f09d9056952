-- An instance in stores and in bytes: the parts that sound stores hold have the bytes of the held words. Assumes nothing.
use Prim.Native.Nat.{ℕ, zero, suc, ◌+◌, ◌*◌, ◌≤◌, ◌<◌}
use mathlib.Core.Path.{◌≡◌, refl, sym, ap, ap₂, ◌∙◌}
use mathlib.Core.List.{List, [], ◌∷◌, ◌++◌, append_assoc}
use native.Mathlib.Omega.{arith}
use borrow.Author.Tests.{leb-true}
use lib.Dec.{leb}
use lib.ListN.{length, take, drop, length-append, length-drop, length-take, take-append-drop}
use lib.Seq.{take-suc, length-take-le}
use Rattle.limits.specs.Numbers.{max_count, label_end}
use Rattle.limits.specs.Questions.{ask, Question, question, first_no}
use Rattle.limits.proofs.Questions.{both, ▸-zero, first_no-append, accepted-says}
use Rattle.words.specs.Store.{put_words, fit_words}
use Rattle.words.specs.Pieces.{words_of, pieces}
use Rattle.narg.specs.Bytes.{u32_bytes}
use Rattle.narg.proofs.Fields.{length-u32_bytes}
use Rattle.narg.proofs.Words.{length-words}
use Rattle.expr.specs.Equation.{term_words, equation_words, equations_words, terms_at, equation_at, size_at, equations_at, equations_end}
use Rattle.instance.specs.Parts.{pair_words, pairs_at, held_publics, held_queries, held_equations, parts_of}
use Rattle.held.specs.Held.{instance_asks}
use Rattle.instance.specs.declared.PermutationInstance.{PermutationInstance}
use Rattle.instance.proofs.Parts.{flat-held}
use Rattle.held.proofs.Facts.{InstanceSound, instance_asks-yes}
use Rattle.header.specs.Form.{letter_i, version, header_bytes, header_length}
use Rattle.encoding.specs.Form.{label_bytes, instance_bytes}
use Rattle.encoding.specs.Answers.{instance_to_bytes, instance_to_bytes_no}
use Rattle.encoding.specs.Put.{list_bytes, held_bytes, held_length, HeldFits, PutsAt}
use Rattle.encoding.proofs.Length.{length-header, length-label_bytes, length-list_bytes, publics-bytes, pieces-bytes, equations-bytes}
use Rattle.encoding.proofs.Stored.{put_then, put-length, put_word, asks-stay, asks-go, length-pieces}

-- ---- the words of parts that words hold
pairs-words : (n : ℕ) (s : List ℕ) → length s ≡ 2 * n → pair_words (pairs_at n s) ≡ s
pairs-words zero [] h = refl
pairs-words zero (x ∷ s) h = absurd (omega arith)
pairs-words (suc n) [] h = absurd (omega arith)
pairs-words (suc n) (x ∷ []) h = absurd (omega arith)
pairs-words (suc n) (x ∷ v ∷ s) h = ap (λ (l : List ℕ). x ∷ v ∷ l) (pairs-words n s (omega arith))

length-pairs_at : (n : ℕ) (s : List ℕ) → length (pairs_at n s) ≡ n
length-pairs_at zero s = refl
length-pairs_at (suc n) s = ap suc (length-pairs_at n (drop 2 s))

terms-taken : (t : ℕ) (s : List ℕ) → 2 * t ≤ length s → term_words (terms_at t s) ≡ take (2 * t) s
terms-taken zero s h = refl
terms-taken (suc t) [] h = absurd (omega arith)
terms-taken (suc t) (x ∷ []) h = absurd (omega arith)
terms-taken (suc t) (x ∷ v ∷ s) h =
    let z : 2 * suc t ≡ suc (suc (2 * t)) = omega arith in
    rw z (ap (λ (l : List ℕ). x ∷ v ∷ l) (terms-taken t s (omega arith)))

length-terms_at : (t : ℕ) (s : List ℕ) → length (terms_at t s) ≡ t
length-terms_at zero s = refl
length-terms_at (suc t) s = ap suc (length-terms_at t (drop 2 s))

equation-taken : (s : List ℕ) → size_at s ≤ length s → equation_words (equation_at s) ≡ take (size_at s) s
unfolding equation_at size_at
equation-taken [] h = absurd (omega arith)
equation-taken (t ∷ r) h =
    let z : 2 + 2 * t ≡ suc (suc (2 * t)) = omega arith in
    rw (z, length-terms_at t r, terms-taken t r (omega arith)) (ap (λ (l : List ℕ). t ∷ l) (sym (take-suc r (2 * t) 0 (omega arith))))

equations-taken : (m : ℕ) (s : List ℕ) → equations_end m s ≡ length s → equations_words (equations_at m s) ≡ s
equations-taken zero [] e = refl
equations-taken zero (x ∷ s) e = absurd (omega arith)
equations-taken (suc m) s e =
    let l = length-drop (size_at s) s in
    ap₂ (λ (k l : List ℕ). k ++ l) (equation-taken s (omega arith)) (equations-taken m (drop (size_at s) s) (omega arith))
    ∙ take-append-drop (size_at s) s

length-equations_at : (m : ℕ) (s : List ℕ) → length (equations_at m s) ≡ m
length-equations_at zero s = refl
length-equations_at (suc m) s = ap suc (length-equations_at m (drop (size_at s) s))

-- ---- the bytes of the parts are those of the held words
-- no list is longer than 2^30, and the label's length is a word
pub record Few (label publics queries equations : List ℕ) : Type 0 where
  pub label-short : length label < label_end
  pub publics-few : length publics ≤ max_count
  pub queries-few : length queries ≤ max_count
  pub equations-few : length equations ≤ max_count

module _ (ins : PermutationInstance) (label publics queries equations : List ℕ) where
  abbrev hp : List ℕ
  hp = held_publics ins publics

  abbrev hq : List ℕ
  hq = held_queries ins queries

  abbrev he : List ℕ
  he = held_equations ins equations

  -- where 1, 2 and 11 say yes
  module _ (s : InstanceSound ins label publics queries equations) where
    pub instance_to_bytes-held : instance_to_bytes ins label publics queries equations ≡ held_bytes version ins label hp hq he
    unfolding instance_bytes held_bytes parts_of
    instance_to_bytes-held =
        let ps = pairs_at ins.publics hp in
        let qs = pieces (ins.width + ins.width) ins.queries hq in
        let es = equations_at ins.equations he in
        rw (
          length-pairs_at ins.publics hp,
          publics-bytes ps,
          pairs-words ins.publics hp (length-take-le (2 * ins.publics) publics s.parts.publics-held),
          length-pieces (ins.width + ins.width) ins.queries hq,
          pieces-bytes qs,
          flat-held ins.width ins.queries queries,
          length-equations_at ins.equations he,
          equations-bytes es,
          equations-taken ins.equations he s.sound.ends,
        )
        (simp append_assoc)

    pub instance_to_bytes-length : length (instance_to_bytes ins label publics queries equations) ≡ held_length label hp hq he
    unfolding held_bytes
    instance_to_bytes-length =
        let a = length-header letter_i version ins.width in
        let p = length-words hp in
        let q = length-words hq in
        let e = length-words he in
        ap length instance_to_bytes-held ∙ simp (length-append, length-u32_bytes) (omega arith)

    pub few : Few label hp hq he
    few =
        let a = s.parts in
        let p = length-take (2 * ins.publics) publics in
        let q = length-take (words_of ins.width ins.queries) queries in
        let r = length-take ins.words equations in
        record { label-short = s.label-high; publics-few = omega arith; queries-few = omega arith; equations-few = omega arith }

  -- 10, by the held words
  abbrev room_ask : ℕ → List Question
  room_ask room = question 10 (leb (length (instance_to_bytes ins label publics queries equations)) room) ∷ []

  module _ (room no : ℕ) (e : no ≡ first_no (instance_asks ins label publics queries equations)) where
    pub instance_to_bytes-first : (no ≡ 0 → ⊥) → no ≡ instance_to_bytes_no ins label publics queries equations room
    unfolding instance_to_bytes_no
    instance_to_bytes-first h = asks-stay (instance_asks ins label publics queries equations) (room_ask room) no e h

    pub instance_to_bytes-then : no ≡ 0 → (r : ℕ) → r ≡ ask 10 (leb (held_length label hp hq he) room)
        → r ≡ instance_to_bytes_no ins label publics queries equations room
    unfolding instance_to_bytes_no
    instance_to_bytes-then z r f =
        let s = instance_asks-yes ins label publics queries equations (sym e ∙ z) in
        asks-go (instance_asks ins label publics queries equations) (room_ask room) no e z r
        (f ∙ ap (λ (n : ℕ). ask 10 (leb n room)) (sym (instance_to_bytes-length s)) ∙ sym (▸-zero _))

  -- an accepted write: the output holds the bytes
  pub record Fits (room : ℕ) : Type 0 where
    pub sound : InstanceSound ins label publics queries equations
    pub room-held : held_length label hp hq he ≤ room

  pub instance_to_bytes-yes : (room : ℕ) → instance_to_bytes_no ins label publics queries equations room ≡ 0 → Fits room
  unfolding instance_to_bytes_no
  instance_to_bytes-yes room e =
      let z = both _ _ (sym (first_no-append (instance_asks ins label publics queries equations) (room_ask room)) ∙ e) in
      let s = instance_asks-yes ins label publics queries equations z.0 in
      let a = leb-true (length (instance_to_bytes ins label publics queries equations)) room (accepted-says (room_ask room) tt z.1 0) in
      let l = instance_to_bytes-length s in
      record { sound = s; room-held = omega arith }

-- ---- header, label, wire count and lists written one after the other
module _ (ins : PermutationInstance) (label publics queries equations out : List ℕ) (f : HeldFits label publics queries equations out)
    {a b c d : ℕ} {o1 o2 o3 o4 o5 o6 : List ℕ} where
  pub held-put : o1 ≡ put_words 0 (header_bytes letter_i version ins.width) out → PutsAt header_length (label_bytes label) o1 a o2
      → o3 ≡ fit_words a (u32_bytes ins.vars) o2 → PutsAt (a + 4) (list_bytes ins.publics publics) o3 b o4
      → PutsAt b (list_bytes ins.queries queries) o4 c o5 → PutsAt c (list_bytes ins.equations equations) o5 d o6
      → PutsAt 0 (held_bytes version ins label publics queries equations) out d o6
  unfolding held_bytes
  held-put e1 p2 e3 p4 p5 p6 =
      let header = header_bytes letter_i version ins.width in
      let room = f.room in
      let l1 = length-header letter_i version ins.width in
      let l2 = length-label_bytes label in
      let l4 = length-list_bytes ins.publics publics in
      let l5 = length-list_bytes ins.queries queries in
      let e2 = p2.past in
      let e4 = p4.past in
      let e5 = p5.past in
      let p1 : PutsAt 0 header out header_length o1 = record { past = omega arith; out = e1 } in
      let n1 : length o1 ≡ length out = put-length p1 (omega arith) in
      let n2 : length o2 ≡ length out = put-length p2 (omega arith) ∙ n1 in
      let s2 = put_then 0 header (label_bytes label) out p1 p2 (omega arith) in
      let s3 = put_then 0 (header ++ label_bytes label) (u32_bytes ins.vars) out s2 (put_word a o2 ins.vars (omega arith) e3) (omega arith) in
      let s4 = put_then 0 _ (list_bytes ins.publics publics) out s3 p4 (omega arith) in
      let s5 = put_then 0 _ (list_bytes ins.queries queries) out s4 p5 (omega arith) in
      let s6 = put_then 0 _ (list_bytes ins.equations equations) out s5 p6 (omega arith) in
      simp append_assoc (simp append_assoc at s6)
