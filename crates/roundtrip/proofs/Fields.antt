-- The items of the byte forms: what was written is read (`-law`), what was read is what was written (`-back`)
-- and sound (`-sound`), and how many words items take.
--
-- A pair and a term are both a wire and a unit: `Two` says it once, over the record that they become.
-- Assumes nothing.
use Prim.Native.Nat.{ℕ, ◌+◌, ◌*◌, ◌<◌}
use mathlib.Core.Path.{◌≡◌, refl, ap, ◌∙◌}
use mathlib.Core.List.{List, [], ◌∷◌, ◌++◌, append_assoc}
use native.Mathlib.Omega.{arith}
use lib.ListN.{length, length-append}
use Rattle.limits.specs.Numbers.{prime, max_count}
use Rattle.words.specs.Pieces.{words_of}
use Rattle.narg.specs.Bytes.{word_end, IsBytes, u32_bytes}
use Rattle.narg.specs.Reader.{got, ◌>>=◌, give, word, unit, below, times, each, sizes}
use Rattle.narg.proofs.Fields.{is_bytes-rest, word-law, word_back, below-law, below-back, below-got}
use Rattle.narg.proofs.Lists.{passed, times-law, times-back, times-all, times-count}
use Rattle.narg.proofs.Words.{words-law, words_back, words-all}
use Rattle.allocator.specs.Slots.{Pair, pair}
use Rattle.expr.specs.Equation.{Term, Equation, equation, equations_words, equation_words}
use Rattle.expr.proofs.Held.{length-equation}
use Rattle.encoding.specs.Form.{pair_bytes, term_bytes, piece_bytes, equation_bytes}
use Rattle.decoding.specs.Read.{read_pair, read_term, read_equation, pair_size, piece_size, size_of}
use Rattle.decoding.specs.Sound.{SoundPair, SoundTerm, SoundEquation, SoundPiece}
use Rattle.items.proofs.Fields.{read_two, Two, two-got, term}

-- a word that was read from bytes is a word
pub word_below : (bs : List ℕ) (v : ℕ) (r : List ℕ) → IsBytes bs → word bs ≡ got v r → v < word_end
unfolding word
word_below [] v r h e = absurd (let z : ◌≡◌ {A = ℕ} 0 1 = cc in omega arith)
word_below (a ∷ []) v r h e = absurd (let z : ◌≡◌ {A = ℕ} 0 1 = cc in omega arith)
word_below (a ∷ b ∷ []) v r h e = absurd (let z : ◌≡◌ {A = ℕ} 0 1 = cc in omega arith)
word_below (a ∷ b ∷ c ∷ []) v r h e = absurd (let z : ◌≡◌ {A = ℕ} 0 1 = cc in omega arith)
word_below (a ∷ b ∷ c ∷ d ∷ rest) v r h e =
    let ev : a + 256 * b + 65536 * c + 16777216 * d ≡ v = cc in
    omega (arith, h 0, h 1, h 2, h 3)

-- ---- a wire and a unit
module _ {A : Type 0} (make : ℕ → ℕ → A) where
  pub two-law : (x v : ℕ) (r : List ℕ) → x < max_count → v < prime → read_two make ((u32_bytes x ++ u32_bytes v) ++ r) ≡ got (make x v) r
  two-law x v r hx hv =
      rw (
        append_assoc (u32_bytes x) (u32_bytes v) r,
        below-law max_count 3 (omega arith) x (u32_bytes v ++ r) hx,
        below-law prime 4 (omega arith) v r hv,
      )

  module _ (bs : List ℕ) (a : A) (r : List ℕ) (t : Two make bs a r) where
    pub two_back : IsBytes bs → (u32_bytes t.var ++ u32_bytes t.value) ++ r ≡ bs
    two_back h =
        let b = below-back max_count 3 bs t.var t.middle h t.first in
        let c = below-back prime 4 t.middle t.value r (is_bytes-rest (u32_bytes t.var) t.middle (rw b h)) t.second in
        rw (append_assoc (u32_bytes t.var) (u32_bytes t.value) r, c) b

    pub two-below : (t.var < max_count) × (t.value < prime)
    two-below = ((below-got max_count 3 bs t.var t.middle t.first).1, (below-got prime 4 t.middle t.value r t.second).1)

-- ---- a pair
pub pair-law : (p : Pair) (r : List ℕ) → SoundPair p → read_pair (pair_bytes p ++ r) ≡ got p r
pair-law p r s = two-law pair p.var p.value r s.var s.value

pub pair-back : (bs : List ℕ) (p : Pair) (r : List ℕ) → IsBytes bs → read_pair bs ≡ got p r → pair_bytes p ++ r ≡ bs
pair-back bs p r h e = let t = two-got pair bs p r e in rw (← t.is) (two_back pair bs p r t h)

pub pair-sound : (bs : List ℕ) (p : Pair) (r : List ℕ) → read_pair bs ≡ got p r → SoundPair p
pair-sound bs p r e =
    let t = two-got pair bs p r e in
    let b = two-below pair bs p r t in
    rw (← t.is) (record { var = b.0; value = b.1 })

-- ---- a term
pub term-law : (t : Term) (r : List ℕ) → SoundTerm t → read_term (term_bytes t ++ r) ≡ got t r
term-law t r s = two-law term t.var t.weight r s.var s.weight

pub term-back : (bs : List ℕ) (t : Term) (r : List ℕ) → IsBytes bs → read_term bs ≡ got t r → term_bytes t ++ r ≡ bs
term-back bs a r h e = let t = two-got term bs a r e in rw (← t.is) (two_back term bs a r t h)

pub term-sound : (bs : List ℕ) (t : Term) (r : List ℕ) → read_term bs ≡ got t r → SoundTerm t
term-sound bs a r e =
    let t = two-got term bs a r e in
    let b = two-below term bs a r t in
    rw (← t.is) (record { var = b.0; weight = b.1 })

-- ---- an equation
pub equation-law : (e : Equation) (r : List ℕ) → SoundEquation e → read_equation (equation_bytes e ++ r) ≡ got e r
equation-law e r s =
    rw (
      append_assoc (u32_bytes (length e.terms)) (each term_bytes e.terms ++ u32_bytes e.image) r,
      append_assoc (each term_bytes e.terms) (u32_bytes e.image) r,
      word-law (length e.terms) (each term_bytes e.terms ++ (u32_bytes e.image ++ r)) s.count,
      times-law read_term term_bytes SoundTerm term-law e.terms (u32_bytes e.image ++ r) s.terms,
      below-law prime 4 (omega arith) e.image r s.image,
    )

-- an equation that was read: its count, its terms, its image
pub record EquationGot (bs : List ℕ) (e : Equation) (r : List ℕ) : Type 0 where
  pub count : ℕ
  pub terms : List Term
  pub image : ℕ
  pub after : List ℕ
  pub last : List ℕ
  pub counted : word bs ≡ got count after
  pub listed : times read_term count after ≡ got terms last
  pub ended : unit last ≡ got image r
  pub is : equation terms image ≡ e

pub equation-got : (bs : List ℕ) (e : Equation) (r : List ℕ) → read_equation bs ≡ got e r → EquationGot bs e r
equation-got bs e r g =
    let n = passed (word bs) (λ n. times read_term n >>= λ ts. unit >>= λ v. give (equation ts v)) e r g in
    let ts = passed (times read_term n.value n.rest) (λ ts. unit >>= λ v. give (equation ts v)) e r n.second in
    let v = passed (unit ts.rest) (λ v. give (equation ts.value v)) e r ts.second in
    let er : v.rest ≡ r = cc in
    record {
      count = n.value;
      terms = ts.value;
      image = v.value;
      after = n.rest;
      last = ts.rest;
      counted = n.first;
      listed = ts.first;
      ended = v.first ∙ ap (λ (l : List ℕ). got v.value l) er;
      is = cc;
    }

pub equation-back : (bs : List ℕ) (e : Equation) (r : List ℕ) → IsBytes bs → read_equation bs ≡ got e r → equation_bytes e ++ r ≡ bs
equation-back bs e r h g =
    let q = equation-got bs e r g in
    let b = word_back bs q.count q.after h q.counted in
    let ha = is_bytes-rest (u32_bytes q.count) q.after (rw b h) in
    let t = times-back read_term term_bytes term-back q.count q.after q.terms q.last ha q.listed in
    let hl = is_bytes-rest (each term_bytes q.terms) q.last (rw t.bytes ha) in
    let v = below-back prime 4 q.last q.image r hl q.ended in
    rw (
      ← q.is,
      append_assoc (u32_bytes (length q.terms)) (each term_bytes q.terms ++ u32_bytes q.image) r,
      append_assoc (each term_bytes q.terms) (u32_bytes q.image) r,
      v,
      t.bytes,
      t.count,
    )
    b

pub equation-sound : (bs : List ℕ) (e : Equation) (r : List ℕ) → IsBytes bs → read_equation bs ≡ got e r → SoundEquation e
equation-sound bs e r h g =
    let q = equation-got bs e r g in
    let n = times-count read_term q.count q.after q.terms q.last q.listed in
    rw (← q.is)
    (record {
      count = rw n (word_below bs q.count q.after h q.counted);
      terms = times-all read_term SoundTerm term-sound q.count q.after q.terms q.last q.listed;
      image = (below-got prime 4 q.last q.image r q.ended).1;
    })

-- ---- a query or a step
module _ (bound k width : ℕ) where
  pub piece-law : bound < word_end → (q : List ℕ) (r : List ℕ) → SoundPiece bound width q → times (below bound k) (width + width) (piece_bytes q ++ r) ≡ got q r
  piece-law b q r s = rw (← s.cells) (words-law bound k (omega arith) q r s.words)

  module _ (bs q r : List ℕ) where
    pub piece_back : IsBytes bs → times (below bound k) (width + width) bs ≡ got q r → piece_bytes q ++ r ≡ bs
    piece_back h e = (words_back bound k (width + width) bs q r h e).bytes

    pub piece-sound : times (below bound k) (width + width) bs ≡ got q r → SoundPiece bound width q
    piece-sound e = record {
      cells = times-count (below bound k) (width + width) bs q r e;
      words = words-all bound k (width + width) bs q r e;
    }

-- ---- how many words they take
pub sizes-pairs : (ps : List Pair) → sizes pair_size ps ≡ 2 * length ps
sizes-pairs [] = refl
sizes-pairs (p ∷ ps) = let e = sizes-pairs ps in omega arith

pub sizes-pieces : (width : ℕ) (qs : List (List ℕ)) → sizes (piece_size width) qs ≡ words_of width (length qs)
sizes-pieces width [] = omega arith
sizes-pieces width (q ∷ qs) = let e = sizes-pieces width qs in omega arith

pub sizes-equations : (es : List Equation) → sizes size_of es ≡ length (equations_words es)
sizes-equations [] = refl
sizes-equations (e ∷ es) =
    let f = sizes-equations es in
    let l = length-equation e in
    let a = length-append (equation_words e) (equations_words es) in
    omega arith
