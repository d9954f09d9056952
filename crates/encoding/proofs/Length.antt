-- The bytes of a part are the bytes of the words that its store holds, in order; and how many bytes the forms
-- have. Assumes nothing.
use Prim.Native.Nat.{ℕ, ◌+◌, ◌*◌}
use mathlib.Core.Path.{◌≡◌, refl, ap, ◌∙◌}
use mathlib.Core.List.{List, [], ◌∷◌, append_assoc, append-nil}
use native.Mathlib.Omega.{arith}
use lib.ListN.{length, length-append}
use Rattle.words.specs.Store.{All}
use Rattle.words.specs.Pieces.{flat}
use Rattle.words.proofs.Held.{flat-length}
use Rattle.narg.specs.Bytes.{u32_bytes}
use Rattle.narg.specs.Reader.{each}
use Rattle.narg.proofs.Fields.{length-u32_bytes}
use Rattle.narg.proofs.Lists.{each_append}
use Rattle.narg.proofs.Words.{length-words}
use Rattle.allocator.specs.Slots.{Pair}
use Rattle.expr.specs.Equation.{Term, Equation, term_words, equation_words, equations_words}
use Rattle.instance.specs.Parts.{Parts, pair_words}
use Rattle.instance.proofs.Parts.{pair_words-length}
use Rattle.header.specs.Form.{header_bytes, header_length}
use Rattle.encoding.specs.Form.{instance_fixed, witness_fixed, pair_bytes, term_bytes, piece_bytes, equation_bytes, label_bytes, instance_bytes, witness_bytes}
use Rattle.encoding.specs.Put.{list_bytes}

-- ---- parts as words
pub publics-bytes : (ps : List Pair) → each pair_bytes ps ≡ each u32_bytes (pair_words ps)
publics-bytes [] = refl
publics-bytes (p ∷ ps) = rw (publics-bytes ps, append_assoc (u32_bytes p.var) (u32_bytes p.value) (each u32_bytes (pair_words ps)))

pub pieces-bytes : (qs : List (List ℕ)) → each piece_bytes qs ≡ each u32_bytes (flat qs)
pieces-bytes [] = refl
pieces-bytes (q ∷ qs) = rw (pieces-bytes qs, each_append u32_bytes q (flat qs))

terms-bytes : (ts : List Term) → each term_bytes ts ≡ each u32_bytes (term_words ts)
terms-bytes [] = refl
terms-bytes (t ∷ ts) = rw (terms-bytes ts, append_assoc (u32_bytes t.var) (u32_bytes t.weight) (each u32_bytes (term_words ts)))

equation-bytes : (e : Equation) → equation_bytes e ≡ each u32_bytes (equation_words e)
equation-bytes e = rw (terms-bytes e.terms, each_append u32_bytes (term_words e.terms) (e.image ∷ []), append-nil (u32_bytes e.image))

pub equations-bytes : (es : List Equation) → each equation_bytes es ≡ each u32_bytes (equations_words es)
equations-bytes [] = refl
equations-bytes (e ∷ es) = rw (equations-bytes es, equation-bytes e, each_append u32_bytes (equation_words e) (equations_words es))

-- ---- lengths
pub length-header : (last v width : ℕ) → length (header_bytes last v width) ≡ header_length
unfolding header_bytes
length-header last v width =
    let a = length-u32_bytes width in
    let b = length-u32_bytes 4 in
    let c = length-append (u32_bytes width) (u32_bytes 4) in
    omega arith

pub length-label_bytes : (label : List ℕ) → length (label_bytes label) ≡ 4 + length label
length-label_bytes label = simp (length-append, length-u32_bytes)

pub length-list_bytes : (n : ℕ) (words : List ℕ) → length (list_bytes n words) ≡ 4 + 4 * length words
length-list_bytes n words = simp (length-append, length-u32_bytes, length-words)

pub length-instance_bytes : (version width : ℕ) (label : List ℕ) (parts : Parts) → All (λ q. length q ≡ width + width) parts.queries
    → length (instance_bytes version width label parts)
    ≡ instance_fixed + length label + 8 * length parts.publics + 8 * (width * length parts.queries) + 4 * length (equations_words parts.equations)
unfolding instance_bytes header_bytes
length-instance_bytes version width label parts a =
    let p = ap length (publics-bytes parts.publics) ∙ length-words (pair_words parts.publics) in
    let p' = pair_words-length parts.publics in
    let q = ap length (pieces-bytes parts.queries) ∙ length-words (flat parts.queries) in
    let q' = flat-length (width + width) parts.queries a in
    let e = ap length (equations-bytes parts.equations) ∙ length-words (equations_words parts.equations) in
    simp (length-append, length-u32_bytes) (omega arith)

pub length-witness_bytes : (version width : ℕ) (steps : List (List ℕ)) → All (λ s. length s ≡ width + width) steps
    → length (witness_bytes version width steps) ≡ witness_fixed + 8 * (width * length steps)
unfolding witness_bytes header_bytes
length-witness_bytes version width steps a =
    let q = ap length (pieces-bytes steps) ∙ length-words (flat steps) in
    let q' = flat-length (width + width) steps a in
    simp (length-append, length-u32_bytes) (omega arith)
