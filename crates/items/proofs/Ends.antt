-- Where a list ends that was read: behind its count and its words, 4 bytes each. Assumes nothing.
use Prim.Native.Nat.{ℕ, zero, suc, ◌+◌, ◌*◌}
use mathlib.Core.Path.{◌≡◌, refl, sym, ap, ◌∙◌}
use mathlib.Core.List.{List, [], ◌∷◌}
use native.Mathlib.Omega.{arith}
use lib.ListN.{length, drop, length-append}
use lib.Seq.{drop-drop}
use Rattle.words.specs.Pieces.{flat}
use Rattle.words.specs.Store.{All}
use Rattle.narg.specs.Reader.{Reader, got, ◌>>=◌, word, unit, give, below, times, items, sizes}
use Rattle.narg.proofs.Fields.{word-rest, below_rest}
use Rattle.narg.proofs.Lists.{passed, times-cons, items-cons, times-rest, times-count, items-all}
use Rattle.allocator.specs.Slots.{Pair, pair}
use Rattle.expr.specs.Equation.{Term, Equation, equation, equation_words, equations_words}
use Rattle.expr.proofs.Held.{length-equation}
use Rattle.instance.specs.Parts.{pair_words}
use Rattle.items.specs.Read.{read_pair, read_piece, read_term, read_equation, pair_size, piece_size, size_of, read_publics, read_pieces, read_equations}
use Rattle.items.specs.Answers.{list_end}
use Rattle.items.proofs.Fields.{read_two, two-got, term}

-- ---- items one after the other, of a reader that goes on behind the item's words
module _ {A : Type 0} (p : Reader A) (size : A → ℕ) (one : (bs : List ℕ) (a : A) (r : List ℕ) → p bs ≡ got a r → r ≡ drop (4 * size a) bs) where
  more : (a : A) (xs : List A) (bs rest r : List ℕ) → rest ≡ drop (4 * size a) bs → r ≡ drop (4 * sizes size xs) rest → r ≡ drop (4 * (size a + sizes size xs)) bs
  more a xs bs rest r e f =
      let z : 4 * size a + 4 * sizes size xs ≡ 4 * (size a + sizes size xs) = omega arith in
      f ∙ ap (drop (4 * sizes size xs)) e ∙ drop-drop (4 * sizes size xs) (4 * size a) bs ∙ ap (λ (n : ℕ). drop n bs) z

  times-ends : (n : ℕ) (bs : List ℕ) (xs : List A) (r : List ℕ) → times p n bs ≡ got xs r → r ≡ drop (4 * sizes size xs) bs
  times-ends zero bs xs r e = let x : [] ≡ xs = cc in rw (← x) cc
  times-ends (suc n) bs xs r e =
      let c = times-cons p bs xs r n e in
      rw c.all (more c.item c.list bs c.rest r (one bs c.item c.rest c.first) (times-ends n c.rest c.list r c.others))

  items-ends : (room used n : ℕ) (bs : List ℕ) (xs : List A) (r : List ℕ) → items p size room used n bs ≡ got xs r → r ≡ drop (4 * sizes size xs) bs
  items-ends room used zero bs xs r e = let x : [] ≡ xs = cc in rw (← x) cc
  items-ends room used (suc n) bs xs r e =
      let c = items-cons p bs xs r size room used n e in
      rw c.all (more c.item c.list bs c.rest r (one bs c.item c.rest c.first)
      (items-ends room (used + size c.item) n c.rest c.list r c.others))

  -- a count and as many items, at a place
  list-ends : (words_of : List A → List ℕ) (room : ℕ) (s : List ℕ) (at : ℕ) (xs : List A) (r : List ℕ) → sizes size xs ≡ length (words_of xs)
      → (word >>= λ n. items p size room 0 n) (drop at s) ≡ got xs r → r ≡ drop (list_end at (words_of xs)) s
  list-ends words_of room s at xs r l e =
      let n = passed (word (drop at s)) (λ n. items p size room 0 n) xs r e in
      let w = (word-rest (drop at s) n.value n.rest n.first).1 ∙ drop-drop 4 at s in
      let z : at + 4 + 4 * sizes size xs ≡ list_end at (words_of xs) = omega arith in
      items-ends room 0 n.value n.rest xs r n.second ∙ ap (drop (4 * sizes size xs)) w
      ∙ drop-drop (4 * sizes size xs) (at + 4) s ∙ ap (λ (k : ℕ). drop k s) z

-- ---- each kind of item
two_ends : {A : Type 0} (make : ℕ → ℕ → A) (bs : List ℕ) (a : A) (r : List ℕ) → read_two make bs ≡ got a r → r ≡ drop 8 bs
two_ends make bs a r e =
    let t = two-got make bs a r e in
    (below_rest _ _ t.middle t.value r t.second).1 ∙ ap (drop 4) (below_rest _ _ bs t.var t.middle t.first).1 ∙ drop-drop 4 4 bs

piece-ends : (bound k width : ℕ) (bs ws r : List ℕ) → read_piece bound k width bs ≡ got ws r → r ≡ drop (4 * (width + width)) bs
piece-ends bound k width bs ws r e = (times-rest (below bound k) 4 (λ b a t f. below_rest bound k b a t f) (width + width) bs ws r e).1

equation-ends : (bs : List ℕ) (e : Equation) (r : List ℕ) → read_equation bs ≡ got e r → r ≡ drop (4 * size_of e) bs
equation-ends bs e r g =
    let n = passed (word bs) (λ n. times read_term n >>= λ ts. unit >>= λ v. give (equation ts v)) e r g in
    let t = passed (times read_term n.value n.rest) (λ ts. unit >>= λ v. give (equation ts v)) e r n.second in
    let i = passed (unit t.rest) (λ v. give (equation t.value v)) e r t.second in
    let same : equation t.value i.value ≡ e = cc in
    let last : i.rest ≡ r = cc in
    let a = (word-rest bs n.value n.rest n.first).1 in
    let b = times-ends read_term (λ x. 2) (λ s x u f. two_ends term s x u f) n.value n.rest t.value t.rest t.first in
    let c = (below_rest _ _ t.rest i.value i.rest i.first).1 in
    let k = 4 * sizes (λ (x : Term). 2) t.value in
    let l = ap (λ (x : Equation). length x.terms) same in
    let z : 4 + k + 4 ≡ 4 * size_of e = let m = twos t.value in omega arith in
    sym last ∙ c ∙ ap (drop 4) (b ∙ ap (drop k) a ∙ drop-drop k 4 bs) ∙ drop-drop 4 (4 + k) bs ∙ ap (λ (m : ℕ). drop m bs) z
  where
    twos : (ts : List Term) → sizes (λ (x : Term). 2) ts ≡ 2 * length ts
    twos [] = refl
    twos (x ∷ ts) = let i = twos ts in omega arith

-- ---- the lists
pair-sizes : (ps : List Pair) → sizes pair_size ps ≡ length (pair_words ps)
pair-sizes [] = refl
pair-sizes (p ∷ ps) = let i = pair-sizes ps in omega arith

equation-sizes : (es : List Equation) → sizes size_of es ≡ length (equations_words es)
equation-sizes [] = refl
equation-sizes (e ∷ es) =
    let i = equation-sizes es in
    let l = length-append (equation_words e) (equations_words es) in
    let k = length-equation e in
    omega arith

piece-sizes : (width : ℕ) (qs : List (List ℕ)) → All (λ x. length x ≡ width + width) qs → sizes (piece_size width) qs ≡ length (flat qs)
piece-sizes width [] a = refl
piece-sizes width (q ∷ qs) a =
    let i = piece-sizes width qs a.1 in
    let l = length-append q (flat qs) in
    omega (arith, a.0)

module _ (room : ℕ) (s : List ℕ) (at : ℕ) where
  pub publics-end : (ps : List Pair) (r : List ℕ) → read_publics room (drop at s) ≡ got ps r → r ≡ drop (list_end at (pair_words ps)) s
  unfolding read_publics
  publics-end ps r e = list-ends read_pair pair_size (λ b a t f. two_ends pair b a t f) pair_words room s at ps r (pair-sizes ps) e

  pub equations-end : (es : List Equation) (r : List ℕ) → read_equations room (drop at s) ≡ got es r → r ≡ drop (list_end at (equations_words es)) s
  unfolding read_equations
  equations-end es r e = list-ends read_equation size_of equation-ends equations_words room s at es r (equation-sizes es) e

  module _ (bound k width : ℕ) (qs : List (List ℕ)) (r : List ℕ) (e : read_pieces bound k width room (drop at s) ≡ got qs r) where
    -- each piece has 2w words
    pub pieces-cells : All (λ x. length x ≡ width + width) qs
    pieces-cells =
        let n = passed (word (drop at s)) (λ n. items (read_piece bound k width) (piece_size width) room 0 n) qs r e in
        items-all (read_piece bound k width) (λ x. length x ≡ width + width) (λ b a t f. times-count (below bound k) (width + width) b a t f)
        (piece_size width) room 0 n.value n.rest qs r n.second

    pub pieces_end : r ≡ drop (list_end at (flat qs)) s
    pieces_end =
        list-ends (read_piece bound k width) (piece_size width) (λ b a t f. piece-ends bound k width b a t f) flat room s at qs r
        (piece-sizes width qs pieces-cells) e
