-- The parts read: the ends of reading them, one list after the other; and what was read, in the record and the stores.
-- Assumes nothing.
use Prim.Native.Nat.{ℕ, ◌+◌, ◌-◌}
use mathlib.Core.Path.{◌≡◌, refl, sym, ap, ◌∙◌, subst}
use mathlib.Core.List.{List, [], ◌++◌, append-nil}
use native.Mathlib.Omega.{arith}
use lib.ListN.{length, take, drop, replicate}
use lib.Seq.{drop-drop, take_at}
use Rattle.std.specs.Prelude.{true, false, Some, None, Result, Ok, Err, is_err}
use Rattle.limits.specs.Outcome.{refusal}
use Rattle.limits.specs.declared.Refused.{Refused}
use Rattle.limits.specs.Numbers.{max_count}
use Rattle.limits.specs.Questions.{first_no}
use Rattle.limits.specs.Asks.{width_asks, store_asks}
use Rattle.limits.proofs.Questions.{both, join, first_no-append}
use Rattle.words.specs.Store.{All}
use Rattle.words.specs.Pieces.{words_of, flat}
use Rattle.words.proofs.Held.{flat-length, pieces-flat}
use Rattle.narg.specs.Reader.{Got, got, stop, word}
use Rattle.narg.specs.Cursor.{cursor, read_u32}
use Rattle.narg.specs.declared.Cursor.{Cursor}
use Rattle.narg.proofs.Fields.{word-rest}
use Rattle.narg.proofs.At.{read_u32-read, read_u32-stop, word_next}
use Rattle.expr.specs.Equation.{equations_words}
use Rattle.expr.proofs.Held.{equations-words}
use Rattle.instance.specs.Parts.{Parts, pair_words, pairs_at, parts_of}
use Rattle.instance.specs.declared.PermutationInstance.{PermutationInstance}
use Rattle.instance.proofs.Parts.{pairs_at-take, pairs_at-pair_words}
use Rattle.header.specs.declared.Field.{Field}
use Rattle.header.proofs.Got.{took}
use Rattle.items.specs.Read.{read_publics, read_pieces, read_queries, read_equations}
use Rattle.items.specs.Answers.{store_after, list_end, publics_got, pieces_got, equations_got, ListReads}
use Rattle.items.proofs.Ends.{publics-end, pieces-cells, pieces_end, equations-end}
use Rattle.items.proofs.Lists.{ListGot, after-no, after-yes}
use Rattle.parts.specs.Read.{Rooms, rooms, read_parts}
use Rattle.parts.specs.Answers.{read_parts_asks, parts_got, instance_read, words_of_publics, words_of_queries, words_of_equations, parts_end, parts_answer, parts_from, PartsReads}
use Rattle.parts.specs.Told.{PartsStored, PartsLeft, parts_here, PartsTold}

-- the zeros behind words in a store of that length
abbrev zeros : ℕ → List ℕ → List ℕ
zeros len words = replicate (len - length words) 0

-- ---- 1 and 2, group by group
pub record PartsYes (w p q e : ℕ) : Type 0 where
  pub width : first_no (width_asks w) ≡ 0
  pub publics : first_no (store_asks p) ≡ 0
  pub queries : first_no (store_asks q) ≡ 0
  pub equations : first_no (store_asks e) ≡ 0

pub parts-yes : (width p q e : ℕ) → first_no (read_parts_asks width (rooms p q e 0)) ≡ 0 → PartsYes width p q e
parts-yes width p q e z =
    let a = both _ _ (sym (first_no-append (width_asks width) (store_asks p ++ (store_asks q ++ store_asks e))) ∙ z) in
    let b = both _ _ (sym (first_no-append (store_asks p) (store_asks q ++ store_asks e)) ∙ a.1) in
    let c = both _ _ (sym (first_no-append (store_asks q) (store_asks e)) ∙ b.1) in
    record { width = a.0; publics = b.0; queries = c.0; equations = c.1 }

-- ---- 1 and 2 first
pub from-here : (width : ℕ) (s : List ℕ) (at : ℕ) (p q e : List ℕ) → first_no (read_parts_asks width (rooms (length p) (length q) (length e) 0)) ≡ 0
    → parts_from width s at p q e ≡ parts_here width s at p q e
unfolding parts_got
from-here width s at p q e z = after-yes _ _ 0 (sym z) refl

pub parts-asked-no : (width : ℕ) (s : List ℕ) (at : ℕ) (p q e : List ℕ) (no : ℕ) → no ≡ first_no (read_parts_asks width (rooms (length p) (length q) (length e) 0)) → (no ≡ 0 → ⊥)
    → parts_from width s at p q e ≡ stop no
unfolding parts_got
parts-asked-no width s at p q e k a h = after-no (first_no (read_parts_asks width (rooms (length p) (length q) (length e) 0))) (parts_here width s at p q e) k a h

-- ---- the ends of reading them
module _ (width : ℕ) (s : List ℕ) (at : ℕ) (p q e : List ℕ) (yes : PartsYes width (length p) (length q) (length e)) where
  abbrev here : Got Parts
  here = parts_here width s at p q e

  publics-at : (c : ℕ) → publics_got (length p) s c ≡ read_publics (length p) (drop c s)
  unfolding publics_got
  publics-at c = after-yes _ _ 0 (sym yes.publics) refl

  queries-at : (c : ℕ) → pieces_got max_count 3 width (length q) s c ≡ read_queries width (length q) (drop c s)
  unfolding pieces_got read_queries
  queries-at c =
      after-yes _ _ 0
      (sym (first_no-append (width_asks width) (store_asks (length q)) ∙ join (first_no (width_asks width)) (first_no (store_asks (length q))) yes.width yes.queries))
      refl

  equations-at : (c : ℕ) → equations_got (length e) s c ≡ read_equations (length e) (drop c s)
  unfolding equations_got
  equations-at c = after-yes _ _ 0 (sym yes.equations) refl

  pub parts-short : read_u32 s at ≡ None → here ≡ stop 20
  unfolding read_parts
  parts-short w = rw (read_u32-stop s at w)

  module _ (vars : ℕ) (c : Cursor) (ew : read_u32 s at ≡ Some (vars, c)) where
    pub publics-stop : (k : ℕ) → publics_got (length p) s c.at ≡ stop k → here ≡ stop k
    unfolding read_parts
    publics-stop k f = rw (word_next s at vars c ew, sym (publics-at c.at) ∙ f)

    module _ (p' : List ℕ) (rp : Result Field Refused) (lp : ListReads pair_words (publics_got (length p) s c.at) c.at p p' rp)
        (np wp : ℕ) (c1 : Cursor) (gp : ListGot pair_words (publics_got (length p) s c.at) c.at p p' rp lp np wp c1) where
      after-publics : read_publics (length p) (drop c.at s) ≡ got gp.items (drop c1.at s)
      after-publics =
          let f = sym (publics-at c.at) ∙ gp.reads in
          f ∙ ap (λ (r : List ℕ). got gp.items r) (publics-end (length p) s c.at gp.items gp.rest f ∙ ap (λ (m : ℕ). drop m s) (sym gp.past))

      pub queries-stop : (k : ℕ) → pieces_got max_count 3 width (length q) s c1.at ≡ stop k → here ≡ stop k
      unfolding read_parts
      queries-stop k f = rw (word_next s at vars c ew, after-publics, sym (queries-at c1.at) ∙ f)

      module _ (q' : List ℕ) (rq : Result Field Refused) (lq : ListReads flat (pieces_got max_count 3 width (length q) s c1.at) c1.at q q' rq)
          (nq wq : ℕ) (c2 : Cursor) (gq : ListGot flat (pieces_got max_count 3 width (length q) s c1.at) c1.at q q' rq lq nq wq c2) where
        after-queries : read_queries width (length q) (drop c1.at s) ≡ got gq.items (drop c2.at s)
        unfolding read_queries
        after-queries =
            let f = sym (queries-at c1.at) ∙ gq.reads in
            f ∙ ap (λ (r : List ℕ). got gq.items r) (pieces_end (length q) s c1.at max_count 3 width gq.items gq.rest f ∙ ap (λ (m : ℕ). drop m s) (sym gq.past))

        pub equations-stop : (k : ℕ) → equations_got (length e) s c2.at ≡ stop k → here ≡ stop k
        unfolding read_parts
        equations-stop k f = rw (word_next s at vars c ew, after-publics, after-queries, sym (equations-at c2.at) ∙ f)

        module _ (e' : List ℕ) (re : Result Field Refused) (le : ListReads equations_words (equations_got (length e) s c2.at) c2.at e e' re)
            (ne we : ℕ) (c3 : Cursor) (ge : ListGot equations_words (equations_got (length e) s c2.at) c2.at e e' re le ne we c3) where
          after-equations : read_equations (length e) (drop c2.at s) ≡ got ge.items ge.rest
          after-equations = sym (equations-at c2.at) ∙ ge.reads

          abbrev parts : Parts
          parts = record { vars = vars; publics = gp.items; queries = gq.items; equations = ge.items }

          here-is : here ≡ got parts ge.rest
          unfolding read_parts
          here-is = rw (word_next s at vars c ew, after-publics, after-queries, after-equations)

          pub parts-told : first_no (read_parts_asks width (rooms (length p) (length q) (length e) 0)) ≡ 0 → PartsTold width s at p q e p' q' e'
              (Ok (record { width = width; vars = vars; queries = nq; equations = ne; words = we; publics = np }, c3))
          unfolding PartsLeft
          parts-told yes-all =
              let from-is = from-here width s at p q e yes-all ∙ here-is in
              let i = (read_u32-read s at vars c ew).past in
              let i1 = gp.past in
              let i2 = gq.past in
              let i3 = ge.past in
              let z : c3.at ≡ parts_end at parts = omega arith in
              record {
                answer =
                    (λ j. Ok (record { width = width; vars = vars; queries = gq.count j; equations = ge.count j; words = ge.size j; publics = gp.count j }, cursor (z j)))
                    ∙ sym (ap (parts_answer width at) from-is);
                left = rw from-is (record { publics = gp.stored; queries = gq.stored; equations = ge.stored });
              }

-- ---- telling
module _ (width : ℕ) (s : List ℕ) (at : ℕ) (p q e p' q' e' : List ℕ) (r : Result (PermutationInstance × Cursor) Refused) where
  pub parts-refused : (why : Refused) → r ≡ Err why → parts_from width s at p q e ≡ stop why.0 → PartsTold width s at p q e p' q' e' r
  unfolding PartsLeft
  parts-refused why i x = record { answer = i ∙ sym (ap (parts_answer width at) x); left = rw x tt }

-- ---- the open reader: the stores become 0 where it refuses
module _ (width : ℕ) (s : List ℕ) (at : ℕ) (p q e p₁ q₁ e₁ : List ℕ) (r : Result (PermutationInstance × Cursor) Refused) (t : PartsTold width s at p q e p₁ q₁ e₁ r) where
  abbrev from : Got Parts
  from = parts_from width s at p q e

  -- is it refused?
  told-err : (y : Got Parts) → from ≡ y → is_err r ≡ is_err (parts_answer width at y)
  told-err y f = ap is_err (t.answer ∙ ap (parts_answer width at) f)

  pub parts-no : is_err r ≡ true → (p' q' e' : List ℕ) → p' ≡ replicate (length p) 0 → q' ≡ replicate (length q) 0 → e' ≡ replicate (length e) 0
      → PartsReads width s at p q e p' q' e' r
  parts-no i p' q' e' zp zq ze = go from refl
    where
      go : (y : Got Parts) → from ≡ y → PartsReads width s at p q e p' q' e' r
      go (got x rest) f = let w : true ≡ false = sym i ∙ told-err (got x rest) f in cc
      go (stop j) f = record { answer = t.answer; publics = rw f zp; queries = rw f zq; equations = rw f ze }

  pub parts-got : is_err r ≡ false → PartsReads width s at p q e p₁ q₁ e₁ r
  unfolding PartsLeft
  parts-got i = go from refl
    where
      go : (y : Got Parts) → from ≡ y → PartsReads width s at p q e p₁ q₁ e₁ r
      go (got x rest) f =
          let l = subst (λ (y : Got Parts). PartsLeft y p q e p₁ q₁ e₁) f t.left in
          record { answer = t.answer; publics = rw f l.publics; queries = rw f l.queries; equations = rw f l.equations }
      go (stop j) f = let w : false ≡ true = sym i ∙ told-err (stop j) f in cc

-- ---- where they end, and that each query has 2w cells
pub record PartsAt (width : ℕ) (s : List ℕ) (at : ℕ) (parts : Parts) (rest : List ℕ) : Type 0 where
  pub next : rest ≡ drop (parts_end at parts) s
  pub cells : All (λ x. length x ≡ width + width) parts.queries

pub parts_at : (width : ℕ) (m : Rooms) (s : List ℕ) (at : ℕ) (parts : Parts) (rest : List ℕ) → read_parts width m (drop at s) ≡ got parts rest
    → PartsAt width s at parts rest
unfolding read_parts read_queries
parts_at width m s at parts rest e =
    took (word (drop at s)) _ parts rest e (λ vars r₁ e₁ n₁.
    let i₁ : r₁ ≡ drop (at + 4) s = (word-rest (drop at s) vars r₁ e₁).1 ∙ drop-drop 4 at s in
    took (read_publics m.publics r₁) _ parts rest n₁ (λ ps r₂ e₂ n₂.
    let i₂ = publics-end m.publics s (at + 4) ps r₂ (ap (read_publics m.publics) (sym i₁) ∙ e₂) in
    took (read_pieces max_count 3 width m.queries r₂) _ parts rest n₂ (λ qs r₃ e₃ n₃.
    let f₃ = ap (read_pieces max_count 3 width m.queries) (sym i₂) ∙ e₃ in
    let i₃ = pieces_end m.queries s (list_end (at + 4) (pair_words ps)) max_count 3 width qs r₃ f₃ in
    took (read_equations m.equations r₃) _ parts rest n₃ (λ es r₄ e₄ n₄.
    let i₄ = equations-end m.equations s (list_end (list_end (at + 4) (pair_words ps)) (flat qs)) es r₄ (ap (read_equations m.equations) (sym i₃) ∙ e₄) in
    let same : record { vars = vars; publics = ps; queries = qs; equations = es } ≡ parts = cc in
    let last : r₄ ≡ rest = cc in
    record {
      next = sym last ∙ i₄ ∙ ap (λ (y : Parts). drop (parts_end at y) s) same;
      cells =
          subst (λ (y : Parts). All (λ x. length x ≡ width + width) y.queries) same
          (pieces-cells m.queries s (list_end (at + 4) (pair_words ps)) max_count 3 width qs r₃ f₃);
    }))))

-- ---- what an answer tells
module _ (width : ℕ) (s : List ℕ) (at : ℕ) (p q e p' q' e' : List ℕ) (r : Result (PermutationInstance × Cursor) Refused) (h : PartsReads width s at p q e p' q' e' r) where
  pub read-refused : (why : Refused) → r ≡ Err why → parts_from width s at p q e ≡ stop why.0
  read-refused why i = go (parts_from width s at p q e) (sym h.answer ∙ i)
    where
      go : (y : Got Parts) → parts_answer width at y ≡ Err why → y ≡ stop why.0
      go (got x rest) z = absurd (let n : ◌≡◌ {A = ℕ} 0 1 = cc in omega arith)
      go (stop j) z =
          let n : refusal j ≡ why = cc in
          ap (λ (x : Refused). stop x.0) n

  -- parts that were got, and stored
  pub record PartsGot (ins : PermutationInstance) (next : Cursor) : Type 0 where
    pub parts : Parts
    pub rest : List ℕ
    pub reads : parts_from width s at p q e ≡ got parts rest
    pub is : ins ≡ instance_read width parts
    pub past : next.at ≡ parts_end at parts
    pub stored : PartsStored parts p q e p' q' e'

  pub read-got : (ins : PermutationInstance) (next : Cursor) → r ≡ Ok (ins, next) → PartsGot ins next
  read-got ins next i = go (parts_from width s at p q e) refl (sym h.answer ∙ i)
    where
      go : (y : Got Parts) → parts_from width s at p q e ≡ y → parts_answer width at y ≡ Ok (ins, next) → PartsGot ins next
      go (got x rest) f z =
          let c : ◌≡◌ {A = PermutationInstance × Cursor} (instance_read width x, cursor (parts_end at x)) (ins, next) = cc in
          record {
            parts = x;
            rest = rest;
            reads = f;
            is = ap (λ (y : PermutationInstance × Cursor). y.0) (sym c);
            past = ap (λ (y : PermutationInstance × Cursor). y.1.at) (sym c);
            stored = record {
              publics = h.publics ∙ ap (store_after words_of_publics (length p)) f;
              queries = h.queries ∙ ap (store_after words_of_queries (length q)) f;
              equations = h.equations ∙ ap (store_after words_of_equations (length e)) f;
            };
          }
      go (stop j) f z = absurd (let n : ◌≡◌ {A = ℕ} 0 1 = cc in omega arith)

-- ---- the record and the stores hold the parts
module _ (width : ℕ) (parts : Parts) (ins : PermutationInstance) (i : ins ≡ instance_read width parts) (p q e p' q' e' : List ℕ) (h : PartsStored parts p q e p' q' e') where
  pub pairs-held : pairs_at ins.publics p' ≡ parts.publics
  pairs-held = rw (i, h.publics) (pairs_at-pair_words parts.publics (zeros (length p) (words_of_publics parts)))

  pub parts_held : All (λ x. length x ≡ width + width) parts.queries → parts_of ins p' q' e' ≡ parts
  unfolding parts_of
  parts_held cells =
      let ps = parts.publics in
      let qs = parts.queries in
      let es = parts.equations in
      let zp = zeros (length p) (pair_words ps) in
      let zq = zeros (length q) (flat qs) in
      let ze = zeros (length e) (equations_words es) in
      let tq : take (words_of width (length qs)) (flat qs ++ zq) ≡ flat qs ++ [] =
      take_at (flat qs) zq (words_of width (length qs)) (flat-length (width + width) qs cells) ∙ sym (append-nil (flat qs)) in
      let te : take (length (equations_words es)) (equations_words es ++ ze) ≡ equations_words es ++ [] =
      take_at (equations_words es) ze (length (equations_words es)) refl ∙ sym (append-nil (equations_words es)) in
      rw (
        i,
        h.publics,
        h.queries,
        h.equations,
        pairs_at-take (length ps) (pair_words ps ++ zp),
        pairs_at-pair_words ps zp,
        tq,
        pieces-flat (width + width) qs [] cells,
        te,
        equations-words es [],
      )
