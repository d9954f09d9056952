-- Pairs, terms and equations read into a store: a pair or a term is a wire and a unit; terms are written as far as
-- the store holds them; an equation is refused by its own questions, or by 10 once it has all been read.
-- Assumes nothing.
use Prim.Native.Nat.{ℕ, suc, ◌+◌, ◌*◌, ◌-◌, ◌≤◌, ◌<◌}
use mathlib.Core.Path.{◌≡◌, refl, sym, ap, ap₂, ◌∙◌}
use mathlib.Core.Bool.{true, false}
use mathlib.Core.List.{List, [], ◌∷◌, ◌++◌, append_assoc, append-nil}
use native.Mathlib.Omega.{arith}
use borrow.Author.Tests.{lt-leb, leb-true}
use lib.Dec.{leb}
use lib.ListN.{length, set, drop, length-append, length-set}
use lib.Seq.{sets-eq, set_split}
use Rattle.std.specs.Prelude.{Some, None}
use Rattle.words.specs.Store.{put_words}
use Rattle.narg.specs.Reader.{Got, got, stop, on_got, ◌>>=◌, give, need, wire, unit, times, items, each}
use Rattle.narg.specs.Cursor.{read_u32}
use Rattle.narg.specs.declared.Cursor.{Cursor}
use Rattle.narg.proofs.At.{read_u32-read, read_u32-stop, word_next}
use Rattle.narg.proofs.Lists.{times-stop, times_more, times-count}
use Rattle.narg.proofs.Stores.{put_words-nil, length-put_words, put_two}
use Rattle.allocator.specs.Slots.{Pair, pair}
use Rattle.expr.specs.Equation.{Term, Equation, equation, term_words, equation_words, equation_size, equations_words}
use Rattle.expr.proofs.Held.{length-equation}
use Rattle.instance.specs.Parts.{pair_words}
use Rattle.items.specs.Read.{read_pair, read_term, read_equation, pair_size, size_of}
use Rattle.items.specs.Told.{TermsGiven, EquationGiven}
use Rattle.items.proofs.Fields.{term, two-got}
use Rattle.items.proofs.Run.{Run, run-stop, run_more, give-nil, give-snoc, stop_is, left-is}

-- ---- a wire and a unit
pub pair-stop : (bs : List ℕ) (k : ℕ) → wire bs ≡ stop k → read_pair bs ≡ stop k
pair-stop bs k e = rw e

module _ (bs : List ℕ) (x : ℕ) (rest : List ℕ) (ex : wire bs ≡ got x rest) where
  pub value-stop : (k : ℕ) → unit rest ≡ stop k → read_pair bs ≡ stop k
  value-stop k e = rw (ex, e)

  pub pair-yes : (v : ℕ) (r : List ℕ) → unit rest ≡ got v r → read_pair bs ≡ got (pair x v) r
  pair-yes v r e = rw (ex, e)

-- a term is read as a pair is
pub term-got : (bs : List ℕ) (x v : ℕ) (r : List ℕ) → read_pair bs ≡ got (pair x v) r → read_term bs ≡ got (term x v) r
term-got bs x v r e =
    let t = two-got pair bs (pair x v) r e in
    let ex = ap (λ (p : Pair). p.var) t.is in
    let ev = ap (λ (p : Pair). p.value) t.is in
    rw (t.first, t.second) (ap₂ (λ (a b : ℕ). got (term a b) r) ex ev)

pub term-stop : (bs : List ℕ) (k : ℕ) → read_pair bs ≡ stop k → read_term bs ≡ stop k
term-stop bs k e = go (wire bs) e
  where
    second : (x : ℕ) (g : Got ℕ) → on_got g (λ v. give (pair x v)) ≡ stop k → on_got g (λ v. give (term x v)) ≡ stop k
    second x (got v r) f = absurd (let z : ◌≡◌ {A = ℕ} 0 1 = cc in omega arith)
    second x (stop j) f = stop_is j k f

    go : (g : Got ℕ) → on_got g (λ x. unit >>= λ v. give (pair x v)) ≡ stop k → on_got g (λ x. unit >>= λ v. give (term x v)) ≡ stop k
    go (got x r) f = second x (unit r) f
    go (stop j) f = stop_is j k f

-- ---- words stored one by one
pub one-stored : (s : List ℕ) (at v : ℕ) → at < length s → set s at v ≡ put_words at (v ∷ []) s
one-stored s at v h = let z : at + 1 ≡ suc at = omega arith in rw z (set_split s at v h)

pub two-stored : (s : List ℕ) (at x v : ℕ) → at + 2 ≤ length s → set (set s at x) (at + 1) v ≡ put_words at (x ∷ v ∷ []) s
two-stored s at x v h =
    let e : at + 1 ≡ suc at = omega arith in
    rw e (sets-eq (x ∷ v ∷ []) s at h ∙ simp append_assoc)

-- ---- pairs
abbrev pub two_words : Pair → List ℕ
two_words p = p.var ∷ p.value ∷ []

pub each-pairs : (ps : List Pair) → each two_words ps ≡ pair_words ps
each-pairs [] = refl
each-pairs (p ∷ ps) = ap (λ (l : List ℕ). p.var ∷ p.value ∷ l) (each-pairs ps)

module _ (bytes : List ℕ) (start n : ℕ) (out₀ out : List ℕ) (at to i : ℕ) (r : Run read_pair pair_size two_words bytes start n out₀ out at to i) (h : i < n) where
  pub run-pair-stop : (k : ℕ) → read_pair (drop at bytes) ≡ stop k → items read_pair pair_size (length out₀) 0 n (drop start bytes) ≡ stop k
  run-pair-stop k e = run-stop read_pair pair_size two_words bytes start n out₀ out at to i r h k (rw e)

  module _ (x v : ℕ) (next : ℕ) (e : read_pair (drop at bytes) ≡ got (pair x v) (drop next bytes)) where
    pub run-pair-full : length out - to < 2 → items read_pair pair_size (length out₀) 0 n (drop start bytes) ≡ stop 10
    run-pair-full f =
        let s = r.same in
        let k = r.fits in
        run-stop read_pair pair_size two_words bytes start n out₀ out at to i r h 10 (rw (e, lt-leb (to + 2) (length out₀) (omega arith)))

    pub run-pair : next ≡ at + 8 → 2 ≤ length out - to → Run read_pair pair_size two_words bytes start n out₀ (set (set out to x) (to + 1) v) next (to + 2) (i + 1)
    run-pair past f =
        let s = r.same in
        let k = r.fits in
        run_more read_pair pair_size two_words bytes start n out₀ out at to i r h (pair x v) next (set (set out to x) (to + 1) v) e past refl (omega arith)
        (two-stored out to x v (omega arith))

-- ---- terms
length-term_words : (ts : List Term) → length (term_words ts) ≡ 2 * length ts
length-term_words [] = refl
length-term_words (t ∷ ts) = let e = length-term_words ts in omega arith

term_words-snoc : (ts : List Term) (t : Term) → term_words (ts ++ (t ∷ [])) ≡ term_words ts ++ (t.var ∷ t.weight ∷ [])
term_words-snoc [] t = refl
term_words-snoc (s ∷ ts) t = ap (λ (l : List ℕ). s.var ∷ s.weight ∷ l) (term_words-snoc ts t)

module _ (bytes : List ℕ) (start t : ℕ) (out₀ : List ℕ) (place : ℕ) where
  pub record TermsRun (out : List ℕ) (at to i : ℕ) : Type 0 where
    pub done : List Term
    pub rest : on_got (times read_term (t - i) (drop at bytes)) (λ l. give (done ++ l)) ≡ times read_term t (drop start bytes)
    pub count : length done ≡ i
    pub used : to ≡ place + 2 * length done
    pub past : at ≡ start + 8 * length done
    pub same : length out ≡ length out₀
    pub stored : to ≤ length out₀ → out ≡ put_words place (term_words done) out₀

  pub terms-start : TermsRun out₀ start place 0
  terms-start = record {
    done = [];
    rest = let z : t - 0 ≡ t = omega arith in rw z (give-nil (times read_term t (drop start bytes)));
    count = refl;
    used = omega arith;
    past = omega arith;
    same = refl;
    stored = λ h. sym (put_words-nil place out₀);
  }

  module _ (out : List ℕ) (at to i : ℕ) (r : TermsRun out at to i) where
    pub terms-stop : i < t → (k : ℕ) → read_pair (drop at bytes) ≡ stop k → times read_term t (drop start bytes) ≡ stop k
    terms-stop h k e =
        let s = ap (λ (m : ℕ). times read_term m (drop at bytes)) (left-is t i h) ∙ times-stop read_term (drop at bytes) (t - (i + 1)) k (term-stop (drop at bytes) k e) in
        sym r.rest ∙ ap (λ (g : Got (List Term)). on_got g (λ l. give (r.done ++ l))) s

    pub terms-more : i < t → (x v next : ℕ) → read_pair (drop at bytes) ≡ got (pair x v) (drop next bytes) → next ≡ at + 8
        → TermsRun (set (set out to x) (to + 1) v) next (to + 2) (i + 1)
    terms-more h x v next e at_next =
        let s = ap (λ (m : ℕ). times read_term m (drop at bytes)) (left-is t i h)
        ∙ times_more read_term (drop at bytes) (t - (i + 1)) (term x v) (drop next bytes) (term-got (drop at bytes) x v (drop next bytes) e) in
        let c = r.count in
        let u = r.used in
        let at-is = r.past in
        let m = r.same in
        let d = r.done in
        let l = length-append d (term x v ∷ []) in
        let w = length-term_words d in
        record {
          done = d ++ (term x v ∷ []);
          rest =
              give-snoc (times read_term (t - (i + 1)) (drop next bytes)) d (term x v)
              ∙ sym (ap (λ (g : Got (List Term)). on_got g (λ k. give (d ++ k))) s)
              ∙ r.rest;
          count = omega arith;
          used = omega arith;
          past = omega arith;
          same = length-set (set out to x) (to + 1) v ∙ length-set out to x ∙ m;
          stored = λ f.
              two-stored out to x v (omega arith)
              ∙ ap (λ (k : List ℕ). put_words to (x ∷ v ∷ []) k) (r.stored (omega arith))
              ∙ put_two place (term_words d) (x ∷ v ∷ []) out₀ to (omega arith) (omega arith)
              ∙ ap (λ (k : List ℕ). put_words place k out₀) (sym (term_words-snoc d (term x v)));
        }

    pub terms-given : t ≤ i → (next : Cursor) → next.at ≡ at → TermsGiven (times read_term t (drop start bytes)) bytes start out₀ out place next
    terms-given h next w =
        let z : t - i ≡ 0 = omega arith in
        let e = ap (λ (m : ℕ). on_got (times read_term m (drop at bytes)) (λ l. give (r.done ++ l))) (sym z) ∙ r.rest in
        let u = r.used in
        let at-is = r.past in
        let l = length-term_words r.done in
        record {
          terms = r.done;
          reads =
              sym e
              ∙ ap (λ (l : List Term). got l (drop at bytes)) (append-nil r.done)
              ∙ ap (λ (m : ℕ). got r.done (drop m bytes)) (sym w);
          past = omega arith;
          stored = λ f. r.stored (omega arith);
        }

-- ---- an equation
module _ (s : List ℕ) (at place room : ℕ) where
  abbrev asked : Got (Unit {0})
  asked = (read_equation >>= λ e. need 10 (leb (place + size_of e) room)) (drop at s)

  pub equation-short : read_u32 s at ≡ None → asked ≡ stop 20
  equation-short e = rw (read_u32-stop s at e)

  module _ (t : ℕ) (c : Cursor) (ew : read_u32 s at ≡ Some (t, c)) where
    pub equation-terms-stop : (k : ℕ) → times read_term t (drop c.at s) ≡ stop k → asked ≡ stop k
    equation-terms-stop k e = rw (word_next s at t c ew, e)

    module _ (ts : List Term) (rest : List ℕ) (et : times read_term t (drop c.at s) ≡ got ts rest) where
      pub equation-image-stop : (k : ℕ) → unit rest ≡ stop k → asked ≡ stop k
      equation-image-stop k e = rw (word_next s at t c ew, et, e)

      module _ (v : ℕ) (r : List ℕ) (ei : unit rest ≡ got v r) where
        pub equation-full : leb (place + equation_size (length ts)) room ≡ false → asked ≡ stop 10
        equation-full f = rw (word_next s at t c ew, et, ei, f)

        pub equation-yes : read_equation (drop at s) ≡ got (equation ts v) r
        equation-yes = rw (word_next s at t c ew, et, ei)

-- its words, stored as they are read
pub equation-stored : (out : List ℕ) (place t v : ℕ) (ts : List Term) (after : List ℕ) → t ≡ length ts → place + equation_size t ≤ length out
    → after ≡ put_words (place + 1) (term_words ts) (set out place t)
    → set after (place + 1 + 2 * t) v ≡ put_words place (equation_words (equation ts v)) out
equation-stored out place t v ts after e h w =
    let l = length-term_words ts in
    let a = ap (λ (k : List ℕ). put_words (place + 1) (term_words ts) k) (one-stored out place t (omega arith)) in
    let b = put_two place (t ∷ []) (term_words ts) out (place + 1) refl (omega arith) in
    let c = w ∙ a ∙ b in
    let m = ap length c ∙ length-put_words place (t ∷ term_words ts) out (omega arith) in
    one-stored after (place + 1 + 2 * t) v (omega arith)
    ∙ ap (λ (k : List ℕ). put_words (place + 1 + 2 * t) (v ∷ []) k) c
    ∙ put_two place (t ∷ term_words ts) (v ∷ []) out (place + 1 + 2 * t) (omega arith) (omega arith)
    ∙ ap (λ (n : ℕ). put_words place (n ∷ (term_words ts ++ (v ∷ []))) out) e

-- what was read and stored, with the room asked
module _ (s : List ℕ) (at : ℕ) (out : List ℕ) (place t : ℕ) (c : Cursor) (ew : read_u32 s at ≡ Some (t, c)) (out1 : List ℕ) (e1 : out1 ≡ set out place t)
    (out2 : List ℕ) (last : Cursor) (g : TermsGiven (times read_term t (drop c.at s)) s c.at out1 out2 (place + 1) last)
    (v : ℕ) (next : Cursor) (ei : unit (drop last.at s) ≡ got v (drop next.at s)) (en : next.at ≡ last.at + 4) (len : ℕ) (el : len ≡ length out) where
  counted : length g.terms ≡ t
  counted = times-count read_term t (drop c.at s) g.terms (drop last.at s) g.reads

  pub equation-no-room : leb (place + equation_size t) len ≡ false → asked s at place (length out) ≡ stop 10
  equation-no-room f =
      equation-full s at place (length out) t c ew g.terms (drop last.at s) g.reads v (drop next.at s) ei
      (ap₂ (λ (n m : ℕ). leb (place + equation_size n) m) counted (sym el) ∙ f)

  pub equation-given : leb (place + equation_size t) len ≡ true → (out3 : List ℕ) → out3 ≡ set out2 (place + 1 + 2 * t) v
      → EquationGiven s at out out3 place t next
  equation-given f out3 e3 =
      let h = leb-true (place + equation_size t) len f in
      let k = counted in
      let w = length-term_words g.terms in
      let l = ap length e1 ∙ length-set out place t in
      let past-count = (read_u32-read s at t c ew).past in
      let past-terms = g.past in
      record {
        value = equation g.terms v;
        reads = equation-yes s at place (length out) t c ew g.terms (drop last.at s) g.reads v (drop next.at s) ei;
        count = sym k;
        past = omega arith;
        room = omega arith;
        stored =
            e3
            ∙ equation-stored out place t v g.terms out2 (sym k) (omega arith)
            (g.stored (omega arith) ∙ ap (λ (x : List ℕ). put_words (place + 1) (term_words g.terms) x) e1);
      }

-- ---- equations
pub each-equations : (es : List Equation) → each equation_words es ≡ equations_words es
each-equations [] = refl
each-equations (e ∷ es) = ap (λ (l : List ℕ). equation_words e ++ l) (each-equations es)

module _ (bytes : List ℕ) (start n : ℕ) (out₀ out : List ℕ) (at to i : ℕ) (r : Run read_equation size_of equation_words bytes start n out₀ out at to i) (h : i < n) where
  pub run-equation-stop : (k : ℕ) → (read_equation >>= λ e. need 10 (leb (to + size_of e) (length out))) (drop at bytes) ≡ stop k
      → items read_equation size_of (length out₀) 0 n (drop start bytes) ≡ stop k
  run-equation-stop k e =
      run-stop read_equation size_of equation_words bytes start n out₀ out at to i r h k
      (ap (λ (m : ℕ). (read_equation >>= λ q. need 10 (leb (to + size_of q) m)) (drop at bytes)) (sym r.same) ∙ e)

  pub run-equation : (after : List ℕ) (t : ℕ) (next : Cursor) → EquationGiven bytes at out after to t next
      → Run read_equation size_of equation_words bytes start n out₀ after next.at (to + (2 + 2 * t)) (i + 1)
  run-equation after t next g =
      let s = r.same in
      let m = g.room in
      let c = g.count in
      ap-run (ap (λ (k : ℕ). to + (2 + 2 * k)) (sym c))
      (run_more read_equation size_of equation_words bytes start n out₀ out at to i r h g.value next.at after g.reads g.past
      (sym (length-equation g.value)) (omega arith) g.stored)
    where
      ap-run : {a b : ℕ} → a ≡ b → Run read_equation size_of equation_words bytes start n out₀ after next.at a (i + 1)
          → Run read_equation size_of equation_words bytes start n out₀ after next.at b (i + 1)
      ap-run e q = rw (← e) q
