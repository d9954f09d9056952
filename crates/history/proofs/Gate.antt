-- The gate on a state that agrees with a ledger: the parts that it judges are the ledger's, and its number is
-- the first no of what ledger and sizes leave. Assumes nothing.
use Prim.Native.Nat.{ℕ, suc, ◌+◌, ◌*◌, ◌≤◌, ◌<◌}
use mathlib.Core.Path.{◌≡◌, refl, sym, ap, ap₂, ◌∙◌, fun_ext, subst}
use mathlib.Core.Logic.{inl, inr}
use mathlib.Core.Bool.{Bool, true, false, and-eq-true_iff}
use mathlib.Core.List.{List, [], ◌∷◌, append-nil}
use mathlib.Core.Option.{none, some}
use native.Mathlib.Omega.{arith}
use borrow.Author.Tests.{eqb-true, eq-eqb}
use lib.Dec.{eqb, leb}
use lib.ListN.{length, take, get_or}
use lib.Seq.{length-take-le, take_at}
use Rattle.limits.specs.Numbers.{prime, max_count, max_width, unassigned}
use Rattle.limits.specs.Questions.{pick, ask, ◌▸◌, first_no}
use Rattle.words.specs.Store.{All, Begins, all_below}
use Rattle.words.specs.Pieces.{flat, pieces, words_of}
use Rattle.words.proofs.Held.{begins-fits, flat-length, pieces-held}
use Rattle.allocator.specs.Slots.{Pair, pair}
use Rattle.allocator.specs.Values.{is_some, slot_unit}
use Rattle.expr.specs.Equation.{equations_words, equations_at, equations_end, equations_held}
use Rattle.expr.proofs.Held.{equations-held, end-held, two-each}
use Rattle.permutation.specs.declared.PermutationRelation.{PermutationRelation}
use Rattle.instance.specs.Parts.{pair_vars, has}
use Rattle.held.specs.Held.{equations_sound}
use Rattle.validated.specs.Validated.{termwise_asks, validated_no}
use Rattle.compile.specs.Gate.{gate_lent, publics_from, publics_of, compiled_parts, compile_no, walked_asks}
use Rattle.held.proofs.Facts.{facts-all_below, SoundSlot, facts-slots_sound}
use Rattle.compile.proofs.Rising.{publics_of-below}
use Rattle.compile.proofs.Counts.{walked-is, counted-gate}
use Rattle.uses.specs.Uses.{UseCounts}
use Rattle.history.specs.Ledger.{Ledger}
use Rattle.history.specs.Calls.{State, lengths_of}
use Rattle.history.specs.Left.{number_of, public_count, validated_left, compile_left}
use Rattle.history.proofs.Bridge.{ledger_parts}
use Rattle.history.proofs.Publics.{look-domain}
use Rattle.history.proofs.Judged.{bound-is}
use Rattle.history.proofs.Keeps.{Agrees}
use Rattle.history.proofs.Outcomes.{past-yes, past_fits, past-width, then}

-- the first words of a store that begins with these
begins-take : (words store : List ℕ) (n : ℕ) → n ≡ length words → Begins words store → take n store ≡ words
begins-take words store n e b = ap (take n) b.is ∙ take_at words b.rest n (sym e)

-- ---- slots that carry units are sound
slots-sound : (slots : List ℕ) → ((x v : ℕ) → slot_unit (get_or slots x unassigned) ≡ some v → v < prime) → All SoundSlot slots
slots-sound [] u = tt
slots-sound (x ∷ slots) u = (go (eqb x unassigned) refl (u 0), slots-sound slots (λ y. u (suc y)))
  where
    go : (b : Bool) → eqb x unassigned ≡ b → ((v : ℕ) → pick b none (some x) ≡ some v → v < prime) → SoundSlot x
    go true e f = inr (eqb-true x unassigned e)
    go false e f = inl (f x refl)

-- ---- how many publics there are
publics-count : (test : ℕ → Bool) (i : ℕ) (slots : List ℕ)
    → ((k : ℕ) → k < length slots → is_some (slot_unit (get_or slots k unassigned)) ≡ test (i + k))
    → length (publics_from i slots) ≡ number_of test i (length slots)
publics-count test i [] h = refl
publics-count test i (x ∷ slots) h =
    go (eqb x unassigned) (test i) (h 0 (omega arith) ∙ ap test (omega arith))
    (publics-count test (suc i) slots (λ k q. h (suc k) (omega arith) ∙ ap test (omega arith)))
  where
    go : (b t : Bool) → is_some (pick b none (some x)) ≡ t → length (publics_from (suc i) slots) ≡ number_of test (suc i) (length slots)
        → length (pick b (publics_from (suc i) slots) (pair i x ∷ publics_from (suc i) slots)) ≡ pick t 1 0 + number_of test (suc i) (length slots)
    go true true a e = cc
    go true false a e = e ∙ omega arith
    go false true a e = ap suc e ∙ omega arith
    go false false a e = cc

module _ (w : ℕ) (s : State) (l : Ledger) (i : Agrees w s l) where
  abbrev rel : PermutationRelation
  rel = s.relation

  abbrev publics : List Pair
  publics = publics_from 0 (take rel.vars s.slots)

  -- what the stores hold
  pub queries-held : take (words_of rel.width rel.queries) s.queries ≡ flat l.queries
  queries-held =
      let q = i.in_queries in
      begins-take (flat l.queries) s.queries _
      (ap₂ (λ (k v : ℕ). words_of v k) q.counts i.width_is ∙ sym (flat-length (w + w) l.queries q.widths)) q.begins

  pub equations-held-are : take rel.words s.equations ≡ equations_words l.equations
  equations-held-are = begins-take (equations_words l.equations) s.equations rel.words i.in_equations.words i.in_equations.begins

  pub queries-are : pieces (rel.width + rel.width) rel.queries (take (words_of rel.width rel.queries) s.queries) ≡ l.queries
  queries-are =
      let q = i.in_queries in
      (λ j. pieces (i.width_is j + i.width_is j) (q.counts j) (queries-held j))
      ∙ pieces-held (w + w) l.queries (flat l.queries) q.widths (record { rest = []; is = sym (append-nil _) })

  own-words : Begins (equations_words l.equations) (equations_words l.equations)
  own-words = record { rest = []; is = sym (append-nil _) }

  pub equations-are : equations_at rel.equations (take rel.words s.equations) ≡ l.equations
  equations-are =
      (λ j. equations_at (i.in_equations.counts j) (equations-held-are j))
      ∙ equations-held l.equations (equations_words l.equations) own-words

  pub parts_are : compiled_parts rel s.slots s.queries s.equations ≡ ledger_parts l rel.vars publics
  unfolding compiled_parts publics_of
  parts_are = λ j. record { vars = rel.vars; publics = publics; queries = queries-are j; equations = equations-are j }

  -- ---- 11 of what the stores hold
  pub equations-sound : equations_sound rel.equations (take rel.words s.equations) ≡ true
  unfolding equations_sound
  equations-sound =
      let e = l.equations in
      (and-eq-true_iff _ _).1 (
        eq-eqb _ _
            ((λ j. equations_end (i.in_equations.counts j) (equations-held-are j))
            ∙ end-held e (equations_words e) own-words ∙ ap length (sym equations-held-are)),
        ap equations_held equations-are ∙ i.in_equations.below,
      )

  pub slots-are-sound : All SoundSlot (take rel.vars s.slots)
  slots-are-sound = slots-sound (take rel.vars s.slots) (λ x v e. i.in_slots.units x v (sym (i.in_slots.held x) ∙ e))

  -- ---- 10
  pub public-count : length (publics_of rel s.slots) ≡ public_count l
  unfolding publics_of
  public-count =
      let o = i.in_slots in
      let n = length-take-le rel.vars s.slots o.room in
      publics-count (has (pair_vars l.sets)) 0 (take rel.vars s.slots)
      (λ k h. ap is_some (o.held k) ∙ look-domain l.sets k ∙ ap (has (pair_vars l.sets)) (omega arith))
      ∙ ap (number_of (has (pair_vars l.sets)) 0) (n ∙ i.count)

  -- ---- 12 to 15
  pub wires-below : All (λ x. x < rel.vars) (pair_vars publics)
  unfolding publics_of
  wires-below = publics_of-below rel s.slots

  pub validated-left : validated_no (compiled_parts rel s.slots s.queries s.equations) ≡ first_no (validated_left l)
  unfolding validated_no
  validated-left =
      let o = i.in_slots in
      let n = length-take-le rel.vars s.slots o.room in
      ap validated_no parts_are
      ∙ past-yes 12 _ _ (facts-all_below rel.vars (pair_vars publics) wires-below)
      ∙ ap₂ (λ (m : ℕ) (binds : ℕ → Bool). ask 13 (all_below m (flat l.queries)) ▸ first_no (termwise_asks m binds l.equations))
      i.count (fun_ext (bound-is w l rel.vars s.slots o i.in_queries.widths))

  -- ---- 1 and 2: of record and slots nothing is left, of queries and equations their sizes
  relation-yes : (k : ℕ)
      → ask 1 (leb 1 rel.width) ▸ (ask 1 (leb rel.width max_width)
      ▸ (ask 2 (leb (length s.slots) max_count)
      ▸ (ask 2 (leb 1 rel.vars) ▸ (ask 2 (leb rel.vars max_count) ▸ (ask 2 (leb rel.vars (length s.slots)) ▸ k))))) ≡ k
  relation-yes k =
      let o = i.in_slots in
      let a = o.most in
      let b = o.room in
      past-width rel.width _ (rw i.width_is i.least) (rw i.width_is i.most)
      ∙ past_fits 2 _ _ _ a
      ∙ past_fits 2 _ _ _ o.least
      ∙ past_fits 2 rel.vars max_count _ (omega arith)
      ∙ past_fits 2 _ _ _ b

  queries-left : (k : ℕ)
      → ask 2 (leb (length s.queries) max_count) ▸ (ask 2 (leb (words_of rel.width rel.queries) (length s.queries)) ▸ k)
      ≡ ask 2 (leb (length s.queries) max_count) ▸ k
  queries-left k =
      let q = i.in_queries in
      let f = begins-fits (flat l.queries) s.queries q.begins in
      let n = flat-length (w + w) l.queries q.widths in
      let h : words_of rel.width rel.queries ≤ length s.queries = rw (q.counts, i.width_is, ← n) f in
      then _ _ _ (past_fits 2 _ _ _ h)

  equations-left : (k : ℕ)
      → ask 2 (leb (length s.equations) max_count)
      ▸ (ask 2 (leb rel.words (length s.equations)) ▸ (ask 2 (leb (2 * rel.equations) (length s.equations)) ▸ k))
      ≡ ask 2 (leb (length s.equations) max_count) ▸ k
  equations-left k =
      let q = i.in_equations in
      let f = begins-fits (equations_words l.equations) s.equations q.begins in
      let t = two-each l.equations in
      let h : rel.words ≤ length s.equations = rw q.words f in
      let m : 2 * rel.equations ≤ length s.equations = rw q.counts (omega arith) in
      then _ _ _ (past_fits 2 _ _ _ h ∙ past_fits 2 _ _ _ m)

  module _ (label : List ℕ) (public_room scratch : ℕ) where
    walked-left : first_no (walked_asks (gate_lent rel label s.slots s.queries s.equations s.uses public_room scratch))
        ≡ first_no (compile_left (lengths_of s) l label public_room scratch)
    unfolding compile_left validated_no compiled_parts publics_of
    walked-left =
        walked-is (gate_lent rel label s.slots s.queries s.equations s.uses public_room scratch)
        ∙ relation-yes _ ∙ queries-left _
        ∙ then _ _ _ (equations-left _ ∙ then _ _ _ (then _ _ _ (then _ _ _ (then _ _ _
        (past-yes 11 _ _ equations-sound
        ∙ past-yes 11 _ _ (ap (all_below max_count) queries-held ∙ i.in_queries.below)
        ∙ past-yes 11 _ _ (facts-slots_sound (take rel.vars s.slots) slots-are-sound)
        ∙ then _ _ _
        (ap₂ ◌▸◌ (ap (λ (n : ℕ). ask 10 (leb (2 * n) public_room)) public-count)
        (ap₂ ◌▸◌ (ap (λ (n : ℕ). ask 16 (leb n scratch)) i.count) validated-left)))))))

    -- the use counts are those of the held cells, so it is the gate that walks them
    pub compile-left : compile_no (gate_lent rel label s.slots s.queries s.equations s.uses public_room scratch)
        ≡ first_no (compile_left (lengths_of s) l label public_room scratch)
    compile-left =
        counted-gate (gate_lent rel label s.slots s.queries s.equations s.uses public_room scratch)
        (subst (λ (cells : List ℕ). UseCounts (length s.slots) cells s.uses rel.stray) (sym queries-held) i.counts)
        ∙ walked-left
