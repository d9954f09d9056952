-- The gate says yes exactly where these facts on lists hold, group by group of its questions: 1 and 2, 11 of each store,
-- 10, 16, and 12 to 15 by counts (`compile-facts`, `facts-compile`). What it let through passes 2 and 11 as an instance.
-- Assumes nothing.
use Prim.Native.Nat.{ℕ, ◌*◌, ◌-◌, ◌≤◌, ◌<◌}
use mathlib.Core.Path.{◌≡◌, refl, sym, ◌∙◌}
use mathlib.Core.Bool.{Bool, true, and-eq-true_iff}
use mathlib.Core.List.{List, ◌++◌}
use borrow.Author.Tests.{lt-ltb, le-leb, eq-eqb, ltb-true, leb-true, eqb-true}
use lib.Dec.{leb}
use lib.ListN.{length, take, drop, replicate}
use Rattle.limits.specs.Numbers.{prime, max_count, max_width, label_end}
use Rattle.limits.specs.Questions.{ask, first_no}
use Rattle.limits.specs.Asks.{store_asks}
use Rattle.limits.proofs.Questions.{ask-yes, says-yes, both, join, first_no-append, puts, puts-yes}
use Rattle.words.specs.Store.{All}
use Rattle.words.specs.Pieces.{words_of}
use Rattle.utf8.specs.Utf8.{is_utf8}
use Rattle.allocator.specs.Slots.{Pair}
use Rattle.expr.specs.Equation.{Equation, equations_at, equations_end}
use Rattle.permutation.specs.Relation.{relation_asks}
use Rattle.permutation.specs.declared.PermutationRelation.{PermutationRelation}
use Rattle.held.proofs.Facts.{Below, all_below-facts, facts-all_below, SoundEquation, equations_sound-facts, facts-equations_sound, SoundSlot, slots_sound-facts, facts-slots_sound}
use Rattle.instance.specs.Parts.{pair_vars, pair_values}
use Rattle.instance.proofs.Parts.{pairs_at-pair_words, pairs_at-take}
use Rattle.held.specs.Held.{publics_sound}
use Rattle.validated.specs.Validated.{bound_by}
use Rattle.validated.proofs.Facts.{ValidEquation, equations-valid, valid-equations}
use Rattle.compile.specs.Gate.{GateLent, publics_of, publics_store, compiled_parts, stores_asks, sound_asks, lent_stores_asks, lent_sound_asks, prepared_no, compile_no}
use Rattle.compile.proofs.Rising.{within, publics_of-below, publics_of-values}
use Rattle.compile.proofs.Gate.{compile_no-is}

fits : {a b : ℕ} → a ≤ b → ask 2 (leb a b) ≡ 0
fits {a} {b} h = ask-yes 2 (leb a b) (le-leb a b h)

-- ---- 1, and 2 of wire count and slots
pub record RelationFits (rel : PermutationRelation) (slots : ℕ) : Type 0 where
  pub width_low : 1 ≤ rel.width
  pub width-high : rel.width ≤ max_width
  pub slots-high : slots ≤ max_count
  pub vars-low : 1 ≤ rel.vars
  pub vars-high : rel.vars ≤ max_count
  pub vars-held : rel.vars ≤ slots

module _ (rel : PermutationRelation) (slots : ℕ) where
  pub relation_asks-yes : first_no (relation_asks rel slots) ≡ 0 → RelationFits rel slots
  relation_asks-yes e =
      let says = puts-yes (relation_asks rel slots) e in
      record {
        width_low = leb-true _ _ (says 1 _ tt (search puts depth 20));
        width-high = leb-true _ _ (says 1 _ tt (search puts depth 20));
        slots-high = leb-true _ _ (says 2 _ tt (search puts depth 20));
        vars-low = leb-true _ _ (says 2 _ tt (search puts depth 20));
        vars-high = leb-true _ _ (says 2 _ tt (search puts depth 20));
        vars-held = leb-true _ _ (says 2 _ tt (search puts depth 20));
      }

  yes-relation_asks : RelationFits rel slots → first_no (relation_asks rel slots) ≡ 0
  yes-relation_asks f =
      join _ _ (ask-yes 1 _ (le-leb _ _ f.width_low))
      (join _ _ (ask-yes 1 _ (le-leb _ _ f.width-high))
      (join _ _ (fits f.slots-high)
      (join _ _ (fits f.vars-low) (join _ _ (fits f.vars-high) (join _ _ (fits f.vars-held) refl)))))

-- ---- 2 of the other stores
pub record StoresFit (rel : PermutationRelation) (label queries equations publics scratch : ℕ) : Type 0 where
  pub queries-high : queries ≤ max_count
  pub queries-held : words_of rel.width rel.queries ≤ queries
  pub equations-high : equations ≤ max_count
  pub words-held : rel.words ≤ equations
  pub equations-held : 2 * rel.equations ≤ equations
  pub publics-high : publics ≤ max_count
  pub scratch-high : scratch ≤ max_count
  pub label-high : label < label_end

module _ (rel : PermutationRelation) (label queries equations publics scratch : ℕ) where
  stores_asks-yes : first_no (stores_asks rel label queries equations publics scratch) ≡ 0
      → StoresFit rel label queries equations publics scratch
  stores_asks-yes e =
      let says = puts-yes (stores_asks rel label queries equations publics scratch) e in
      record {
        queries-high = leb-true _ _ (says 2 _ tt (search puts depth 20));
        queries-held = leb-true _ _ (says 2 _ tt (search puts depth 20));
        equations-high = leb-true _ _ (says 2 _ tt (search puts depth 20));
        words-held = leb-true _ _ (says 2 _ tt (search puts depth 20));
        equations-held = leb-true _ _ (says 2 _ tt (search puts depth 20));
        publics-high = leb-true _ _ (says 2 _ tt (search puts depth 20));
        scratch-high = leb-true _ _ (says 2 _ tt (search puts depth 20));
        label-high = ltb-true _ _ (says 2 _ tt (search puts depth 20));
      }

  yes-stores_asks : StoresFit rel label queries equations publics scratch
      → first_no (stores_asks rel label queries equations publics scratch) ≡ 0
  yes-stores_asks f =
      join _ _ (fits f.queries-high)
      (join _ _ (fits f.queries-held)
      (join _ _ (fits f.equations-high)
      (join _ _ (fits f.words-held)
      (join _ _ (fits f.equations-held)
      (join _ _ (fits f.publics-high)
      (join _ _ (fits f.scratch-high) (join _ _ (ask-yes 2 _ (lt-ltb _ _ f.label-high)) refl)))))))

-- ---- 11
pub record StoresSound (rel : PermutationRelation) (label slots queries equations : List ℕ) : Type 0 where
  pub ends : equations_end rel.equations (take rel.words equations) ≡ length (take rel.words equations)
  pub equations-sound : All SoundEquation (equations_at rel.equations (take rel.words equations))
  pub queries-sound : Below max_count (take (words_of rel.width rel.queries) queries)
  pub slots-sound : All SoundSlot (take rel.vars slots)
  pub label-sound : is_utf8 label ≡ true

module _ (rel : PermutationRelation) (label slots queries equations : List ℕ) where
  sound_asks-yes : first_no (sound_asks rel label slots queries equations) ≡ 0 → StoresSound rel label slots queries equations
  sound_asks-yes e =
      let says = puts-yes (sound_asks rel label slots queries equations) e in
      let q = equations_sound-facts rel.equations (take rel.words equations) (says 11 _ tt (search puts depth 20)) in
      record {
        ends = q.0;
        equations-sound = q.1;
        queries-sound = all_below-facts max_count (take (words_of rel.width rel.queries) queries) (says 11 _ tt (search puts depth 20));
        slots-sound = slots_sound-facts (take rel.vars slots) (says 11 _ tt (search puts depth 20));
        label-sound = says 11 _ tt (search puts depth 20);
      }

  yes-sound_asks : StoresSound rel label slots queries equations → first_no (sound_asks rel label slots queries equations) ≡ 0
  yes-sound_asks s =
      join _ _ (ask-yes 11 _ (facts-equations_sound _ _ s.ends s.equations-sound))
      (join _ _ (ask-yes 11 _ (facts-all_below max_count _ s.queries-sound))
      (join _ _ (ask-yes 11 _ (facts-slots_sound _ s.slots-sound)) (join _ _ (ask-yes 11 _ s.label-sound) refl)))

-- ---- 13 to 15 by counts; the slots are those of the allocated wires
pub record CountsValid (vars : ℕ) (slots uses : List ℕ) (stray : ℕ) (equations : List Equation) : Type 0 where
  pub no_stray : stray ≡ 0
  pub none-past : Below 1 (drop vars uses)
  pub terms : All (ValidEquation vars (bound_by slots uses)) equations

-- ---- 1, 2 and 11 together, and with 10, 16 and 12 to 15
module _ (l : GateLent) where
  abbrev rel : PermutationRelation
  rel = l.relation

  abbrev ps : List Pair
  ps = publics_of rel l.slots

  -- what binds, by counts, and the equations
  abbrev binds : ℕ → Bool
  binds = bound_by (take rel.vars l.slots) l.uses

  abbrev equations : List Equation
  equations = equations_at rel.equations (take rel.words l.equations)

  pub record Prepared : Type 0 where
    pub relation : RelationFits rel (length l.slots)
    pub stores : StoresFit rel (length l.label) (length l.queries) (length l.equations) l.publics l.scratch
    pub uses-high : length l.uses ≤ max_count
    pub sound : StoresSound rel l.label l.slots l.queries l.equations

  pub record CompileFacts : Type 0 where
    pub prepared : Prepared
    pub room : 2 * length ps ≤ l.publics
    pub uses-same : length l.uses ≡ length l.slots
    pub scratch-held : rel.vars ≤ l.scratch
    pub valid : CountsValid rel.vars (take rel.vars l.slots) l.uses rel.stray equations

  pub prepared-facts : prepared_no l ≡ 0 → Prepared
  unfolding prepared_no
  prepared-facts e =
      let uses = store_asks (length l.uses) in
      let a = both _ _ (sym (first_no-append (relation_asks rel (length l.slots)) (lent_stores_asks l ++ (uses ++ lent_sound_asks l))) ∙ e) in
      let b = both _ _ (sym (first_no-append (lent_stores_asks l) (uses ++ lent_sound_asks l)) ∙ a.1) in
      let c = both _ _ b.1 in
      record {
        relation = relation_asks-yes _ _ a.0;
        stores = stores_asks-yes _ _ _ _ _ _ b.0;
        uses-high = leb-true _ _ (says-yes 1 _ c.0);
        sound = sound_asks-yes _ _ _ _ _ c.1;
      }

  facts-prepared : Prepared → prepared_no l ≡ 0
  unfolding prepared_no
  facts-prepared p =
      let uses = store_asks (length l.uses) in
      first_no-append (relation_asks rel (length l.slots)) (lent_stores_asks l ++ (uses ++ lent_sound_asks l))
      ∙ join _ _ (yes-relation_asks _ _ p.relation)
      (first_no-append (lent_stores_asks l) (uses ++ lent_sound_asks l)
      ∙ join _ _ (yes-stores_asks _ _ _ _ _ _ p.stores) (join _ _ (fits p.uses-high) (yes-sound_asks _ _ _ _ _ p.sound)))

  pub compile-facts : compile_no l ≡ 0 → CompileFacts
  unfolding compiled_parts
  compile-facts e =
      let n = both _ _ (sym (compile_no-is l) ∙ e) in
      let room = both _ _ n.1 in
      let same = both _ _ room.1 in
      let scratch = both _ _ same.1 in
      let twelve = both _ _ scratch.1 in
      let thirteen = both _ _ twelve.1 in
      let below = (and-eq-true_iff _ _).0 (says-yes 12 _ thirteen.0) in
      record {
        prepared = prepared-facts n.0;
        room = leb-true _ _ (says-yes 9 _ room.0);
        uses-same = eqb-true _ _ (says-yes 9 _ same.0);
        scratch-held = leb-true _ _ (says-yes 15 _ scratch.0);
        valid =
            record {
              no_stray = eqb-true _ _ below.0;
              none-past = all_below-facts 1 (drop rel.vars l.uses) below.1;
              terms = equations-valid rel.vars binds equations thirteen.1;
            };
      }

  pub facts-compile : CompileFacts → compile_no l ≡ 0
  unfolding compiled_parts
  facts-compile c =
      compile_no-is l
      ∙ join _ _ (facts-prepared c.prepared)
      (join _ _ (ask-yes 10 _ (le-leb _ _ c.room))
      (join _ _ (ask-yes 10 _ (eq-eqb _ _ c.uses-same))
      (join _ _ (ask-yes 16 _ (le-leb _ _ c.scratch-held))
      (join _ _ (ask-yes 12 _ (facts-all_below rel.vars (pair_vars ps) (publics_of-below rel l.slots)))
      (join _ _ (ask-yes 13 _ ((and-eq-true_iff _ _).1 (eq-eqb _ _ c.valid.no_stray, facts-all_below 1 _ c.valid.none-past)))
      (valid-equations rel.vars binds equations c.valid.terms))))))

  -- ---- what the gate let through passes 2 and 11 as an instance, in a store of any sound length
  pub publics-sound : Prepared → publics_sound (length ps) (take (2 * length ps) (publics_store l.publics ps)) ≡ true
  unfolding publics_sound
  publics-sound p =
      let e = pairs_at-take (length ps) (publics_store l.publics ps) ∙ pairs_at-pair_words ps (replicate (l.publics - 2 * length ps) 0) in
      let a = facts-all_below max_count (pair_vars ps) (within rel.vars max_count (pair_vars ps) p.relation.vars-high (publics_of-below rel l.slots)) in
      let b = facts-all_below prime (pair_values ps) (publics_of-values rel l.slots p.sound.slots-sound) in
      rw (e, a, b)
