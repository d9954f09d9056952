-- The gate: the parts that it judges, and what it answers. Assumes nothing.
use Prim.Native.Nat.{ℕ, zero, suc, ◌*◌, ◌-◌}
use mathlib.Core.Path.{◌≡◌, refl, sym, ap, ◌∙◌}
use mathlib.Core.Bool.{Bool, true}
use mathlib.Core.List.{List, append-nil}
use borrow.Author.Tests.{leb-true}
use lib.Dec.{eqb, leb}
use lib.ListN.{length, take, replicate, length-replicate}
use Rattle.std.specs.Prelude.{Err, Ok}
use Rattle.limits.specs.Questions.{Question, ask, ◌▸◌, first_no}
use Rattle.limits.specs.Outcome.{Outcome, outcome_of, refusal}
use Rattle.limits.specs.declared.Refused.{Refused}
use Rattle.limits.proofs.Answered.{accepted-zero, refused-number, refused-some}
use Rattle.limits.proofs.Questions.{stays, goes_on, join, both, says-yes, zero-▸, ▸-assoc, first_no-append}
use Rattle.words.specs.Store.{put_words}
use Rattle.words.specs.Pieces.{steps_of}
use Rattle.allocator.specs.Slots.{Pair}
use Rattle.expr.specs.Equation.{equations_at}
use Rattle.permutation.specs.declared.PermutationRelation.{PermutationRelation}
use Rattle.instance.specs.Parts.{pair_vars, pair_words, parts_of}
use Rattle.instance.proofs.Parts.{pairs_at-pair_words, pairs_at-take}
use Rattle.held.proofs.Facts.{facts-all_below}
use Rattle.validated.specs.Validated.{bound_by, gate_asks_by}
use Rattle.use_gate.specs.UseGate.{uses_below, used_no}
use Rattle.use_gate.proofs.Same.{used-no}
use Rattle.compile.specs.Records.{gated}
use Rattle.compile.specs.Gate.{GateLent, publics_of, publics_store, PutsPublics, instance_of, compiled_parts, lent_parts, prepared_asks, prepared_no, made_asks, compile_no, compile, compile_publics, asked_made}
use Rattle.compile.proofs.Publics.{put-zeros}
use Rattle.compile.proofs.Rising.{publics_of-below}

-- ---- the parts that the gate judges are those of the instance that it makes
module _ (rel : PermutationRelation) (slots queries equations : List ℕ) where
  pub compiled-parts : (len : ℕ)
      → parts_of (instance_of rel (length (publics_of rel slots))) (publics_store len (publics_of rel slots)) queries equations
      ≡ compiled_parts rel slots queries equations
  unfolding parts_of compiled_parts
  compiled-parts len =
      let ps = publics_of rel slots in
      let e = pairs_at-take (length ps) (publics_store len ps) ∙ pairs_at-pair_words ps (replicate (len - 2 * length ps) 0) in
      λ j. record {
        vars = rel.vars;
        publics = e j;
        queries = steps_of rel.width rel.queries queries;
        equations = equations_at rel.equations (take rel.words equations);
      }

-- ---- the numbers of 10, 16 and 13 to 15, one after the other
pub made_by : (rel : PermutationRelation) (slots equations uses : List ℕ) (count publics scratch a b c r : ℕ) (allocated held : List ℕ)
    → allocated ≡ take rel.vars slots → held ≡ take rel.words equations
    → a ≡ 0 ▸ ask 10 (leb (2 * count) publics) → b ≡ a ▸ ask 10 (eqb (length uses) (length slots)) → c ≡ b ▸ ask 16 (leb rel.vars scratch)
    → r ≡ c ▸ used_no rel.vars allocated uses rel.stray (equations_at rel.equations held)
    → r ≡ asked_made rel slots equations uses count publics scratch
made_by rel slots equations uses count publics scratch a b c r allocated held el eh ea eb ec er = rw (er, ec, eb, ea, el, eh) (rw zero-▸)

-- ---- the answer
module _ (l : GateLent) where
  abbrev rel : PermutationRelation
  rel = l.relation

  abbrev ps : List Pair
  ps = publics_of rel l.slots

  -- 10, whether the store holds the publics
  abbrev fits : Bool
  fits = leb (2 * length ps) l.publics

  -- 10, whether the use store has a word per slot
  abbrev same : Bool
  same = eqb (length l.uses) (length l.slots)

  -- 16 and 12 to 15, 13 and 15 by counts
  abbrev pub gate_by : List Question
  gate_by =
      gate_asks_by (uses_below rel.vars l.uses rel.stray) (bound_by (take rel.vars l.slots) l.uses) (lent_parts l) l.scratch

  -- 10, 16 and 12 to 15
  abbrev pub made_no : ℕ
  made_no = ask 10 fits ▸ (ask 10 same ▸ first_no gate_by)

  pub compile_no-is : compile_no l ≡ prepared_no l ▸ made_no
  unfolding compile_no prepared_no
  compile_no-is =
      first_no-append (prepared_asks l) (made_asks l)
      ∙ ap (λ (qs : List Question). prepared_no l ▸ (ask 10 fits ▸ (ask 10 same ▸ first_no qs))) (append-nil gate_by)

  -- as the code asks them
  abbrev pub code_no : ℕ → ℕ
  code_no count = asked_made rel l.slots l.equations l.uses count l.publics l.scratch

  code_is : code_no (length ps) ≡ made_no
  unfolding compiled_parts
  code_is =
      rw (← used-no (lent_parts l) (take rel.vars l.slots) l.uses rel.stray (facts-all_below rel.vars (pair_vars ps) (publics_of-below rel l.slots)))
      (simp ▸-assoc)

  -- ---- a refusal answers its number and leaves zeros
  pub record Refuses (q : Refused) : Type 0 where
    pub answer : gated (Err q) ≡ compile l
    pub publics : replicate l.publics 0 ≡ compile_publics l

  refuses-by : (k : ℕ) → compile_no l ≡ k → (k ≡ 0 → ⊥) → Refuses (refusal k)
  unfolding compile compile_publics
  refuses-by zero e h = absurd (h refl)
  refuses-by (suc k) e h = record { answer = rw e; publics = rw e }

  -- 1, 2 and 11 were asked
  module _ {f : Outcome} (is : f ≡ outcome_of (prepared_no l)) where
    pub refuses-first : {q : Refused} → f ≡ Err q → Refuses q
    refuses-first {q} was =
        let e = refused-number _ _ is was in
        let h = λ (z : q.0 ≡ 0). refused-some _ _ is was (e ∙ z) in
        refuses-by q.0 (compile_no-is ∙ ap (λ (n : ℕ). n ▸ made_no) e ∙ stays q.0 made_no h) h

    -- they said yes; then the count and the store that the gate makes, and what 10, 16 and 13 to 15 answer
    module _ {u : Unit {0}} (was : f ≡ Ok u) (zeros : List ℕ) (o : zeros ≡ replicate l.publics 0) (count : ℕ) (store : List ℕ)
        (made : PutsPublics (take rel.vars l.slots) zeros count store) {g : Outcome} (asked : g ≡ outcome_of (code_no count)) where
      count-is : count ≡ length ps
      unfolding publics_of
      count-is = made.count

      store_is : fits ≡ true → store ≡ publics_store l.publics ps
      unfolding publics_of
      store_is h =
          let n : length zeros ≡ l.publics = ap length o ∙ length-replicate _ _ in
          made.stored (rw n (leb-true _ _ h)) ∙ ap (put_words 0 (pair_words ps)) o ∙ put-zeros l.publics ps

      made-is : code_no count ≡ made_no
      made-is = ap code_no count-is ∙ code_is

      first-zero : prepared_no l ≡ 0
      first-zero = accepted-zero _ _ is was

      pub refuses-made : {q : Refused} → g ≡ Err q → Refuses q
      refuses-made {q} said =
          let e = refused-number _ _ asked said in
          refuses-by q.0 (compile_no-is ∙ goes_on (prepared_no l) made_no first-zero ∙ sym made-is ∙ e)
          (λ (z : q.0 ≡ 0). refused-some _ _ asked said (e ∙ z))

      pub record Accepts : Type 0 where
        pub answer : gated (Ok (instance_of rel count)) ≡ compile l
        pub publics : store ≡ compile_publics l

      pub accepts : {v : Unit {0}} → g ≡ Ok v → Accepts
      unfolding compile compile_publics
      accepts said =
          let y = sym made-is ∙ accepted-zero _ _ asked said in
          let n : compile_no l ≡ 0 = compile_no-is ∙ join (prepared_no l) made_no first-zero y in
          let f : fits ≡ true = says-yes 9 _ (both _ _ y).0 in
          record { answer = rw (n, count-is); publics = rw n (store_is f) }
