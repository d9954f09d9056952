-- What an accepted gate made, and stores that hold the same words: their parts are the ledger's, and 2 and 11
-- say yes of them. Assumes nothing.
use Prim.Native.Nat.{ℕ, ◌+◌, ◌*◌, ◌-◌, ◌≤◌, ◌<◌}
use mathlib.Core.Path.{◌≡◌, sym, ap, ◌∙◌, subst}
use mathlib.Core.Bool.{and-eq-true_iff}
use mathlib.Core.List.{List, [], append-nil}
use native.Mathlib.Omega.{arith}
use lib.Dec.{leb}
use lib.ListN.{length, take, replicate, length-take, length-append, length-replicate}
use lib.Seq.{take_at}
use Rattle.limits.specs.Numbers.{prime, max_count}
use Rattle.limits.specs.Questions.{ask, ◌▸◌}
use Rattle.limits.proofs.Questions.{on_yes-yes}
use Rattle.words.specs.Store.{All, all_below}
use Rattle.words.specs.Pieces.{flat, pieces, words_of}
use Rattle.words.proofs.Lists.{all_map}
use Rattle.words.proofs.Held.{flat-length}
use Rattle.allocator.specs.Slots.{Pair}
use Rattle.expr.specs.Equation.{equations_at, equations_words}
use Rattle.expr.proofs.Held.{two-each}
use Rattle.permutation.specs.declared.PermutationRelation.{PermutationRelation}
use Rattle.instance.specs.declared.PermutationInstance.{PermutationInstance}
use Rattle.instance.specs.Parts.{pair_vars, pair_values, pair_words, pairs_at, held_publics, held_queries, held_equations, parts_of}
use Rattle.held.specs.Held.{publics_sound, equations_sound}
use Rattle.compile.specs.Gate.{publics_from, publics_of, instance_of, publics_store, compile_no, compile, compile_publics}
use Rattle.instance.proofs.Parts.{pair_words-length, pairs_at-pair_words}
use Rattle.held.proofs.Facts.{facts-all_below}
use Rattle.validated.proofs.Facts.{Valid, validated-facts}
use Rattle.compile.proofs.Rising.{publics_of-values}
use Rattle.history.specs.Ledger.{Ledger}
use Rattle.history.specs.Calls.{State, lengths_of}
use Rattle.history.specs.Whole.{lent_to_gate, compiled, publics_made}
use Rattle.history.proofs.Bridge.{ledger_parts}
use Rattle.history.proofs.Keeps.{Agrees}
use Rattle.history.proofs.Outcomes.{past-yes, past_fits}
use Rattle.history.proofs.Accepted.{CompileLeft, compile_left-yes}
use Rattle.history.proofs.Gate.{wires-below, validated-left, public-count, compile-left, queries-held, equations-held-are, queries-are, equations-are, parts_are, equations-sound, slots-are-sound}

-- ---- publics as words
pairs-words : (ps : List Pair) → pairs_at (length ps) (pair_words ps) ≡ ps
pairs-words ps = ap (pairs_at (length ps)) (sym (append-nil (pair_words ps))) ∙ pairs_at-pair_words ps []

-- a store whose first n words are n words has as many
pub full : (n : ℕ) (store words : List ℕ) → take n store ≡ words → length words ≡ n → n ≤ length store
full n store words e h = let k = sym (length-take n store) ∙ ap length e ∙ h in omega arith

-- ---- a state that agrees with a ledger
module _ (s : State) (l : Ledger) (i : Agrees s.relation.width s l) where
  abbrev rel : PermutationRelation
  rel = s.relation

  -- its publics, and the instance that they make
  abbrev pub ps : List Pair
  ps = publics_from 0 (take rel.vars s.slots)

  abbrev pub ins : PermutationInstance
  ins = instance_of rel (length ps)

  -- the publics are sound
  pub publics-wires : All (λ x. x < max_count) (pair_vars ps)
  publics-wires =
      let o = i.in_slots in
      let a = o.most in
      let b = o.room in
      all_map _ _ (pair_vars ps) (λ x h. omega arith) (wires-below rel.width s l i)

  pub publics-values : All (λ v. v < prime) (pair_values ps)
  unfolding publics_of
  publics-values = publics_of-values rel s.slots (slots-are-sound rel.width s l i)

  -- stores that hold the ledger's words by the instance's counts
  pub record HoldsWords (publics queries equations : List ℕ) : Type 0 where
    pub publics-words : held_publics ins publics ≡ pair_words ps
    pub queries-words : held_queries ins queries ≡ flat l.queries
    pub equations-words : held_equations ins equations ≡ equations_words l.equations

  -- of sizes that 2 lets through
  pub record Sized (publics queries equations : List ℕ) : Type 0 where
    pub publics-size : length publics ≤ max_count
    pub queries-size : length queries ≤ max_count
    pub equations-size : length equations ≤ max_count

  pub queries-length : length (flat l.queries) ≡ words_of rel.width rel.queries
  queries-length =
      flat-length (rel.width + rel.width) l.queries i.in_queries.widths ∙ ap (words_of rel.width) (sym i.in_queries.counts)

  module _ (publics queries equations : List ℕ) (h : HoldsWords publics queries equations) where
    pub parts_held : parts_of ins publics queries equations ≡ ledger_parts l rel.vars ps
    unfolding parts_of
    parts_held = λ j. record {
      vars = rel.vars;
      publics = (ap (pairs_at (length ps)) h.publics-words ∙ pairs-words ps) j;
      queries = (ap (pieces (rel.width + rel.width) rel.queries) (h.queries-words ∙ sym (queries-held rel.width s l i)) ∙ queries-are rel.width s l i) j;
      equations = (ap (equations_at rel.equations) (h.equations-words ∙ sym (equations-held-are rel.width s l i)) ∙ equations-are rel.width s l i) j;
    }

    -- 2 of the parts says yes
    pub sizes-yes : Sized publics queries equations → (k : ℕ)
        → ask 2 (leb (length publics) max_count) ▸ (ask 2 (leb (length queries) max_count) ▸ (ask 2 (leb (length equations) max_count)
        ▸ (ask 2 (leb (2 * length ps) (length publics)) ▸ (ask 2 (leb (words_of rel.width rel.queries) (length queries))
        ▸ (ask 2 (leb rel.words (length equations)) ▸ (ask 2 (leb (2 * rel.equations) (length equations)) ▸ k)))))) ≡ k
    sizes-yes z k =
        let e = i.in_equations in
        let u : rel.words ≤ length equations = full rel.words equations (equations_words l.equations) h.equations-words (sym e.words) in
        let m : 2 * rel.equations ≤ rel.words = rw (e.counts, e.words) (two-each l.equations) in
        past_fits 2 _ _ _ z.publics-size
        ∙ past_fits 2 _ _ _ z.queries-size
        ∙ past_fits 2 _ _ _ z.equations-size
        ∙ past_fits 2 _ _ _ (full _ publics (pair_words ps) h.publics-words (pair_words-length ps))
        ∙ past_fits 2 _ _ _ (full _ queries (flat l.queries) h.queries-words queries-length)
        ∙ past_fits 2 _ _ _ u
        ∙ past_fits 2 (2 * rel.equations) (length equations) _ (omega arith)

    -- and 11
    pub sound-yes : (k : ℕ)
        → ask 11 (equations_sound rel.equations (held_equations ins equations))
        ▸ (ask 11 (publics_sound (length ps) (held_publics ins publics)) ▸ (ask 11 (all_below max_count (held_queries ins queries)) ▸ k)) ≡ k
    unfolding publics_sound
    sound-yes k =
        let e = ap (pairs_at (length ps)) h.publics-words ∙ pairs-words ps in
        past-yes 11 _ _ (ap (equations_sound rel.equations) (h.equations-words ∙ sym (equations-held-are rel.width s l i)) ∙ equations-sound rel.width s l i)
        ∙ past-yes 11 _ _ ((and-eq-true_iff _ _).1 (
          ap (λ (x : List Pair). all_below max_count (pair_vars x)) e ∙ facts-all_below max_count (pair_vars ps) publics-wires,
          ap (λ (x : List Pair). all_below prime (pair_values x)) e ∙ facts-all_below prime (pair_values ps) publics-values,
        ))
        ∙ past-yes 11 _ _ (ap (all_below max_count) h.queries-words ∙ i.in_queries.below)

  -- ---- the gate's yes
  module _ (label publics scratch : List ℕ)
      (gate : compile_no (lent_to_gate s label publics scratch) ≡ 0) where
    pub instance-is : (compiled s label publics scratch).instance ≡ ins
    unfolding compile publics_of
    instance-is = on_yes-yes _ _ _ gate

    abbrev pub made : List ℕ
    made = publics_store (length publics) ps

    pub made-is : publics_made s label publics scratch ≡ made
    unfolding compile_publics publics_of
    made-is = on_yes-yes _ _ _ gate

    -- what the gate's yes says, by the ledger: however the gate comes to its number
    pub compiles : CompileLeft (lengths_of s) l label (length publics)
    compiles = compile_left-yes _ _ _ _ _ (sym (compile-left rel.width s l i label (length publics) (length scratch)) ∙ gate)

    pub parts-valid : Valid (ledger_parts l rel.vars ps)
    parts-valid = subst Valid (parts_are rel.width s l i) (validated-facts _ (validated-left rel.width s l i ∙ compiles.valid))

    pub publics-room : 2 * length ps ≤ length publics
    unfolding publics_of
    publics-room = let n = public-count rel.width s l i in let r = compiles.room in rw n r

    -- the stores as the gate left them
    pub gate-holds : HoldsWords made s.queries s.equations
    gate-holds = record {
      publics-words = take_at (pair_words ps) (replicate (length publics - 2 * length ps) 0) (2 * length ps) (pair_words-length ps);
      queries-words = queries-held rel.width s l i;
      equations-words = equations-held-are rel.width s l i;
    }

    pub gate-sized : Sized made s.queries s.equations
    gate-sized =
        let c = compiles in
        let r = publics-room in
        let n = pair_words-length ps in
        let m : length made ≡ length publics = simp (length-append, length-replicate) (omega arith) in
        record { publics-size = rw m c.publics-high; queries-size = c.queries-high; equations-size = c.equations-high }
