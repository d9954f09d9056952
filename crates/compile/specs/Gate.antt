-- The gate (the source's `compile`): its questions, the publics that it makes, and its answer.
-- Assumes nothing.
use Rattle.std.specs.Prelude.{ℕ, suc, ◌*◌, ◌-◌, ◌≤◌, ◌≡◌, List, [], ◌∷◌, ◌++◌, eqb, leb, length, take, replicate, Err}
use Rattle.limits.specs.Numbers.{max_count, unassigned}
use Rattle.limits.specs.Questions.{ask, ◌▸◌, Question, question, first_no, in_turn, pick, on_yes}
use Rattle.limits.specs.Asks.{store_asks}
use Rattle.words.specs.Store.{all_below, put_words}
use Rattle.words.specs.Pieces.{words_of, steps_of}
use Rattle.uses.specs.Uses.{length_asks}
use Rattle.utf8.specs.Utf8.{is_utf8}
use Rattle.allocator.specs.Slots.{Pair, pair}
use Rattle.expr.specs.Equation.{equations_at}
use Rattle.permutation.specs.Sharing.{Sharing, alone}
use Rattle.permutation.specs.Relation.{relation_asks_with, queries_asks, equations_asks}
use Rattle.limits.specs.Outcome.{outcome_of, refusal}
use Rattle.permutation.specs.declared.PermutationRelation.{PermutationRelation}
use Rattle.instance.specs.Parts.{Parts, pair_words}
use Rattle.held.specs.Held.{label_asks, equations_sound, slots_sound}
use Rattle.validated.specs.Validated.{bound_by, gate_asks, gate_asks_by}
use Rattle.use_gate.specs.UseGate.{uses_below, used_no}
use Rattle.instance.specs.Looks.{no_instance}
use Rattle.instance.specs.declared.PermutationInstance.{PermutationInstance}
use Rattle.compile.specs.Records.{Compiled}

-- what the gate is lent: the relation's record, what the label and the stores that it reads hold, and how long the
-- stores are that it writes
pub record GateLent : Type 0 where
  pub relation : PermutationRelation
  pub label : List ℕ
  pub slots : List ℕ
  pub queries : List ℕ
  pub equations : List ℕ
  pub uses : List ℕ
  pub publics : ℕ
  pub scratch : ℕ

-- these, put together
abbrev pub gate_lent : PermutationRelation → (label slots queries equations uses : List ℕ) → (publics scratch : ℕ) → GateLent
gate_lent rel label slots queries equations uses publics scratch =
    record {
      relation = rel;
      label = label;
      slots = slots;
      queries = queries;
      equations = equations;
      uses = uses;
      publics = publics;
      scratch = scratch;
    }

-- ---- the publics that it makes
-- the assigned wires in index order, with their units; the first slot is that of wire i
abbrev pub publics_from : ℕ → List ℕ → List Pair
publics_from i [] = []
publics_from i (x ∷ slots) =
    pick (eqb x unassigned) (publics_from (suc i) slots) (pair i x ∷ publics_from (suc i) slots)

-- the publics of a relation
unfoldable pub publics_of : PermutationRelation → List ℕ → List Pair
publics_of rel slots = publics_from 0 (take rel.vars slots)

-- the instance that an accepted gate answers: the relation's record with the public count
abbrev pub instance_of : PermutationRelation → ℕ → PermutationInstance
instance_of rel publics =
    record {
      width = rel.width;
      vars = rel.vars;
      queries = rel.queries;
      equations = rel.equations;
      words = rel.words;
      publics = publics;
    }

-- the store of publics after an accepted gate: the pairs, then 0 to its end
abbrev pub publics_store : ℕ → List Pair → List ℕ
publics_store len ps = pair_words ps ++ replicate (len - 2 * length ps) 0

-- ---- its questions
-- the parts that the gate judges: publics from the slots, queries and equations as held
unfoldable pub compiled_parts : PermutationRelation → (slots queries equations : List ℕ) → Parts
compiled_parts rel slots queries equations =
    record {
      vars = rel.vars;
      publics = publics_of rel slots;
      queries = steps_of rel.width rel.queries queries;
      equations = equations_at rel.equations (take rel.words equations);
    }

-- 2 of the stores beside slots and use store, by their lengths
abbrev pub stores_asks : PermutationRelation → (label queries equations publics scratch : ℕ) → List Question
stores_asks rel label queries equations publics scratch =
    queries_asks rel queries
    ++ (equations_asks rel equations ++ (store_asks publics ++ (store_asks scratch ++ label_asks label)))

-- 11 of what the stores hold
abbrev pub sound_asks : PermutationRelation → (label slots queries equations : List ℕ) → List Question
sound_asks rel label slots queries equations =
    question 11 (equations_sound rel.equations (take rel.words equations))
    ∷ question 11 (all_below max_count (take (words_of rel.width rel.queries) queries))
    ∷ question 11 (slots_sound (take rel.vars slots))
    ∷ question 11 (is_utf8 label)
    ∷ []

-- 2 of what is lent
abbrev pub lent_stores_asks : GateLent → List Question
lent_stores_asks l =
    stores_asks l.relation (length l.label) (length l.queries) (length l.equations) l.publics l.scratch

-- 11 of what is lent
abbrev pub lent_sound_asks : GateLent → List Question
lent_sound_asks l = sound_asks l.relation l.label l.slots l.queries l.equations

-- 1, 2: the front, up to the last question that sharing puts in
abbrev pub compile_front : Sharing → GateLent → List Question
compile_front h l = in_turn (
    relation_asks_with h l.relation (length l.slots)
    ∷ lent_stores_asks l
    ∷ store_asks (length l.uses)
    ∷ h.opened
    ∷ [])

-- 1, 2, 11: what is asked before the publics are made
abbrev pub prepared_asks : GateLent → List Question
prepared_asks l = compile_front alone l ++ lent_sound_asks l

-- their first no, or 0
unfoldable pub prepared_no : GateLent → ℕ
prepared_no l = first_no (prepared_asks l)

-- 10: does the store hold the publics?
abbrev pub publics_room : GateLent → List Question
publics_room l = question 10 (leb (2 * length (publics_of l.relation l.slots)) l.publics) ∷ []

-- the parts of what is lent
abbrev pub lent_parts : GateLent → Parts
lent_parts l = compiled_parts l.relation l.slots l.queries l.equations

-- then 10, of the publics and whether the use store has a word per slot, and 16 and 12 to 15 of the parts, 13 and 15 by
-- the use counts and the stray count, whatever these are
abbrev pub made_asks : GateLent → List Question
made_asks l = in_turn (
    publics_room l
    ∷ length_asks (length l.slots) (length l.uses)
    ∷ gate_asks_by (uses_below l.relation.vars l.uses l.relation.stray)
    (bound_by (take l.relation.vars l.slots) l.uses) (lent_parts l) l.scratch
    ∷ [])

-- all of the gate's questions: 1, 2, 11, 10, 16, 12 to 15
abbrev pub compile_asks_with : Sharing → GateLent → List Question
compile_asks_with h l = compile_front h l ++ (lent_sound_asks l ++ made_asks l)

-- alone
abbrev pub compile_asks : GateLent → List Question
compile_asks = compile_asks_with alone

-- the number of the gate: its first no, or 0
unfoldable pub compile_no : GateLent → ℕ
compile_no l = first_no (compile_asks l)

-- the gate as document 01 has it: no use store is asked for, and 13 and 15 are by a walk over the queries. Where the
-- counts are right for the held cells the two are one (`compile/proofs/Counts`)
abbrev pub walked_asks_with : Sharing → GateLent → List Question
walked_asks_with h l = in_turn (
    relation_asks_with h l.relation (length l.slots)
    ∷ lent_stores_asks l
    ∷ h.opened
    ∷ lent_sound_asks l
    ∷ publics_room l
    ∷ gate_asks (lent_parts l) l.scratch
    ∷ [])

-- alone
abbrev pub walked_asks : GateLent → List Question
walked_asks = walked_asks_with alone

-- ---- its answer, and what it leaves
-- a refused gate's answer
abbrev pub refused_by : ℕ → Compiled
refused_by k = record { outcome = Err (refusal k); instance = no_instance }

-- the answer: the outcome, and the instance or zeros
unfoldable pub compile : GateLent → Compiled
compile l =
    record {
      outcome = outcome_of (compile_no l);
      instance = on_yes (compile_no l) (instance_of l.relation (length (publics_of l.relation l.slots))) no_instance;
    }

-- publics: all 0 where the gate refuses
unfoldable pub compile_publics : GateLent → List ℕ
compile_publics l =
    on_yes (compile_no l) (publics_store l.publics (publics_of l.relation l.slots)) (replicate l.publics 0)

-- what a call of the gate ensures whose answer has the form `told`: the answer, and publics and scratch as it leaves
-- them
pub record Compiles {A : Type 0} (told : Compiled → A) (l : GateLent) (r : A) (publics_left scratch_left : List ℕ) : Type 0 where
  pub answer : r ≡ told (compile l)
  pub publics : publics_left ≡ compile_publics l
  pub scratch : scratch_left ≡ replicate l.scratch 0

-- ---- what `put_publics`, a private function, ensures: how many the publics are, and where the store holds them, that
-- they stand at its front
pub record PutsPublics (slots out : List ℕ) (n : ℕ) (left : List ℕ) : Type 0 where
  pub count : n ≡ length (publics_from 0 slots)
  pub stored : 2 * length (publics_from 0 slots) ≤ length out → left ≡ put_words 0 (pair_words (publics_from 0 slots)) out

-- ---- the number of what `ask_made`, a private function, asks, with so many publics: 10, 16 and 13 to 15; 12 never says
-- no of those that the gate makes
abbrev pub asked_made : PermutationRelation → (slots equations uses : List ℕ) → (count publics scratch : ℕ) → ℕ
asked_made rel slots equations uses count publics scratch =
    ((ask 10 (leb (2 * count) publics) ▸ ask 10 (eqb (length uses) (length slots))) ▸ ask 16 (leb rel.vars scratch))
    ▸ used_no rel.vars (take rel.vars slots) uses rel.stray (equations_at rel.equations (take rel.words equations))
