-- Document 01's examples that speak of the gate, and what the counts decide, as one fact of the definitions.
-- Assumes nothing.
use Prim.Native.Nat.{ℕ}
use mathlib.Core.Path.{◌≡◌, refl}
use mathlib.Core.List.{List, [], ◌∷◌, ◌++◌}
use Rattle.limits.specs.Numbers.{unassigned}
use Rattle.limits.specs.Questions.{ask, first_of_two, first_no}
use Rattle.words.specs.Store.{all_below}
use Rattle.utf8.specs.Utf8.{is_utf8, follow}
use Rattle.allocator.specs.Slots.{pair}
use Rattle.expr.specs.Equation.{equation_at, size_at}
use Rattle.permutation.specs.Answers.{relation}
use Rattle.permutation.specs.declared.PermutationRelation.{PermutationRelation}
use Rattle.held.specs.Held.{equations_sound, slots_sound}
use Rattle.compile.specs.Gate.{GateLent, gate_lent, publics_of, compiled_parts, compile_no, compile_publics, walked_asks}

-- two wires, of which 1 is unassigned and in no query, and an equation weight · wire 1 = 0
abbrev unbound : ℕ → ℕ
unbound weight =
    compile_no (gate_lent (relation 1 2 0 1 4 0) [] (0 ∷ unassigned ∷ []) [] (1 ∷ 1 ∷ weight ∷ 0 ∷ []) (0 ∷ 0 ∷ []) 2 2)

-- instance A: width 1, three wires, 0 and 2 assigned, a query, an equation 3 · wire 1 = 6; of a stray count
abbrev a : ℕ → PermutationRelation
a stray = relation 1 3 1 1 4 stray

abbrev a_slots : List ℕ
a_slots = 0 ∷ unassigned ∷ 5 ∷ []

-- it has a fourth slot beyond its wires; its query is from one wire to another
abbrev lent : (from to : ℕ) → (uses : List ℕ) → (stray : ℕ) → GateLent
lent from to uses stray = gate_lent (a stray) [] (a_slots ++ (unassigned ∷ [])) (from ∷ to ∷ []) (1 ∷ 1 ∷ 3 ∷ 6 ∷ []) uses 6 3

-- the query is from 1 to 2, and these are its counts
abbrev a_lent : GateLent
a_lent = lent 1 2 (0 ∷ 1 ∷ 1 ∷ 0 ∷ []) 0

-- the gate as document 01 has it
abbrev walked : (from to : ℕ) → ℕ
walked from to = first_no (walked_asks (lent from to [] 0))

pub record Examples : Type 0 where
  pub weightless : unbound 0 ≡ 0
  pub weighty : unbound 1 ≡ 15
  pub accepted : compile_no a_lent ≡ 0
  pub publics : publics_of (a 0) a_slots ≡ pair 0 0 ∷ pair 2 5 ∷ []
  pub stored : compile_publics a_lent ≡ 0 ∷ 0 ∷ 2 ∷ 5 ∷ 0 ∷ 0 ∷ []
  -- right counts say what the walk says: yes; 15, of a query that does not name wire 1; 13, of one that names a slot
  -- past the wire count, or a wire beyond the slots
  pub right : compile_no a_lent ≡ walked 1 2
  pub right-15 : (compile_no (lent 0 2 (1 ∷ 0 ∷ 1 ∷ 0 ∷ []) 0) ≡ 15) × (walked 0 2 ≡ 15)
  pub right-13 : (compile_no (lent 1 3 (0 ∷ 1 ∷ 0 ∷ 1 ∷ []) 0) ≡ 13) × (walked 1 3 ≡ 13)
  pub right-stray : (compile_no (lent 1 4 (0 ∷ 1 ∷ 0 ∷ 0 ∷ []) 1) ≡ 13) × (walked 1 4 ≡ 13)
  -- of wrong counts the answer is theirs, though the walk says yes: no count for wire 1, which the query names; a
  -- count on a slot past the wire count, which it does not name; a stray cell
  pub wrong-15 : compile_no (lent 1 2 (0 ∷ 0 ∷ 1 ∷ 0 ∷ []) 0) ≡ 15
  pub wrong-13 : compile_no (lent 1 2 (0 ∷ 1 ∷ 1 ∷ 1 ∷ []) 0) ≡ 13
  pub wrong-stray : compile_no (lent 1 2 (0 ∷ 1 ∷ 1 ∷ 0 ∷ []) 1) ≡ 13
  -- or yes, where the walk says 15
  pub wrong-yes : compile_no (lent 0 2 (1 ∷ 1 ∷ 1 ∷ 0 ∷ []) 0) ≡ 0
  -- a use store that has not a word per slot
  pub short : compile_no (lent 1 2 (0 ∷ 1 ∷ 1 ∷ []) 0) ≡ 10
  pub long : compile_no (lent 1 2 (0 ∷ 1 ∷ 1 ∷ 0 ∷ 0 ∷ []) 0) ≡ 10
  -- that before 16, 13 and 15; and before it 11, of a held query wire, though the counts are right
  pub short-first : compile_no (gate_lent (a 1) [] (a_slots ++ (unassigned ∷ [])) (1 ∷ 2 ∷ []) (1 ∷ 1 ∷ 3 ∷ 6 ∷ []) (0 ∷ 0 ∷ []) 6 2) ≡ 10
  pub wire-first : compile_no (lent 1 1073741824 (0 ∷ 1 ∷ 0 ∷ []) 1) ≡ 11
  pub wire-held : compile_no (lent 1 1073741824 (0 ∷ 1 ∷ 0 ∷ 0 ∷ []) 1) ≡ 11

pub gate-examples : Examples
unfolding ask first_of_two all_below is_utf8 follow equation_at size_at equations_sound slots_sound publics_of compiled_parts compile_no compile_publics
gate-examples =
    record {
      weightless = refl;
      weighty = refl;
      accepted = refl;
      publics = refl;
      stored = refl;
      right = refl;
      right-15 = (refl, refl);
      right-13 = (refl, refl);
      right-stray = (refl, refl);
      wrong-15 = refl;
      wrong-13 = refl;
      wrong-stray = refl;
      wrong-yes = refl;
      short = refl;
      long = refl;
      short-first = refl;
      wire-first = refl;
      wire-held = refl;
    }
