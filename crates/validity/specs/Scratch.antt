-- What wires carry, as words of scratch: 0 for nothing, and for a unit the unit and one more; what the walks
-- that write these words ask and leave; and the questions before them. Private contracts alone cite this.
-- Assumes nothing.
use Rattle.std.specs.Prelude.{ℕ, zero, suc, ◌*◌, ◌≤◌, ◌<◌, ◌%◌, ◌≡◌, Bool, true, List, ltb, length, get_or, take}
use Rattle.std.proofs.Math.Option.{Option, none, some}
use Rattle.limits.specs.Numbers.{prime}
use Rattle.limits.specs.Questions.{ask, ◌▸◌, first_no}
use Rattle.limits.specs.Outcome.{Outcome, outcome_of}
use Rattle.words.specs.Store.{all_below}
use Rattle.words.specs.Pieces.{words_of}
use Rattle.baby_bear.specs.Field.{add_unit, mul_unit}
use Rattle.allocator.specs.Slots.{Pair}
use Rattle.allocator.specs.Values.{Values, nothing, put_all}
use Rattle.instance.specs.Parts.{Parts, held_publics}
use Rattle.held.specs.Held.{publics_sound}
use Rattle.instance.specs.declared.PermutationInstance.{PermutationInstance}
use Rattle.validity.specs.Values.{cells}
use Rattle.validity.specs.Check.{publics_no, cells_no, steps_no, carried}
use Rattle.validity.specs.Valid.{is_witness_valid_asks}

-- what a word says; the value 0 is told apart from no value
abbrev pub entry : ℕ → Option ℕ
entry zero = none
entry (suc v) = some v

-- what the wires carry, a word per wire; beyond the last word nothing
abbrev pub value_at : List ℕ → Values
value_at t x = entry (get_or t x 0)

-- every word is 0, or a unit and one more
abbrev pub are_entries : List ℕ → Bool
are_entries t = all_below (suc prime) t

-- ---- walks
-- what a walk over `len` words leaves: it answers by the number k, and where that is 0 the wires carry g; there
-- are as many words as before, each an entry
pub record Walked (len k : ℕ) (g : Values) (o : Outcome) (t : List ℕ) : Type 0 where
  pub answer : o ≡ outcome_of k
  pub values : k ≡ 0 → value_at t ≡ g
  pub long : length t ≡ len
  pub units : are_entries t ≡ true

-- pairs put to the words t in order, each asked 36
abbrev pub PublicsPut : List ℕ → List Pair → Outcome → List ℕ → Type 0
PublicsPut t ps o t' = Walked (length t) (publics_no (length t) ps) (put_all (value_at t) ps) o t'

-- cells put to the words t in order, each asked 36 and 33
abbrev pub CellsPut : List ℕ → List Pair → Outcome → List ℕ → Type 0
CellsPut t ps o t' = Walked (length t) (cells_no (length t) (value_at t) ps) (put_all (value_at t) ps) o t'

-- a step put to the words t: 32 where it is not known to be an evaluation, then its cells
abbrev pub StepPut : ℕ → List ℕ → List Pair → Outcome → List ℕ → Type 0
StepPut known t ps o t' =
    Walked (length t) (ask 32 (ltb 0 known) ▸ cells_no (length t) (value_at t) ps) (put_all (value_at t) ps) o t'

-- steps put to the words t in order, each with its query: 32, then its cells
abbrev pub StepsPut : (List ℕ → Bool) → List ℕ → (queries steps : List (List ℕ)) → Outcome → List ℕ → Type 0
StepsPut evaluation t queries steps o t' =
    Walked (length t) (steps_no evaluation (length t) (value_at t) queries steps) (put_all (value_at t) (cells queries steps)) o t'

-- the publics and then the steps, put to words of 0, one per wire
abbrev pub AllPut : (List ℕ → Bool) → Parts → (steps : List (List ℕ)) → Outcome → List ℕ → Type 0
AllPut evaluation parts steps o t =
    Walked parts.vars
    (publics_no parts.vars parts.publics ▸ steps_no evaluation parts.vars (put_all nothing parts.publics) parts.queries steps)
    (carried parts steps) o t

-- ---- what 2, 11 and 16 said yes to, as far as the walks look at it: the counts fit the stores, what is held is
-- sound, and there is a word per wire
pub record Sound (ins : PermutationInstance) (publics queries : List ℕ) (steps : ℕ) (trace : List ℕ) (len : ℕ) : Type 0 where
  pub fit_publics : 2 * ins.publics ≤ length publics
  pub fit_queries : words_of ins.width ins.queries ≤ length queries
  pub fit_trace : words_of ins.width steps ≤ length trace
  pub units : all_below prime (take (words_of ins.width steps) trace) ≡ true
  pub public : publics_sound ins.publics (held_publics ins publics) ≡ true
  pub words : len ≡ ins.vars

-- ---- a sum that is not reduced: s is one below p·p that counts for `sum` with weight times unit added
pub record Added (sum weight unit s : ℕ) : Type 0 where
  pub below : s < prime * prime
  pub counts : s % prime ≡ add_unit (sum % prime) (mul_unit weight unit)

-- ---- o is the outcome of the questions before the check
pub record AskedValid (ins : PermutationInstance) (label publics queries equations : List ℕ) (steps : ℕ) (trace : List ℕ)
    (rounds : ℕ) (params : List ℕ) (scratch : ℕ) (o : Outcome) : Type 0 where
  pub answer : o ≡ outcome_of (first_no (is_witness_valid_asks ins label publics queries equations steps trace rounds params scratch))
