-- The parts of an instance as lists, and the parts that a record and the lent stores hold. Assumes nothing.
use Rattle.std.specs.Prelude.{ℕ, zero, suc, ◌*◌, Bool, false, ◌||◌, List, [], ◌∷◌, eqb, take, drop, get_or}
use Rattle.words.specs.Pieces.{words_of, steps_of}
use Rattle.allocator.specs.Slots.{Pair, pair}
use Rattle.expr.specs.Equation.{Equation, equations_at}
use Rattle.instance.specs.declared.PermutationInstance.{PermutationInstance}

-- wire count, public pairs, queries of 2w cells each, equations
pub record Parts : Type 0 where
  pub vars : ℕ
  pub publics : List Pair
  pub queries : List (List ℕ)
  pub equations : List Equation

-- the wires of pairs
abbrev pub pair_vars : List Pair → List ℕ
pair_vars [] = []
pair_vars (p ∷ ps) = p.var ∷ pair_vars ps

-- the units of pairs
abbrev pub pair_values : List Pair → List ℕ
pair_values [] = []
pair_values (p ∷ ps) = p.value ∷ pair_values ps

-- the wire is in the list
abbrev pub has : List ℕ → ℕ → Bool
has [] x = false
has (y ∷ l) x = eqb x y || has l x

-- ---- in stores: publics are wire and unit pairs
-- the words of pairs
abbrev pub pair_words : List Pair → List ℕ
pair_words [] = []
pair_words (p ∷ ps) = p.var ∷ p.value ∷ pair_words ps

-- the first n pairs that the words hold
abbrev pub pairs_at : ℕ → List ℕ → List Pair
pairs_at zero s = []
pairs_at (suc n) s = pair (get_or s 0 0) (get_or s 1 0) ∷ pairs_at n (drop 2 s)

-- what the stores hold by the record's counts; nothing beyond is looked at
abbrev pub held_publics : PermutationInstance → List ℕ → List ℕ
held_publics ins publics = take (2 * ins.publics) publics

-- of the queries
abbrev pub held_queries : PermutationInstance → List ℕ → List ℕ
held_queries ins queries = take (words_of ins.width ins.queries) queries

-- of the equations
abbrev pub held_equations : PermutationInstance → List ℕ → List ℕ
held_equations ins equations = take ins.words equations

-- the parts that a record and its stores hold
unfoldable pub parts_of : PermutationInstance → List ℕ → List ℕ → List ℕ → Parts
parts_of ins publics queries equations =
    record {
      vars = ins.vars;
      publics = pairs_at ins.publics (held_publics ins publics);
      queries = steps_of ins.width ins.queries queries;
      equations = equations_at ins.equations (held_equations ins equations);
    }
