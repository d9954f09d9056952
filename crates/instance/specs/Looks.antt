-- The looks at an instance, the value of a wire in it and its heading; and the record that a refused gate or
-- read answers. Assumes nothing.
use Rattle.std.specs.Prelude.{ℕ, ◌*◌, List, [], ◌∷◌, ◌++◌, Option, Some, None, Ok, Err, eqb, ltb, leb, length}
use Rattle.limits.specs.Numbers.{max_count}
use Rattle.limits.specs.Outcome.{refusal}
use Rattle.limits.specs.Questions.{Question, question, first_no, pick, on_yes}
use Rattle.limits.specs.Asks.{width_asks, store_asks}
use Rattle.allocator.specs.Slots.{Pair}
use Rattle.allocator.specs.VarValue.{VarValue}
use Rattle.instance.specs.Parts.{pairs_at, held_publics}
use Rattle.instance.specs.declared.PermutationInstance.{PermutationInstance}

-- an instance record of zeros: what a refused call answers
abbrev pub no_instance : PermutationInstance
no_instance = record { width = 0; vars = 0; queries = 0; equations = 0; words = 0; publics = 0 }

-- ---- the value of a wire in held publics: the unit of the last pair that lists it
-- looked for from the front, with what was found so far
abbrev pub last_value : List Pair → ℕ → Option ℕ → Option ℕ
last_value [] var found = found
last_value (p ∷ ps) var found = last_value ps var (pick (eqb p.var var) (Some p.value) found)

-- 1, 2, 3
abbrev pub public_value_asks : PermutationInstance → ℕ → ℕ → List Question
public_value_asks ins publics var =
    width_asks ins.width
    ++ (store_asks publics ++ (question 2 (leb (2 * ins.publics) publics) ∷ question 3 (ltb var max_count) ∷ []))

-- their first no, or 0
unfoldable pub public_value_no : PermutationInstance → ℕ → ℕ → ℕ
public_value_no ins publics var = first_no (public_value_asks ins publics var)

-- the unit, none where no pair lists the wire, or the number of the refusal
unfoldable pub public_value : PermutationInstance → List ℕ → ℕ → VarValue
public_value ins publics var =
    on_yes (public_value_no ins (length publics) var)
    (Ok (last_value (pairs_at ins.publics (held_publics ins publics)) var None))
    (Err (refusal (public_value_no ins (length publics) var)))

-- ---- the heading (document 01): the label, or where that has no bytes the name lent with the parameters
-- of whatever the two are, by the length of the label
abbrev pub heading : {A : Type 0} → (len : ℕ) → (label name : A) → A
heading len label name = pick (eqb len 0) name label
