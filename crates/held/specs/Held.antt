-- Questions 2 and 11 of held parts: do the counts fit the stores, and is what the stores hold sound?
-- Assumes nothing.
use Rattle.std.specs.Prelude.{ℕ, ◌*◌, Bool, true, ◌&&◌, ◌||◌, List, [], ◌∷◌, ◌++◌, eqb, ltb, leb, length}
use Rattle.limits.specs.Numbers.{prime, max_count, unassigned, label_end}
use Rattle.limits.specs.Questions.{Question, question}
use Rattle.limits.specs.Asks.{width_asks, store_asks}
use Rattle.words.specs.Store.{all_below}
use Rattle.words.specs.Pieces.{words_of}
use Rattle.utf8.specs.Utf8.{is_utf8}
use Rattle.expr.specs.Equation.{equations_at, ends_right, equations_held}
use Rattle.instance.specs.Parts.{pair_vars, pair_values, pairs_at, held_publics, held_queries, held_equations}
use Rattle.instance.specs.declared.PermutationInstance.{PermutationInstance}

-- 2 of a label: below 2^32 bytes
abbrev pub label_asks : ℕ → List Question
label_asks len = question 2 (ltb len label_end) ∷ []

-- 2 of an instance's parts: each store's size, and each count fits its store; any wire count will do
abbrev pub parts_asks : PermutationInstance → (publics queries equations : ℕ) → List Question
parts_asks ins publics queries equations =
    store_asks publics ++ (store_asks queries ++ (store_asks equations
    ++ (question 2 (leb (2 * ins.publics) publics)
    ∷ question 2 (leb (words_of ins.width ins.queries) queries)
    ∷ question 2 (leb ins.words equations)
    ∷ question 2 (leb (2 * ins.equations) equations)
    ∷ [])))

-- ---- what 11 asks of each store
-- the equations end exactly at the used words; their wires are below 2^30, weights and images below p
unfoldable pub equations_sound : ℕ → List ℕ → Bool
equations_sound n held = ends_right n held && equations_held (equations_at n held)

-- public wires are below 2^30, their units below p
unfoldable pub publics_sound : ℕ → List ℕ → Bool
publics_sound n held = all_below max_count (pair_vars (pairs_at n held)) && all_below prime (pair_values (pairs_at n held))

-- slots of allocated wires are units or unassigned
unfoldable pub slots_sound : List ℕ → Bool
slots_sound [] = true
slots_sound (x ∷ s) = (ltb x prime || eqb x unassigned) && slots_sound s

-- 11 of an instance's parts and its label
abbrev pub parts_sound_asks : PermutationInstance → (label publics queries equations : List ℕ) → List Question
parts_sound_asks ins label publics queries equations =
    question 11 (equations_sound ins.equations (held_equations ins equations))
    ∷ question 11 (publics_sound ins.publics (held_publics ins publics))
    ∷ question 11 (all_below max_count (held_queries ins queries))
    ∷ question 11 (is_utf8 label)
    ∷ []

-- 1, 2 and 11 of an instance's parts and its label
abbrev pub instance_asks : PermutationInstance → (label publics queries equations : List ℕ) → List Question
instance_asks ins label publics queries equations =
    width_asks ins.width
    ++ (parts_asks ins (length publics) (length queries) (length equations)
    ++ (label_asks (length label) ++ parts_sound_asks ins label publics queries equations))
