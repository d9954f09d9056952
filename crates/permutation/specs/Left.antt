-- What a call on the wires can still say no to along a list of calls from an accepted fresh, and what it sets, by a book
-- of the calls and the sizes alone: the wire count n, the sets, and the stores' lengths. Numbers 1, 2 of the counts and 2 of the
-- slots are never answered there. Assumes nothing.
use Rattle.std.specs.Prelude.{ℕ, Bool, List, [], ◌∷◌, ◌++◌, eqb, ltb, length}
use Rattle.std.proofs.Math.Option.{Option, none, some}
use Rattle.limits.specs.Numbers.{max_count}
use Rattle.limits.specs.Questions.{pick, ask, ◌▸◌, Question, first_no, on_yes}
use Rattle.limits.specs.Asks.{store_asks}
use Rattle.allocator.specs.Slots.{Pair, grow_asks_with, setting_asks, pairs}
use Rattle.allocator.specs.Values.{look, fits}
use Rattle.std.specs.Prelude.{Some, None, Ok, Err}
use Rattle.limits.specs.Outcome.{refusal}
use Rattle.allocator.specs.VarValue.{VarValue}
use Rattle.permutation.specs.Records.{IsAllocated}

-- allocate: 5 and 6, where the wires would be too many, and what is put in between
abbrev pub allocate_vars_left : List Question → ℕ → ℕ → ℕ → List Question
allocate_vars_left between n slots a = grow_asks_with between n slots a

-- the sets let a wire take a value: they give it none, or that one
abbrev pub sets_take : List Pair → Pair → Bool
sets_take sets p = fits (look sets p.var) p.value

-- set: 3, 4, 7 at a wire of n or more, 8 at a wire that the sets give another value
abbrev pub set_var_left : ℕ → List Pair → Pair → List Question
set_var_left n sets = setting_asks 4 n (sets_take sets)

-- items in turn, each accepted one joining the sets with its pair: the first number that is not 0
abbrev pub items_left : {A : Type 0} → (List Pair → A → ℕ) → (A → Pair) → List Pair → List A → ℕ
items_left left_of pair_of sets [] = 0
items_left left_of pair_of sets (a ∷ items) = left_of sets a ▸ items_left left_of pair_of (pair_of a ∷ sets) items

-- and the pairs that are set: those of the items before the first number that is not 0
abbrev pub items_set : {A : Type 0} → (List Pair → A → ℕ) → (A → Pair) → List Pair → List A → List Pair
items_set left_of pair_of sets [] = []
items_set left_of pair_of sets (a ∷ items) =
    on_yes (left_of sets a) (pair_of a ∷ items_set left_of pair_of (pair_of a ∷ sets) items) []

-- the number of one pair
abbrev pub pair_left : ℕ → List Pair → Pair → ℕ
pair_left n sets p = first_no (set_var_left n sets p)

-- pairs in turn: the first number that is not 0
abbrev pub pairs_left : ℕ → List Pair → List Pair → ℕ
pairs_left n = items_left (pair_left n) (λ p. p)

-- and those that are set
abbrev pub pairs_set : ℕ → List Pair → List Pair → List Pair
pairs_set n = items_set (pair_left n) (λ p. p)

-- set list: 2 of the two lists ..
abbrev pub lists_left : List ℕ → List ℕ → ℕ
lists_left vars values = first_no (store_asks (length vars) ++ store_asks (length values))

-- .. the pairs, 9
abbrev pub set_vars_left : ℕ → List Pair → List ℕ → List ℕ → ℕ
set_vars_left n sets vars values =
    lists_left vars values ▸ (pairs_left n sets (pairs vars values) ▸ ask 9 (eqb (length vars) (length values)))

-- and the pairs that are set: none where 2 says no
abbrev pub set_vars_set : ℕ → List Pair → List ℕ → List ℕ → List Pair
set_vars_set n sets vars values = on_yes (lists_left vars values) (pairs_set n sets (pairs vars values)) []

-- value of a wire: 3, else what the sets give it
abbrev pub given : Option ℕ → VarValue
given none = Ok None
given (some v) = Ok (Some v)

-- the answer to it, by the sets alone
abbrev pub value_left : List Pair → ℕ → VarValue
value_left sets x =
    on_yes (ask 3 (ltb x max_count)) (given (look sets x)) (Err (refusal (ask 3 (ltb x max_count))))

-- is it allocated: 3, else whether it is below n
abbrev pub is_allocated_left : ℕ → ℕ → IsAllocated
is_allocated_left n x =
    on_yes (ask 3 (ltb x max_count)) (Ok (ltb x n))
    (Err (refusal (ask 3 (ltb x max_count))))
