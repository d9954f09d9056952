-- What is asked of a relation's record and stores, and the questions of the calls on its wires, in document 01's
-- order, over the record and the lists that the lent stores hold. A call's list is in two parts: its front, up to the
-- last question that sharing puts in, and the rest. Assumes nothing.
use Rattle.std.specs.Prelude.{ℕ, ◌*◌, List, [], ◌∷◌, ◌++◌, eqb, ltb, leb, length}
use Rattle.limits.specs.Numbers.{max_count}
use Rattle.limits.specs.Questions.{Question, question, in_turn}
use Rattle.limits.specs.Asks.{width_asks, store_asks, count_asks}
use Rattle.words.specs.Pieces.{held_asks}
use Rattle.uses.specs.Uses.{length_asks}
use Rattle.allocator.specs.Slots.{Pair, pairs, fit_asks, most_asks, room_asks, pair_asks, items_asks}
use Rattle.permutation.specs.Sharing.{Sharing, alone, where_counted}
use Rattle.permutation.specs.declared.PermutationRelation.{PermutationRelation}

-- ---- 2: each count fits the store that is lent, counted by itself
-- n queries take 2wn words
abbrev pub queries_asks : PermutationRelation → ℕ → List Question
queries_asks rel len = held_asks rel.width rel.queries len

-- m equations take at least 2m words
abbrev pub equations_asks : PermutationRelation → ℕ → List Question
equations_asks rel len =
    store_asks len ++ (question 2 (leb rel.words len) ∷ question 2 (leb (2 * rel.equations) len) ∷ [])

-- ---- each call's questions, a group to a line
-- fresh, with what an opening puts in after 2: 1, 2, 6, and 10, whether the use store has a word per slot
abbrev pub new_relation_asks_with : List Question → (width len uses : ℕ) → List Question
new_relation_asks_with opening width len uses = in_turn (
    width_asks width
    ∷ store_asks uses
    ∷ store_asks len
    ∷ opening
    ∷ (question 6 (leb 1 len) ∷ [])
    ∷ length_asks len uses
    ∷ [])

-- fresh: 1, 2, 6, 10
abbrev pub new_relation_asks : (width len uses : ℕ) → List Question
new_relation_asks = new_relation_asks_with []

-- every call that looks at the slots begins with 1 and 2
abbrev pub relation_asks_with : Sharing → PermutationRelation → ℕ → List Question
relation_asks_with h rel len = width_asks rel.width ++ (store_asks len ++ where_counted h (fit_asks rel.vars len))

-- of a relation alone
abbrev pub relation_asks : PermutationRelation → ℕ → List Question
relation_asks = relation_asks_with alone

-- and with what follows 2: the front of set, tickets and value of a wire
abbrev pub relation_front : Sharing → PermutationRelation → ℕ → List Question
relation_front h rel len = relation_asks_with h rel len ++ h.opened

-- allocate: 1, 2, 5 ..
abbrev pub allocate_vars_front : Sharing → PermutationRelation → ℕ → ℕ → List Question
allocate_vars_front h rel len n = relation_front h rel len ++ (most_asks rel.vars n ++ h.within n)

-- .. and 6
abbrev pub allocate_vars_asks_with : Sharing → PermutationRelation → ℕ → ℕ → List Question
allocate_vars_asks_with h rel len n = allocate_vars_front h rel len n ++ room_asks rel.vars len n

-- alone: 1, 2, 5, 6
abbrev pub allocate_vars_asks : PermutationRelation → ℕ → ℕ → List Question
allocate_vars_asks = allocate_vars_asks_with alone

-- set: 1, 2, 3, 4, 7, 8
abbrev pub set_var_asks_with : Sharing → PermutationRelation → List ℕ → Pair → List Question
set_var_asks_with h rel slots p = relation_front h rel (length slots) ++ pair_asks rel.vars slots p

-- alone
abbrev pub set_var_asks : PermutationRelation → List ℕ → Pair → List Question
set_var_asks = set_var_asks_with alone

-- set list: 1, and 2 of the two lists too ..
abbrev pub set_vars_front : Sharing → PermutationRelation → ℕ → List ℕ → List ℕ → List Question
set_vars_front h rel len vars values = in_turn (
    relation_asks_with h rel len
    ∷ store_asks (length vars)
    ∷ store_asks (length values)
    ∷ h.opened
    ∷ [])

-- .. then 3, 4, 7, 8 pair by pair, on the slots as the pairs before leave them, and 9
abbrev pub set_vars_asks_with : Sharing → PermutationRelation → (slots vars values : List ℕ) → List Question
set_vars_asks_with h rel slots vars values =
    set_vars_front h rel (length slots) vars values
    ++ (items_asks (pair_asks rel.vars) (λ p. p) slots (pairs vars values) ++ (question 9 (eqb (length vars) (length values)) ∷ []))

-- alone
abbrev pub set_vars_asks : PermutationRelation → (slots vars values : List ℕ) → List Question
set_vars_asks = set_vars_asks_with alone

-- 3 of one wire
abbrev pub var_asks : ℕ → List Question
var_asks var = question 3 (ltb var max_count) ∷ []

-- value of a wire on slots: 1, 2, 3
abbrev pub value_of_asks_with : Sharing → PermutationRelation → ℕ → ℕ → List Question
value_of_asks_with h rel len var = relation_front h rel len ++ var_asks var

-- alone
abbrev pub value_of_asks : PermutationRelation → ℕ → ℕ → List Question
value_of_asks = value_of_asks_with alone

-- is it allocated: 1, 2 ..
abbrev pub is_allocated_front : Sharing → PermutationRelation → List Question
is_allocated_front h rel = in_turn (
    width_asks rel.width
    ∷ where_counted h (count_asks rel.vars)
    ∷ h.opened
    ∷ [])

-- .. and 3
abbrev pub is_allocated_asks_with : Sharing → PermutationRelation → ℕ → List Question
is_allocated_asks_with h rel var = is_allocated_front h rel ++ var_asks var

-- alone
abbrev pub is_allocated_asks : PermutationRelation → ℕ → List Question
is_allocated_asks = is_allocated_asks_with alone
