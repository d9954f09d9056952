-- The questions of the calls that record, in document 01's order, over the record and the lists that the lent stores
-- hold. Assumes nothing.
use Rattle.std.specs.Prelude.{ℕ, zero, suc, ◌+◌, false, List, [], ◌∷◌, ◌++◌, ltb, leb, length}
use Rattle.limits.specs.Numbers.{prime, max_count}
use Rattle.limits.specs.Questions.{Question, question, in_turn}
use Rattle.limits.specs.Asks.{width_asks, store_asks, count_asks}
use Rattle.uses.specs.Uses.{uses_asks}
use Rattle.allocator.specs.Slots.{most_asks, room_asks}
use Rattle.expr.specs.Equation.{Term, equation_size, terms_asks}
use Rattle.words.specs.Pieces.{one_more_asks, half_asks, halves_asks}
use Rattle.permutation.specs.declared.PermutationRelation.{PermutationRelation}
use Rattle.permutation.specs.Sharing.{Sharing, alone, where_counted}
use Rattle.permutation.specs.Relation.{queries_asks, equations_asks, relation_asks_with}

-- ---- 10: does the store hold one item more?
-- one query more
abbrev pub query_room : PermutationRelation → ℕ → List Question
query_room rel len = one_more_asks rel.width rel.queries len

-- one equation of t terms more
abbrev pub equation_room : PermutationRelation → ℕ → ℕ → List Question
equation_room rel len t = question 10 (leb (rel.words + equation_size t) len) ∷ []

-- ---- each call's questions, a group to a line; in two parts, as in `permutation/specs/Relation`
-- 1, 2 of a call that changes the use counts: of the relation and its slots, of queries and use store, and of the lists
-- that are lent beside them
abbrev pub query_front : Sharing → PermutationRelation → (slots len uses : ℕ) → (lists : List Question) → List Question
query_front h rel slots len uses lists = in_turn (
    relation_asks_with h rel slots
    ∷ queries_asks rel len
    ∷ store_asks uses
    ∷ lists
    ∷ h.opened
    ∷ [])

-- record: 1, 2 ..
abbrev pub add_permutation_front : Sharing → PermutationRelation → (slots len uses : ℕ) → List ℕ → List ℕ → List Question
add_permutation_front h rel slots len uses input output =
    query_front h rel slots len uses (store_asks (length input) ++ store_asks (length output))

-- .. 9, 3 ..
abbrev pub record_asks : PermutationRelation → List ℕ → List ℕ → List Question
record_asks rel input output = halves_asks rel.width 3 max_count input output

-- .. and 11, 10 of the counts and of the queries' room
abbrev pub join_asks : PermutationRelation → (slots len : ℕ) → (uses cells : List ℕ) → List Question
join_asks rel slots len uses cells = uses_asks false slots uses rel.stray cells ++ query_room rel len

-- all of them
abbrev pub add_permutation_asks_with : Sharing → PermutationRelation → (slots len : ℕ) → (uses input output : List ℕ) → List Question
add_permutation_asks_with h rel slots len uses input output =
    add_permutation_front h rel slots len (length uses) input output
    ++ (record_asks rel input output ++ join_asks rel slots len uses (input ++ output))

-- alone: 1, 2, 9, 3, 11, 10
abbrev pub add_permutation_asks : PermutationRelation → (slots len : ℕ) → (uses input output : List ℕ) → List Question
add_permutation_asks = add_permutation_asks_with alone

-- mint: 1, 2 ..
abbrev pub mint_sizes : Sharing → PermutationRelation → (slots len uses : ℕ) → List ℕ → List Question
mint_sizes h rel slots len uses input = query_front h rel slots len uses (store_asks (length input))

-- .. 9, 3, 5 ..
abbrev pub mint_asks : PermutationRelation → List ℕ → List Question
mint_asks rel input = half_asks rel.width 3 max_count input ++ most_asks rel.vars rel.width

-- .. with what comes after 5 ..
abbrev pub allocate_permutation_front : Sharing → PermutationRelation → (slots len uses : ℕ) → List ℕ → List Question
allocate_permutation_front h rel slots len uses input = mint_sizes h rel slots len uses input ++ (mint_asks rel input ++ h.within rel.width)

-- the k wires from n on
abbrev pub up_from : ℕ → ℕ → List ℕ
up_from n zero = []
up_from n (suc k) = n ∷ up_from (suc n) k

-- a mint's cells: the inputs, and as many new wires
abbrev pub mint_cells : PermutationRelation → List ℕ → List ℕ
mint_cells rel input = input ++ up_from rel.vars rel.width

-- .. 6, and 11, 10
abbrev pub allocate_permutation_asks_with : Sharing → PermutationRelation → (slots len : ℕ) → (uses input : List ℕ) → List Question
allocate_permutation_asks_with h rel slots len uses input =
    allocate_permutation_front h rel slots len (length uses) input
    ++ (room_asks rel.vars slots rel.width ++ join_asks rel slots len uses (mint_cells rel input))

-- alone: 1, 2, 9, 3, 5, 6, 11, 10
abbrev pub allocate_permutation_asks : PermutationRelation → (slots len : ℕ) → (uses input : List ℕ) → List Question
allocate_permutation_asks = allocate_permutation_asks_with alone

-- equation: 1 and 2 ..
abbrev pub add_equation_front : Sharing → PermutationRelation → ℕ → List Question
add_equation_front h rel len = in_turn (
    width_asks rel.width
    ∷ equations_asks rel len
    ∷ where_counted h (count_asks rel.vars)
    ∷ h.opened
    ∷ [])

-- alone
abbrev pub add_equation_sizes : PermutationRelation → ℕ → List Question
add_equation_sizes = add_equation_front alone

-- 4 of the image
abbrev pub image_asks : ℕ → List Question
image_asks image = question 4 (ltb image prime) ∷ []

-- .. and then 3 over all wires, 4 over all weights and the image, 10
abbrev pub add_equation_rest : PermutationRelation → ℕ → List Term → ℕ → List Question
add_equation_rest rel len terms image = in_turn (
    terms_asks terms
    ∷ image_asks image
    ∷ equation_room rel len (length terms)
    ∷ [])

-- all of them
abbrev pub add_equation_asks_with : Sharing → PermutationRelation → ℕ → List Term → ℕ → List Question
add_equation_asks_with h rel len terms image = add_equation_front h rel len ++ add_equation_rest rel len terms image

-- alone: 1, 2, 3, 4, 10
abbrev pub add_equation_asks : PermutationRelation → ℕ → List Term → ℕ → List Question
add_equation_asks = add_equation_asks_with alone
