-- Wires and the slots that hold their values (the source's allocator.rs), over the wire count and the list
-- of slots: a slot is a unit, or `unassigned` where the wire has no value yet. Assumes nothing.
use Rattle.std.specs.Prelude.{ℕ, suc, ◌+◌, Bool, ◌||◌, List, [], ◌∷◌, ◌++◌, eqb, ltb, leb, take, drop, get_or, set, replicate}
use Rattle.limits.specs.Numbers.{prime, unassigned, max_count}
use Rattle.limits.specs.Questions.{Question, question, first_no, pick, on_yes}
use Rattle.limits.specs.Asks.{store_asks, count_asks}

-- a wire and the unit that it is set to
pub record Pair : Type 0 where
  pub var : ℕ
  pub value : ℕ

-- this wire with this unit
abbrev pub pair : ℕ → ℕ → Pair
pair var value = record { var = var; value = value }

-- the common pairs of two lists, in order
abbrev pub pairs : List ℕ → List ℕ → List Pair
pairs [] values = []
pairs (x ∷ vars) [] = []
pairs (x ∷ vars) (v ∷ values) = pair x v ∷ pairs vars values

-- ---- questions, by the wire count and the length of the slot store
-- 2: the count, and that it fits the store
abbrev pub fit_asks : ℕ → ℕ → List Question
fit_asks count len = count_asks count ++ (question 2 (leb count len) ∷ [])

-- 2: the store's size, the count, and that the count fits the store
abbrev pub slots_asks : ℕ → ℕ → List Question
slots_asks count len = store_asks len ++ fit_asks count len

-- 5: would there be at most 2^30 wires with n more?
abbrev pub most_asks : ℕ → ℕ → List Question
most_asks count n = question 5 (leb (count + n) max_count) ∷ []

-- 6: does the store hold them?
abbrev pub room_asks : ℕ → ℕ → ℕ → List Question
room_asks count len n = question 6 (leb (count + n) len) ∷ []

-- 5 and 6, and what is put in between
abbrev pub grow_asks_with : List Question → ℕ → ℕ → ℕ → List Question
grow_asks_with between count len n = most_asks count n ++ (between ++ room_asks count len n)

-- with nothing between
abbrev pub grow_asks : ℕ → ℕ → ℕ → List Question
grow_asks = grow_asks_with []

-- a pair is fresh where the slot of its wire is unassigned, or where the store lacks it (document 02's R-5)
abbrev pub is_fresh : List ℕ → Pair → Bool
is_fresh slots p = eqb (get_or slots p.var unassigned) unassigned

-- the slot of a wire may take a value: it is unassigned, or holds that value
abbrev pub slot_takes : List ℕ → Pair → Bool
slot_takes slots p = is_fresh slots p || eqb (get_or slots p.var unassigned) p.value

-- 3, the number of the value's own question, 7, 8 of a pair, over the wire count and whether its wire may take its value
abbrev pub setting_asks : (unit count : ℕ) → (Pair → Bool) → Pair → List Question
setting_asks unit count takes p =
    question 3 (ltb p.var max_count)
    ∷ question unit (ltb p.value prime)
    ∷ question 7 (ltb p.var count)
    ∷ question 8 (takes p)
    ∷ []

-- 3, 4, 7 of one pair
abbrev pub wire_asks : ℕ → Pair → List Question
wire_asks count p =
    question 3 (ltb p.var max_count)
    ∷ question 4 (ltb p.value prime)
    ∷ question 7 (ltb p.var count)
    ∷ []

-- 3, 4, 7, 8 of one pair on the slots as they are
abbrev pub pair_asks : ℕ → List ℕ → Pair → List Question
pair_asks count slots = setting_asks 4 count (slot_takes slots)

-- the number of one pair: the first no of its questions
unfoldable pub pair_no : ℕ → List ℕ → Pair → ℕ
pair_no count slots p = first_no (pair_asks count slots p)

-- ---- what is left of the slots
-- n more wires, their slots unassigned
abbrev pub grown_slots : ℕ → ℕ → List ℕ → List ℕ
grown_slots count n slots = take count slots ++ (replicate n unassigned ++ drop (count + n) slots)

-- ---- items set in turn: `no_of` is an item's number on the slots as they are, `pair_of` the pair that it sets
-- how far they came, up to the first that is refused: its number, how many were accepted, how many of those were fresh,
-- the slots
pub record SetRun : Type 0 where
  pub number : ℕ
  pub accepted : ℕ
  pub fresh : ℕ
  pub slots : List ℕ

-- a run that came to this number, with so many accepted and so many of them fresh, and these slots
abbrev pub ran : ℕ → ℕ → ℕ → List ℕ → SetRun
ran number accepted fresh slots = record { number = number; accepted = accepted; fresh = fresh; slots = slots }

-- one item accepted, fresh or not, before what the others came to
abbrev pub one_accepted : Bool → SetRun → SetRun
one_accepted fresh r = ran r.number (suc r.accepted) (pick fresh 1 0 + r.fresh) r.slots

-- the slots with a pair set: the slot of its wire holds its value
abbrev pub with_pair : List ℕ → Pair → List ℕ
with_pair slots p = set slots p.var p.value

-- the slots after one item: with its pair set, or as they were
abbrev pub after_item : {A : Type 0} → (List ℕ → A → ℕ) → (A → Pair) → List ℕ → A → List ℕ
after_item no_of pair_of slots a = on_yes (no_of slots a) (with_pair slots (pair_of a)) slots

-- each item is asked on the slots as the earlier ones leave them; the first that is refused ends the run
unfoldable pub set_items : {A : Type 0} → (List ℕ → A → ℕ) → (A → Pair) → List ℕ → List A → SetRun
set_items no_of pair_of slots [] = ran 0 0 0 slots
set_items no_of pair_of slots (a ∷ items) =
    on_yes (no_of slots a)
    (one_accepted (is_fresh slots (pair_of a)) (set_items no_of pair_of (with_pair slots (pair_of a)) items))
    (ran (no_of slots a) 0 0 slots)

-- their questions, one item after the other
abbrev pub items_asks : {A : Type 0} → (List ℕ → A → List Question) → (A → Pair) → List ℕ → List A → List Question
items_asks asks pair_of slots [] = []
items_asks asks pair_of slots (a ∷ items) =
    asks slots a ++ items_asks asks pair_of (with_pair slots (pair_of a)) items

-- a run behind earlier questions that came to k: nothing is tried where they say no
abbrev pub run_after : ℕ → SetRun → List ℕ → SetRun
run_after k r slots = on_yes k r (ran k 0 0 slots)

-- pairs set in turn
abbrev pub set_run : ℕ → List ℕ → List Pair → SetRun
set_run count = set_items (pair_no count) (λ p. p)
