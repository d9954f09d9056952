-- Which questions can still say no along a list of openings and calls, and what a call sets: by the ledger and the lengths
-- of what is lent alone. Assumes nothing.
use Rattle.std.specs.Prelude.{ℕ, List, [], ◌∷◌, ◌++◌, ltb, length}
use Rattle.limits.specs.Questions.{question, first_no, pick}
use Rattle.limits.specs.Asks.{width_asks, store_asks}
use Rattle.uses.specs.Uses.{length_asks}
use Rattle.allocator.specs.Slots.{Pair}
use Rattle.sharing.specs.Shares.{max_relations, on_allocator, quota_asks, shares}
use Rattle.sharing.specs.declared.VarAllocator.{VarAllocator}
use Rattle.history.specs.Calls.{Lengths, front_asks}
use Rattle.history.specs.Left.{left_with, set_by}
use Rattle.shared_history.specs.Calls.{SharedCall, Open, On, SharedLedger, own_ledger_at, judged_on}

-- the allocator by the ledger
abbrev pub allocator_by : SharedLedger → VarAllocator
allocator_by l = record { vars = l.count; opened = length l.owns }

-- the number that a call answers, by ledger and lengths; 0 is yes. Of an opening 1, 42, and 2 and 10 of its use store are
-- left; of a relation's call what is left to a relation alone, and 43; of a call on a number that isn't opened all up to its
-- 42
unfoldable pub shared_left : Lengths → SharedLedger → SharedCall → ℕ
shared_left lengths l (Open width quota queries equations uses) =
    first_no (width_asks width
    ++ (store_asks lengths.uses
    ++ (question 42 (ltb (length l.owns) max_relations) ∷ length_asks lengths.slots lengths.uses)))
shared_left lengths l (On r handed c) =
    let e = own_ledger_at l r in
    let a = allocator_by l in
    pick (ltb r (length l.owns))
    (left_with (quota_asks e.quota e.obtained) e.width lengths (judged_on l e) c)
    (first_no (front_asks (shares a r handed.relation) (on_allocator a handed.relation) lengths c))

-- the pairs that a call sets, by the ledger and the arguments alone: of a relation's call those of a relation alone on
-- everybody's sets
unfoldable pub shared_set_by : SharedLedger → SharedCall → List Pair
shared_set_by l (Open width quota queries equations uses) = []
shared_set_by l (On r handed c) = pick (ltb r (length l.owns)) (set_by (judged_on l (own_ledger_at l r)) c) []
