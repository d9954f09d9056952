-- Withdrawals and use counts of relations on one allocator, through the theorem: an opening clears its own use store only;
-- another's allocate moves the range that 13 looks at and touches no count; and a withdrawal strikes from its own
-- relation's ledger alone. Assumes nothing.
use Prim.Native.Nat.{ℕ, ◌<◌}
use mathlib.Core.Path.{◌≡◌, refl}
use mathlib.Core.List.{List, [], ◌∷◌, ◌++◌, map}
use native.Mathlib.Omega.{arith}
use Rattle.std.specs.Prelude.{Err, Ok}
use Rattle.limits.specs.Outcome.{Outcome, refusal}
use Rattle.limits.specs.Questions.{ask, first_of_two}
use Rattle.words.specs.Store.{all_below}
use Rattle.uses.specs.Uses.{times, strays, uses_of, uses_after, all_fit}
use Rattle.utf8.specs.Utf8.{follow, is_utf8}
use Rattle.permutation.specs.Numbers.{allocate_vars_no}
use Rattle.recording.specs.Numbers.{add_permutation_no}
use Rattle.withdraw.specs.Relation.{withdraw_query_no}
use Rattle.sharing.specs.Opening.{with_allocator_no, new_shared}
use Rattle.history.specs.Calls.{Allocate, Record, WithdrawQuery, front_asks, answer, after, noted}
use Rattle.history.specs.Left.{compile_left}
use Rattle.shared_history.specs.Calls.{OwnState, SharedCall, Open, On, own_at, front_no, shared_answer, shared_after, own_ledger_at, shared_noted, SharedEntry, shared_log}
use Rattle.shared_history.specs.Whole.{gate_on, none_opened, opening, shared_begin, shared_last, shared_ledger}
use Rattle.shared_history.proofs.Theorem.{shared-whole}

abbrev slots : List ℕ
slots = 77 ∷ 78 ∷ 79 ∷ 80 ∷ []

abbrev queries : List ℕ
queries = 9 ∷ 9 ∷ 9 ∷ 9 ∷ []

abbrev uses : List ℕ
uses = 3 ∷ 3 ∷ 3 ∷ 3 ∷ []

abbrev publics : List ℕ
publics = 6 ∷ 6 ∷ []

abbrev scratch : List ℕ
scratch = 6 ∷ 6 ∷ 6 ∷ 6 ∷ []

abbrev handed : OwnState
handed = record { relation = new_shared 1 5; queries = queries; equations = []; uses = uses }

-- relation 0 names wire 3, which isn't allocated yet, and then relation 1 is opened; openings whose use store is a word
-- short, and withdrawals of a relation without queries and of a number that isn't opened, are refused
abbrev recorded : List SharedCall
recorded =
    On 0 handed (Record (0 ∷ []) (3 ∷ []))
    ∷ Open 1 3 queries [] (3 ∷ 3 ∷ 3 ∷ [])
    ∷ Open 1 3 queries [] uses
    ∷ On 1 handed (WithdrawQuery 0)
    ∷ On 2 handed (WithdrawQuery 0)
    ∷ []

-- relation 1 allocates the wire
abbrev grown : List SharedCall
grown = recorded ++ (On 1 handed (Allocate 3) ∷ [])

-- and relation 0 withdraws its query
abbrev struck : List SharedCall
struck = grown ++ (On 0 handed (WithdrawQuery 0) ∷ [])

first-accepted : (cs : List SharedCall)
    → (shared_answer (none_opened 77 slots 1 0 queries [] uses cs) (opening 77 slots 1 0 queries [] uses cs)).outcome ≡ Ok tt
unfolding ask first_of_two with_allocator_no shared_answer
first-accepted cs = refl

outcomes : map (λ (e : SharedEntry). e.answered.outcome) (shared_log (shared_begin 77 slots 1 0 queries [] uses struck) struck)
    ≡ Ok tt ∷ Err (refusal 10) ∷ Ok tt ∷ Err (refusal 45) ∷ Err (refusal 42) ∷ Ok tt ∷ Ok tt ∷ []
unfolding ask first_of_two with_allocator_no front_asks front_no allocate_vars_no add_permutation_no withdraw_query_no times strays all_fit uses_after all_below answer after shared_answer shared_after
outcomes = refl

opened : ((shared_last 77 slots 1 0 queries [] uses recorded).allocator.opened ≡ 2)
    × ((shared_last 77 slots 1 0 queries [] uses grown).allocator.opened ≡ 2)
    × ((shared_last 77 slots 1 0 queries [] uses struck).allocator.opened ≡ 2)
unfolding ask first_of_two with_allocator_no front_asks front_no allocate_vars_no add_permutation_no withdraw_query_no times strays all_fit uses_after all_below answer after shared_answer shared_after
opened = (refl, refl, refl)

-- ---- the use counts
-- relation 0's stay as they are when relation 1 is opened, whose own are all 0
pub own-cleared : ((own_at (shared_last 77 slots 1 0 queries [] uses recorded) 0 handed).uses ≡ 1 ∷ 0 ∷ 0 ∷ 1 ∷ [])
    × ((own_at (shared_last 77 slots 1 0 queries [] uses recorded) 1 handed).uses ≡ 0 ∷ 0 ∷ 0 ∷ 0 ∷ [])
unfolding ask first_of_two with_allocator_no front_asks front_no allocate_vars_no add_permutation_no withdraw_query_no times strays uses_of all_fit uses_after all_below answer after noted shared_answer shared_after shared_noted
own-cleared =
    let w = shared-whole 77 slots 1 0 queries [] uses recorded (first-accepted recorded) in
    ((w.used 0 (omega (arith, opened.0)) handed).counts.uses-are, (w.used 1 (omega (arith, opened.0)) handed).counts.uses-are)

-- relation 0 names wire 9, which is beyond the slots; relation 1 has a query of its own, and relation 0 withdraws its
abbrev strayed : List SharedCall
strayed = On 0 handed (Record (0 ∷ []) (9 ∷ [])) ∷ Open 1 3 queries [] uses ∷ On 1 handed (Record (0 ∷ []) (0 ∷ [])) ∷ []

abbrev withdrawn : List SharedCall
withdrawn = strayed ++ (On 0 handed (WithdrawQuery 0) ∷ [])

both-opened : ((shared_last 77 slots 1 0 queries [] uses strayed).allocator.opened ≡ 2)
    × ((shared_last 77 slots 1 0 queries [] uses withdrawn).allocator.opened ≡ 2)
unfolding ask first_of_two with_allocator_no front_asks front_no allocate_vars_no add_permutation_no withdraw_query_no times strays uses_of all_fit uses_after all_below answer after noted shared_answer shared_after shared_noted
both-opened = (refl, refl)

-- one stray cell in relation 0's record and none in relation 1's; none in either with the query withdrawn
pub stray : ((own_at (shared_last 77 slots 1 0 queries [] uses strayed) 0 handed).relation.stray ≡ 1)
    × ((own_at (shared_last 77 slots 1 0 queries [] uses strayed) 1 handed).relation.stray ≡ 0)
    × ((own_at (shared_last 77 slots 1 0 queries [] uses withdrawn) 0 handed).relation.stray ≡ 0)
unfolding ask first_of_two with_allocator_no front_asks front_no allocate_vars_no add_permutation_no withdraw_query_no times strays uses_of all_fit uses_after all_below answer after noted shared_answer shared_after shared_noted
stray =
    let v = shared-whole 77 slots 1 0 queries [] uses strayed (first-accepted strayed) in
    let w = shared-whole 77 slots 1 0 queries [] uses withdrawn (first-accepted withdrawn) in (
      (v.used 0 (omega (arith, both-opened.0)) handed).counts.stray-is,
      (v.used 1 (omega (arith, both-opened.0)) handed).counts.stray-is,
      (w.used 0 (omega (arith, both-opened.1)) handed).counts.stray-is,
    )

-- relation 1's counts and its part of the ledger stay
pub other-counted : (own_at (shared_last 77 slots 1 0 queries [] uses withdrawn) 1 handed).uses ≡ 2 ∷ 0 ∷ 0 ∷ 0 ∷ []
unfolding ask first_of_two with_allocator_no front_asks front_no allocate_vars_no add_permutation_no withdraw_query_no times strays uses_of all_fit uses_after all_below answer after noted shared_answer shared_after shared_noted
other-counted = ((shared-whole 77 slots 1 0 queries [] uses withdrawn (first-accepted withdrawn)).used 1 (omega (arith, both-opened.1)) handed).counts.uses-are

pub other-kept : (own_ledger_at (shared_ledger 77 slots 1 0 queries [] uses withdrawn) 1).queries ≡ (0 ∷ 0 ∷ []) ∷ []
unfolding ask first_of_two with_allocator_no front_asks front_no allocate_vars_no add_permutation_no withdraw_query_no times strays uses_of all_fit uses_after all_below answer after noted shared_answer shared_after shared_noted
other-kept = refl

-- 11 of a count only where the query store has no room: it has four words, and a first query takes two
pub roomy : (shared_answer (shared_begin 77 slots 1 0 queries [] uses strayed) (On 0 handed (Record (0 ∷ []) (9 ∷ [])))).outcome ≡ Err (refusal 11) → 4 < 2
unfolding ask first_of_two with_allocator_no front_asks front_no allocate_vars_no add_permutation_no withdraw_query_no times strays uses_of all_fit uses_after all_below answer after noted shared_answer shared_after shared_noted
roomy e = (shared-whole 77 slots 1 0 queries [] uses strayed (first-accepted strayed)).told.0.full e refl (omega arith)

-- ---- the gate of relation 0: 13 at a wire that nobody allocated, then yes by another's allocate, and yes without a query
abbrev gate-0 : List SharedCall → Outcome
gate-0 cs =
    let p = shared_last 77 slots 1 0 queries [] uses cs in
    (gate_on p 0 (own_at p 0 handed) [] publics scratch).answer.outcome

pub not-allocated : gate-0 recorded ≡ Err (refusal 13)
unfolding ask first_of_two with_allocator_no front_asks front_no allocate_vars_no add_permutation_no withdraw_query_no times strays all_fit uses_after all_below answer after noted shared_answer shared_after shared_noted compile_left follow is_utf8
not-allocated =
    (((shared-whole 77 slots 1 0 queries [] uses recorded (first-accepted recorded)).judged 0 (omega (arith, opened.0)) handed [] tt
    ).gates [] publics scratch).by-ledger

pub allocated : gate-0 grown ≡ Ok tt
unfolding ask first_of_two with_allocator_no front_asks front_no allocate_vars_no add_permutation_no withdraw_query_no times strays all_fit uses_after all_below answer after noted shared_answer shared_after shared_noted compile_left follow is_utf8
allocated =
    (((shared-whole 77 slots 1 0 queries [] uses grown (first-accepted grown)).judged 0 (omega (arith, opened.1)) handed [] tt
    ).gates [] publics scratch).by-ledger

-- ---- the ledger: struck from relation 0's part
pub struck-own : (own_ledger_at (shared_ledger 77 slots 1 0 queries [] uses struck) 0).queries ≡ []
unfolding ask first_of_two with_allocator_no front_asks front_no allocate_vars_no add_permutation_no withdraw_query_no times strays all_fit uses_after all_below answer after noted shared_answer shared_after shared_noted
struck-own = refl

pub uncounted : (own_at (shared_last 77 slots 1 0 queries [] uses struck) 0 handed).uses ≡ 0 ∷ 0 ∷ 0 ∷ 0 ∷ []
unfolding ask first_of_two with_allocator_no front_asks front_no allocate_vars_no add_permutation_no withdraw_query_no times strays uses_of all_fit uses_after all_below answer after noted shared_answer shared_after shared_noted
uncounted = ((shared-whole 77 slots 1 0 queries [] uses struck (first-accepted struck)).used 0 (omega (arith, opened.2)) handed).counts.uses-are
