-- Withdrawals along a list (document 02's R-6), through the theorem: what is struck is out of the ledger, so a wire can
-- become unknown again; the use counts are those of the queries that remain, whatever was refused between; and gate and
-- check answer for what remains. Assumes nothing.
use Prim.Native.Nat.{ℕ, ◌+◌, ◌<◌}
use mathlib.Core.Path.{◌≡◌, refl}
use mathlib.Core.Bool.{true, false}
use mathlib.Core.List.{List, [], ◌∷◌, ◌++◌, map}
use native.Mathlib.Omega.{arith}
use Rattle.std.specs.Prelude.{Err, Ok}
use Rattle.limits.specs.Outcome.{Outcome, refusal}
use Rattle.limits.specs.Questions.{ask, first_of_two}
use Rattle.words.specs.Store.{all_below}
use Rattle.uses.specs.Uses.{times, strays, uses_of, sum, uses_after, all_fit}
use Rattle.utf8.specs.Utf8.{follow, is_utf8}
use Rattle.baby_bear.specs.Field.{add_unit, mul_unit, power_unit, seventh, dot_units}
use Rattle.allocator.specs.Slots.{pair}
use Rattle.expr.specs.Equation.{equation, size_at, equation_at}
use Rattle.expr.specs.declared.Weighted.{Weighted}
use Rattle.permutation.specs.Numbers.{new_relation_no, allocate_vars_no}
use Rattle.permutation.specs.Answers.{new_relation}
use Rattle.recording.specs.Numbers.{add_permutation_no, allocate_permutation_no, add_equation_no}
use Rattle.withdraw.specs.Relation.{withdraw_equation_no, withdraw_query_no}
use Rattle.permute.specs.Permute.{pairwise, on_kind, times_matrix, run_round, run_rounds}
use Rattle.permute.specs.Parameters.{rounds_of, rows_of, parameters_of, sound_kinds, unit_constants, unit_rows, sound_parameters, permute_no, same_words, is_evaluation}
use Rattle.instance.specs.Parts.{parts_of}
use Rattle.held.specs.Held.{equations_sound, publics_sound, slots_sound}
use Rattle.validated.specs.Validated.{validated_no, gate_no}
use Rattle.compile.specs.Gate.{publics_of, compiled_parts, compile_no, compile, compile_publics}
use Rattle.validity.specs.Check.{check_no}
use Rattle.validity.specs.Valid.{is_witness_valid_no}
use Rattle.history.specs.Ledger.{known}
use Rattle.history.specs.Sat.{Sat, Evaluates}
use Rattle.history.specs.Calls.{Call, Allocate, Record, Mint, Equate, WithdrawQuery, WithdrawEquation, Entry, answer, after, ledger, noted, log}
use Rattle.history.specs.Left.{compile_left}
use Rattle.history.specs.Whole.{compiled, begin, last, last_ledger}
use Rattle.history.proofs.Outcomes.{accepted-no}
use Rattle.history.proofs.Theorem.{whole}

abbrev slots : List ℕ
slots = 77 ∷ 78 ∷ 79 ∷ 80 ∷ []

-- room for two queries, and a word
abbrev queries : List ℕ
queries = 9 ∷ 9 ∷ 9 ∷ 9 ∷ 9 ∷ []

abbrev equations : List ℕ
equations = 9 ∷ 9 ∷ 9 ∷ 9 ∷ 9 ∷ 9 ∷ 9 ∷ 9 ∷ 9 ∷ []

abbrev uses : List ℕ
uses = 3 ∷ 3 ∷ 3 ∷ 3 ∷ []

abbrev publics : List ℕ
publics = 6 ∷ 6 ∷ []

abbrev scratch : List ℕ
scratch = 6 ∷ 6 ∷ 6 ∷ []

abbrev weighted : ℕ → ℕ → Weighted
weighted x k = record { var = record { 0 = x }; weight = record { 0 = k } }

-- two queries, of which the second names wire 9 beyond the slots, a third that finds no room, numbers that aren't there,
-- and of two equations the first withdrawn
abbrev first-calls : List Call
first-calls =
    Allocate 2
    ∷ Record (1 ∷ []) (2 ∷ [])
    ∷ Record (1 ∷ []) (9 ∷ [])
    ∷ Mint (1 ∷ [])
    ∷ WithdrawQuery 2
    ∷ Equate (weighted 1 3 ∷ []) 6
    ∷ Equate (weighted 2 1 ∷ []) 5
    ∷ WithdrawEquation 2
    ∷ WithdrawEquation 0
    ∷ []

-- then the second query withdrawn, and then the other
abbrev one_left : List Call
one_left = first-calls ++ (WithdrawQuery 1 ∷ [])

abbrev none_left : List Call
none_left = first-calls ++ (WithdrawQuery 1 ∷ WithdrawQuery 0 ∷ [])

-- a query and both equations, and then the first equation withdrawn
abbrev both-kept : List Call
both-kept = Allocate 2 ∷ Record (1 ∷ []) (2 ∷ []) ∷ Equate (weighted 1 3 ∷ []) 6 ∷ Equate (weighted 2 1 ∷ []) 5 ∷ []

abbrev first-struck : List Call
first-struck = both-kept ++ (WithdrawEquation 0 ∷ [])

fresh-accepted : (new_relation 1 slots uses).outcome ≡ Ok tt
unfolding ask first_of_two new_relation_no
fresh-accepted = refl

-- 10 for the mint, 45 for a number that isn't there
outcomes : map (λ (e : Entry). e.answered.outcome) (log (begin 1 slots queries equations uses none_left) none_left)
    ≡ Ok tt ∷ Ok tt ∷ Ok tt ∷ Err (refusal 10) ∷ Err (refusal 45) ∷ Ok tt ∷ Ok tt ∷ Err (refusal 45) ∷ Ok tt ∷ Ok tt ∷ Ok tt ∷ []
unfolding ask first_of_two new_relation_no allocate_vars_no add_permutation_no allocate_permutation_no add_equation_no times strays all_fit uses_after all_below size_at withdraw_query_no withdraw_equation_no answer after
outcomes = refl

-- ---- the ledger
-- one query and one equation are struck from it
ledger-is : last_ledger 1 slots queries equations uses one_left
    ≡ ledger 3 (pair 0 0 ∷ []) ((1 ∷ 2 ∷ []) ∷ []) (equation (record { var = 2; weight = 1 } ∷ []) 5 ∷ [])
unfolding ask first_of_two new_relation_no allocate_vars_no add_permutation_no allocate_permutation_no add_equation_no times strays all_fit uses_after all_below size_at withdraw_query_no withdraw_equation_no answer after noted
ledger-is = refl

-- wire 2 is known by the first query alone: with that struck it is unknown again
pub unknown-again : (known (last_ledger 1 slots queries equations uses one_left) 2 ≡ true) × (known (last_ledger 1 slots queries equations uses none_left) 2 ≡ false)
unfolding ask first_of_two new_relation_no allocate_vars_no add_permutation_no allocate_permutation_no add_equation_no times strays all_fit uses_after all_below size_at withdraw_query_no withdraw_equation_no answer after noted
unknown-again = (refl, refl)

-- ---- the use counts
-- those of (1, 2) and (1, 9): nothing of the mint that was refused
pub counted : (last 1 slots queries equations uses first-calls).uses ≡ 0 ∷ 2 ∷ 1 ∷ 0 ∷ []
unfolding ask first_of_two new_relation_no allocate_vars_no add_permutation_no allocate_permutation_no add_equation_no times strays uses_of all_fit uses_after all_below size_at withdraw_query_no withdraw_equation_no answer after noted
counted = (whole 1 slots queries equations uses fresh-accepted first-calls).used.counts.uses-are

pub stray : (last 1 slots queries equations uses first-calls).relation.stray ≡ 1
unfolding ask first_of_two new_relation_no allocate_vars_no add_permutation_no allocate_permutation_no add_equation_no times strays uses_of all_fit uses_after all_below size_at withdraw_query_no withdraw_equation_no answer after noted
stray = (whole 1 slots queries equations uses fresh-accepted first-calls).used.counts.stray-is

-- two queries of two cells
pub total : sum (last 1 slots queries equations uses first-calls).uses + (last 1 slots queries equations uses first-calls).relation.stray ≡ 4
unfolding ask first_of_two new_relation_no allocate_vars_no add_permutation_no allocate_permutation_no add_equation_no times strays uses_of all_fit uses_after all_below size_at withdraw_query_no withdraw_equation_no answer after noted
total = (whole 1 slots queries equations uses fresh-accepted first-calls).used.total

-- none after none
pub uncounted : (last 1 slots queries equations uses none_left).uses ≡ 0 ∷ 0 ∷ 0 ∷ 0 ∷ []
unfolding ask first_of_two new_relation_no allocate_vars_no add_permutation_no allocate_permutation_no add_equation_no times strays uses_of all_fit uses_after all_below size_at withdraw_query_no withdraw_equation_no answer after noted
uncounted = (whole 1 slots queries equations uses fresh-accepted none_left).used.counts.uses-are

-- ---- 11 of a count
-- only where the query store has no room: it has five words, and a first query takes two
abbrev two-wires : List Call
two-wires = Allocate 2 ∷ []

pub roomy : (answer (last 1 slots queries equations uses two-wires) (Record (1 ∷ []) (2 ∷ []))).outcome ≡ Err (refusal 11) → 5 < 2
unfolding ask first_of_two new_relation_no allocate_vars_no add_permutation_no allocate_permutation_no add_equation_no times strays uses_of all_fit uses_after all_below size_at withdraw_query_no withdraw_equation_no answer after noted
roomy = (whole 1 slots queries equations uses fresh-accepted (two-wires ++ (Record (1 ∷ []) (2 ∷ []) ∷ []))).told.1.0.full refl

pub mint-roomy : (answer (last 1 slots queries equations uses two-wires) (Mint (1 ∷ []))).outcome ≡ Err (refusal 11) → 5 < 2
unfolding ask first_of_two new_relation_no allocate_vars_no add_permutation_no allocate_permutation_no add_equation_no times strays uses_of all_fit uses_after all_below size_at withdraw_query_no withdraw_equation_no answer after noted
mint-roomy = (whole 1 slots queries equations uses fresh-accepted (two-wires ++ (Mint (1 ∷ []) ∷ []))).told.1.0.full refl

-- ---- the gate: 13 by the stray cell, then yes, and with no query 15, since the equation's wire is unknown again
abbrev gate : List Call → Outcome
gate calls = (compiled (last 1 slots queries equations uses calls) [] publics scratch).outcome

pub beyond : gate first-calls ≡ Err (refusal 13)
unfolding ask first_of_two new_relation_no allocate_vars_no add_permutation_no allocate_permutation_no add_equation_no times strays all_fit uses_after all_below size_at withdraw_query_no withdraw_equation_no answer after noted compile_left follow is_utf8
beyond = ((whole 1 slots queries equations uses fresh-accepted first-calls).judged.gates [] publics scratch).by-ledger

pub bound : gate one_left ≡ Ok tt
unfolding ask first_of_two new_relation_no allocate_vars_no add_permutation_no allocate_permutation_no add_equation_no times strays all_fit uses_after all_below size_at withdraw_query_no withdraw_equation_no answer after noted compile_left follow is_utf8
bound = ((whole 1 slots queries equations uses fresh-accepted one_left).judged.gates [] publics scratch).by-ledger

pub unbound : gate none_left ≡ Err (refusal 15)
unfolding ask first_of_two new_relation_no allocate_vars_no add_permutation_no allocate_permutation_no add_equation_no times strays all_fit uses_after all_below size_at withdraw_query_no withdraw_equation_no answer after noted compile_left follow is_utf8
unbound = ((whole 1 slots queries equations uses fresh-accepted none_left).judged.gates [] publics scratch).by-ledger

-- ---- the check: with both equations wire 1 would be 2 and wire 2 would be 5, so the trace (5, 5) of no rounds is a no, 35;
-- with the first struck it is a yes
abbrev Satisfied : List Call → Type 0
Satisfied calls = Sat (Evaluates 1 (parameters_of 1 0 (1 ∷ []))) (last_ledger 1 slots queries equations uses calls) ((5 ∷ 5 ∷ []) ∷ [])

pub unsatisfied : Satisfied both-kept → ⊥
unfolding ask first_of_two new_relation_no allocate_vars_no add_permutation_no add_equation_no times strays all_fit uses_after withdraw_equation_no all_below answer after compiled_parts publics_of equation_at size_at equations_sound slots_sound follow is_utf8 compile_no compile validated_no gate_no compile_publics publics_sound parts_of check_no is_witness_valid_no is_evaluation permute_no sound_parameters rounds_of rows_of sound_kinds unit_constants unit_rows same_words run_rounds run_round pairwise on_kind times_matrix add_unit mul_unit power_unit seventh dot_units
unsatisfied s =
    let z : ◌≡◌ {A = ℕ} 35 0 = accepted-no 35
    ((((whole 1 slots queries equations uses fresh-accepted both-kept).judged.gated [] publics scratch refl
    ).checks 1 (5 ∷ 5 ∷ []) (record { size = omega arith; room = omega arith; units = refl }) 0 (1 ∷ []) refl 3 (omega arith) (omega arith)
    ).yes.1 s) in
    omega arith

pub satisfied : Satisfied first-struck
unfolding ask first_of_two new_relation_no allocate_vars_no add_permutation_no add_equation_no times strays all_fit uses_after withdraw_equation_no all_below answer after compiled_parts publics_of equation_at size_at equations_sound slots_sound follow is_utf8 compile_no compile validated_no gate_no compile_publics publics_sound parts_of check_no is_witness_valid_no is_evaluation permute_no sound_parameters rounds_of rows_of sound_kinds unit_constants unit_rows same_words run_rounds run_round pairwise on_kind times_matrix add_unit mul_unit power_unit seventh dot_units
satisfied =
    (((whole 1 slots queries equations uses fresh-accepted first-struck).judged.gated [] publics scratch refl
    ).checks 1 (5 ∷ 5 ∷ []) (record { size = omega arith; room = omega arith; units = refl }) 0 (1 ∷ []) refl 3 (omega arith) (omega arith)
    ).yes.0 refl
