-- Two relations of different widths on one allocator and on stores that hold anything: each new number at its place among
-- the others, first wires of one count, the ledger, and a ninth opening. And relation 0 through its gate, both byte forms
-- and the check, to a yes and to a no that hang on values which relation 1 set, while relation 1 goes on between gate and
-- write: the theorem is not empty. Then the theorem along a list, at a number that isn't opened, and of sets that are fresh or
-- that another relation made before. Assumes nothing.
use Prim.Native.Nat.{ℕ}
use mathlib.Core.Path.{◌≡◌, refl, ap}
use mathlib.Core.List.{List, [], ◌∷◌, ◌++◌, map}
use native.Mathlib.Omega.{arith}
use lib.ListN.{replicate}
use Rattle.limits.specs.Outcome.{refusal}
use Rattle.std.specs.Prelude.{Err, Ok}
use Rattle.limits.specs.Questions.{ask, first_of_two}
use Rattle.words.specs.Store.{all_below}
use Rattle.uses.specs.Uses.{times, strays, uses_after, all_fit}
use Rattle.utf8.specs.Utf8.{follow, is_utf8}
use Rattle.baby_bear.specs.Field.{add_unit, mul_unit, power_unit, seventh, dot_units}
use Rattle.allocator.specs.Slots.{pair, pair_no, set_items}
use Rattle.expr.specs.Equation.{equation, equation_at, size_at}
use Rattle.expr.specs.declared.Weighted.{Weighted}
use Rattle.permutation.specs.Numbers.{allocate_vars_no, set_var_no, set_vars_no}
use Rattle.permutation.specs.Answers.{relation, set_vars_run}
use Rattle.recording.specs.Numbers.{add_permutation_no, allocate_permutation_no, add_equation_no}
use Rattle.ticket.specs.Form.{ticket_line, read_line}
use Rattle.ticket.specs.Steps.{grams_to_steps}
use Rattle.tickets.specs.Lines.{lines_of, line_no}
use Rattle.tickets.specs.Tickets.{set_tickets_run}
use Rattle.permute.specs.Permute.{pairwise, on_kind, times_matrix, run_round, run_rounds}
use Rattle.permute.specs.Parameters.{rounds_of, rows_of, parameters_of, sound_kinds, unit_constants, unit_rows, sound_parameters, permute_no, same_words, is_evaluation}
use Rattle.instance.specs.Parts.{parts_of}
use Rattle.held.specs.Held.{equations_sound, publics_sound, slots_sound}
use Rattle.validated.specs.Validated.{validated_no, gate_no}
use Rattle.compile.specs.Gate.{publics_of, compiled_parts, instance_of, compile_no, compile, compile_publics}
use Rattle.compile.specs.Records.{Compiled}
use Rattle.validity.specs.Check.{check_no}
use Rattle.validity.specs.Valid.{is_witness_valid_no}
use Rattle.narg.specs.Bytes.{u32_bytes}
use Rattle.narg.specs.Reader.{word, part, below}
use Rattle.header.specs.Form.{header_bytes}
use Rattle.header.specs.Read.{read_magic, read_header}
use Rattle.encoding.specs.Form.{instance_bytes, witness_bytes}
use Rattle.encoding.specs.Answers.{instance_to_bytes_no, witness_to_bytes_no}
use Rattle.decoding.specs.Read.{read_label, read_publics, read_queries, read_equations, read_parts, read_instance, read_file, read_steps, read_witness}
use Rattle.decoding.specs.Answers.{instance_from_bytes, witness_from_bytes}
use Rattle.sharing.specs.Opening.{with_allocator_no, new_shared}
use Rattle.shared_compile.specs.Gate.{compile_on_no, compile_on, compile_publics_on}
use Rattle.history.specs.Sat.{Sat, Evaluates}
use Rattle.history.specs.Calls.{Allocate, Set, SetList, Record, Mint, Equate, Tickets, front_asks, answer, after, noted}
use Rattle.history.specs.Left.{set_by}
use Rattle.history.specs.Whole.{FileLent, TraceLent}
use Rattle.history.proofs.Outcomes.{accepted-no}
use Rattle.history.proofs.Fresh.{tally}
use Rattle.shared_history.specs.Calls.{OwnState, SharedState, SharedCall, Open, On, own_at, front_no, shared_answer, shared_after, SharedLedger, own_ledger_at, judged_on, shared_noted, shared_final, SharedEntry, shared_log}
use Rattle.shared_history.specs.Left.{shared_set_by}
use Rattle.shared_history.specs.Whole.{gate_on, none_opened, opening, shared_begin, shared_last, shared_ledger}
use Rattle.shared_history.proofs.Fresh.{shared-tallied}
use Rattle.shared_history.proofs.Theorem.{shared-whole}

abbrev weighted : ℕ → ℕ → Weighted
weighted x k = record { var = record { 0 = x }; weight = record { 0 = k } }

abbrev slots : List ℕ
slots = 77 ∷ 78 ∷ 79 ∷ 80 ∷ 81 ∷ 82 ∷ 83 ∷ 84 ∷ []

abbrev queries : List ℕ
queries = 9 ∷ 9 ∷ 9 ∷ []

abbrev equations : List ℕ
equations = 9 ∷ 9 ∷ 9 ∷ 9 ∷ []

abbrev uses : List ℕ
uses = 3 ∷ 3 ∷ 3 ∷ 3 ∷ 3 ∷ 3 ∷ 3 ∷ 3 ∷ []

abbrev publics : List ℕ
publics = 6 ∷ 6 ∷ 6 ∷ 6 ∷ 6 ∷ 6 ∷ []

abbrev scratch : List ℕ
scratch = 6 ∷ 6 ∷ 6 ∷ 6 ∷ 6 ∷ 6 ∷ []

-- a record of that width that no opening made
abbrev handed : ℕ → OwnState
handed width = record { relation = new_shared width 5; queries = queries; equations = equations; uses = uses }

-- a ticket's line
abbrev line : (wire grams : ℕ) → List ℕ
line wire grams = ticket_line (record { wire = wire; grams = grams })

-- relation 0 has width 1 and quota 3, relation 1 width 2 and quota 2
abbrev calls : List SharedCall
calls =
    On 1 (handed 25) (Allocate 0)
    ∷ On 1 (handed 1) (Allocate 1073741824)
    ∷ On 1 (handed 1) (Tickets (32 ∷ []))
    ∷ Open 25 9 [] [] uses
    ∷ Open 2 2 (9 ∷ 9 ∷ 9 ∷ 9 ∷ []) [] uses
    ∷ On 0 (handed 1) (Allocate 1073741824)
    ∷ On 0 (handed 1) (Allocate 8)
    ∷ On 0 (handed 1) (Allocate 2)
    ∷ On 1 (handed 1) (Tickets (line 2 249))
    ∷ On 0 (handed 1) (Set (pair 2 6))
    ∷ On 1 (handed 1) (Mint (1 ∷ 2 ∷ []))
    ∷ On 1 (handed 1) (SetList (3 ∷ 2 ∷ []) (7 ∷ 6 ∷ []))
    ∷ On 1 (handed 1) (Mint (1 ∷ []))
    ∷ On 1 (handed 1) (Mint (1 ∷ 2 ∷ []))
    ∷ On 1 (handed 1) (Allocate 0)
    ∷ On 0 (handed 1) (Record (1 ∷ []) (2 ∷ []))
    ∷ On 0 (handed 1) (Mint (1 ∷ []))
    ∷ On 0 (handed 1) (Allocate 1)
    ∷ On 0 (handed 1) (Allocate 1)
    ∷ On 0 (handed 1) (Equate (weighted 3 2 ∷ []) 14)
    ∷ []

first-accepted : (shared_answer (none_opened 77 slots 1 3 queries equations uses calls) (opening 77 slots 1 3 queries equations uses calls)).outcome ≡ Ok tt
unfolding ask first_of_two with_allocator_no shared_answer
first-accepted = refl

-- 1 before 42; 42 before 5 and before a ticket's 40; 1 of an opening; 5 before 43; 43 before 6; 8 by another's ticket; a set list whose first pair stays;
-- 9 before 43; 43 of a mint; 0 wires with the quota used up; a mint that 10 refuses takes nothing, so one wire more is within
-- the quota, and then none
outcomes : map (λ (e : SharedEntry). e.answered.outcome) (shared_log (shared_begin 77 slots 1 3 queries equations uses calls) calls)
    ≡ Err (refusal 1) ∷ Err (refusal 42) ∷ Err (refusal 42) ∷ Err (refusal 1) ∷ Ok tt ∷ Err (refusal 5) ∷ Err (refusal 43) ∷ Ok tt ∷ Ok tt ∷ Err (refusal 8) ∷ Ok tt ∷ Err (refusal 8) ∷ Err (refusal 9)
    ∷ Err (refusal 43) ∷ Ok tt ∷ Ok tt ∷ Err (refusal 10) ∷ Ok tt ∷ Err (refusal 43) ∷ Ok tt ∷ []
unfolding ask first_of_two with_allocator_no front_asks front_no allocate_vars_no set_var_no set_vars_no add_permutation_no allocate_permutation_no add_equation_no times strays all_fit uses_after pair_no set_items set_vars_run ticket_line grams_to_steps read_line lines_of line_no set_tickets_run all_below answer after shared_answer shared_after
outcomes = refl

-- the relation's number, and first wires of one count for all
firsts : map (λ (e : SharedEntry). e.answered.first) (shared_log (shared_begin 77 slots 1 3 queries equations uses calls) calls)
    ≡ 0 ∷ 0 ∷ 0 ∷ 0 ∷ 1 ∷ 0 ∷ 0 ∷ 1 ∷ 0 ∷ 0 ∷ 3 ∷ 0 ∷ 0 ∷ 0 ∷ 5 ∷ 0 ∷ 0 ∷ 5 ∷ 0 ∷ 0 ∷ []
unfolding ask first_of_two with_allocator_no front_asks front_no allocate_vars_no set_var_no set_vars_no add_permutation_no allocate_permutation_no add_equation_no times strays all_fit uses_after pair_no set_items set_vars_run ticket_line grams_to_steps read_line lines_of line_no set_tickets_run all_below answer after shared_answer shared_after
firsts = refl

-- one count and one list of sets; queries of 2 and of 4 cells
ledger-is : shared_ledger 77 slots 1 3 queries equations uses calls
    ≡ record {
      count = 6;
      sets = pair 3 7 ∷ pair 2 5 ∷ pair 0 0 ∷ [];
      owns =
          record { width = 1; quota = 3; obtained = 3; queries = (1 ∷ 2 ∷ []) ∷ []; equations = equation (record { var = 3; weight = 2 } ∷ []) 14 ∷ [] }
          ∷ record { width = 2; quota = 2; obtained = 2; queries = (1 ∷ 2 ∷ 3 ∷ 4 ∷ []) ∷ []; equations = [] }
          ∷ [];
    }
unfolding ask first_of_two with_allocator_no front_asks front_no allocate_vars_no set_var_no set_vars_no add_permutation_no allocate_permutation_no add_equation_no times strays all_fit uses_after pair_no set_items set_vars_run ticket_line grams_to_steps read_line lines_of line_no set_tickets_run all_below answer after noted shared_answer shared_after shared_noted
ledger-is = refl

-- a ninth opening
ninth : map (λ (e : SharedEntry). e.answered.outcome) (shared_log (none_opened 0 slots 1 0 [] [] uses []) (replicate 9 (Open 1 0 [] [] uses)))
    ≡ Ok tt ∷ Ok tt ∷ Ok tt ∷ Ok tt ∷ Ok tt ∷ Ok tt ∷ Ok tt ∷ Ok tt ∷ Err (refusal 42) ∷ []
unfolding ask first_of_two with_allocator_no shared_answer shared_after
ninth = refl

-- ---- the theorem at relation 0
abbrev at-gate : SharedState
at-gate = shared_last 77 slots 1 3 queries equations uses calls

two-opened : at-gate.allocator.opened ≡ 2
unfolding ask first_of_two with_allocator_no front_asks front_no allocate_vars_no set_var_no set_vars_no add_permutation_no allocate_permutation_no add_equation_no times strays all_fit uses_after pair_no set_items set_vars_run ticket_line grams_to_steps read_line lines_of line_no set_tickets_run all_below answer after shared_answer shared_after
two-opened = refl

-- six wires, three publics, one query, one equation of four words
gate-0 : (gate_on at-gate 0 (own_at at-gate 0 (handed 1)) [] publics scratch).answer ≡ record { outcome = Ok tt; instance = instance_of (relation 1 6 1 1 4 0) 3 }
unfolding ask first_of_two with_allocator_no front_asks front_no allocate_vars_no set_var_no set_vars_no add_permutation_no allocate_permutation_no add_equation_no times strays all_fit uses_after pair_no set_items set_vars_run ticket_line grams_to_steps read_line lines_of line_no set_tickets_run all_below answer after shared_answer shared_after compiled_parts publics_of equation_at size_at equations_sound slots_sound follow is_utf8 compile_no compile validated_no gate_no compile_on_no compile_on
gate-0 = refl

gate-accepted : (gate_on at-gate 0 (own_at at-gate 0 (handed 1)) [] publics scratch).answer.outcome ≡ Ok tt
gate-accepted = ap (λ (c : Compiled). c.outcome) gate-0

-- between the gate and the write: relation 1 sets another wire, and a third is opened
abbrev going_on : List SharedCall
going_on = On 1 (handed 1) (Set (pair 1 9)) ∷ Open 3 0 [] [] uses ∷ []

abbrev lent_file : FileLent
lent_file = record { label = []; out = replicate 81 7; rooms = record { publics = 6; queries = 2; equations = 4; scratch = 6 } }

abbrev lent_trace : List ℕ → TraceLent
lent_trace trace = record { steps = 1; trace = trace; out = replicate 25 7; room = 2 }

-- one round, kind 0, constant p - 1, matrix 5
abbrev params : List ℕ
params = 0 ∷ 2013265920 ∷ 5 ∷ []

abbrev ledger-at : SharedLedger
ledger-at = shared_ledger 77 slots 1 3 queries equations uses calls

abbrev Sat0 : List (List ℕ) → Type 0
Sat0 trace = Sat (Evaluates 1 (parameters_of 1 1 params)) (judged_on ledger-at (own_ledger_at ledger-at 0)) trace

-- everybody's sets with relation 0's query and equation are satisfied by the trace (2, 5): the equation's wire has no value
-- but the one that relation 1 gave it
pub satisfied : Sat0 ((2 ∷ 5 ∷ []) ∷ [])
unfolding ask first_of_two with_allocator_no front_asks front_no allocate_vars_no set_var_no set_vars_no add_permutation_no allocate_permutation_no add_equation_no times strays all_fit uses_after pair_no set_items set_vars_run ticket_line grams_to_steps read_line lines_of line_no set_tickets_run all_below answer after shared_answer shared_after shared_noted noted compiled_parts publics_of equation_at size_at equations_sound slots_sound follow is_utf8 compile_no compile validated_no gate_no compile_on_no compile_on compile_publics_on compile_publics publics_sound parts_of check_no is_witness_valid_no is_evaluation permute_no sound_parameters rounds_of rows_of sound_kinds unit_constants unit_rows same_words run_rounds run_round pairwise on_kind times_matrix add_unit mul_unit power_unit seventh dot_units instance_to_bytes_no instance_bytes header_bytes u32_bytes instance_from_bytes read_instance read_file read_header read_magic read_label read_parts read_publics read_queries read_equations word part below witness_to_bytes_no witness_bytes witness_from_bytes read_witness read_steps
satisfied =
    (((((shared-whole 77 slots 1 3 queries equations uses calls first-accepted).judged 0 (omega (arith, two-opened)) (handed 1) going_on ((λ e. absurd (omega (arith, e))), (tt, tt))
    ).gated [] publics scratch gate-accepted).files lent_file
    ).checks refl refl (lent_trace (2 ∷ 5 ∷ 9 ∷ [])) refl refl 1 params refl 6 (omega arith) (omega arith)
    ).yes.0 refl

-- and not by (3, 640), whose check is 33: relation 1 set wire 2 to 5, and nothing else is against it
pub unsatisfied : Sat0 ((3 ∷ 640 ∷ []) ∷ []) → ⊥
unfolding ask first_of_two with_allocator_no front_asks front_no allocate_vars_no set_var_no set_vars_no add_permutation_no allocate_permutation_no add_equation_no times strays all_fit uses_after pair_no set_items set_vars_run ticket_line grams_to_steps read_line lines_of line_no set_tickets_run all_below answer after shared_answer shared_after shared_noted noted compiled_parts publics_of equation_at size_at equations_sound slots_sound follow is_utf8 compile_no compile validated_no gate_no compile_on_no compile_on compile_publics_on compile_publics publics_sound parts_of check_no is_witness_valid_no is_evaluation permute_no sound_parameters rounds_of rows_of sound_kinds unit_constants unit_rows same_words run_rounds run_round pairwise on_kind times_matrix add_unit mul_unit power_unit seventh dot_units instance_to_bytes_no instance_bytes header_bytes u32_bytes instance_from_bytes read_instance read_file read_header read_magic read_label read_parts read_publics read_queries read_equations word part below witness_to_bytes_no witness_bytes witness_from_bytes read_witness read_steps
unsatisfied s =
    let z : ◌≡◌ {A = ℕ} 33 0 = accepted-no 33
    ((((((shared-whole 77 slots 1 3 queries equations uses calls first-accepted).judged 0 (omega (arith, two-opened)) (handed 1) going_on ((λ e. absurd (omega (arith, e))), (tt, tt))
    ).gated [] publics scratch gate-accepted).files lent_file
    ).checks refl refl (lent_trace (3 ∷ 640 ∷ [])) refl refl 1 params refl 6 (omega arith) (omega arith)
    ).yes.1 s) in
    omega arith

-- ---- the theorem along a list, and at a number that isn't opened
abbrev taking : List SharedCall
taking = Open 2 2 [] [] uses ∷ On 0 (handed 1) (Allocate 2) ∷ On 1 (handed 1) (Allocate 2) ∷ []

abbrev begun : SharedState
begun = shared_begin 77 slots 1 3 queries equations uses taking

-- the second relation has number 1
pub numbered : (shared_answer begun (Open 2 2 [] [] uses)).first ≡ 1
unfolding ask first_of_two with_allocator_no shared_answer shared_after shared_noted
numbered = (shared-whole 77 slots 1 3 queries equations uses taking first-accepted).told.0.first refl

-- and its first wire comes after those of the first
pub allocated : (shared_answer (shared_final begun (Open 2 2 [] [] uses ∷ On 0 (handed 1) (Allocate 2) ∷ [])) (On 1 (handed 1) (Allocate 2))).first ≡ 3
unfolding ask first_of_two with_allocator_no front_asks front_no allocate_vars_no answer after noted shared_answer shared_after shared_noted
allocated = (shared-whole 77 slots 1 3 queries equations uses taking first-accepted).told.1.1.0.first refl refl

-- the wires of both and wire 0
pub counted : (shared_last 77 slots 1 3 queries equations uses taking).allocator.vars ≡ 5
unfolding ask first_of_two with_allocator_no front_asks front_no allocate_vars_no answer after shared_answer shared_after
counted = (shared-whole 77 slots 1 3 queries equations uses taking first-accepted).counts.vars

-- the gate of a third
pub not-opened-42 : (gate_on at-gate 2 (handed 1) [] publics scratch).answer.outcome ≡ Err (refusal 42)
unfolding ask first_of_two with_allocator_no front_asks front_no allocate_vars_no set_var_no set_vars_no add_permutation_no allocate_permutation_no add_equation_no times strays all_fit uses_after pair_no set_items set_vars_run ticket_line grams_to_steps read_line lines_of line_no set_tickets_run all_below answer after noted shared_answer shared_after shared_noted
not-opened-42 =
    ((shared-whole 77 slots 1 3 queries equations uses calls first-accepted).not_opened 2 (omega (arith, two-opened)) (handed 1) [] publics scratch).number refl

-- ---- how many sets are accepted, and how many of those fresh: what one relation set is repeated for the other; the list stops at
-- its third pair with 8, the tickets at what is cut off with 40, and relation 2 isn't opened
abbrev setting : List SharedCall
setting =
    Open 2 2 [] [] uses
    ∷ On 0 (handed 1) (Allocate 3)
    ∷ On 0 (handed 1) (Set (pair 1 1))
    ∷ On 1 (handed 1) (Set (pair 1 1))
    ∷ On 1 (handed 1) (SetList (1 ∷ 2 ∷ 2 ∷ []) (1 ∷ 7 ∷ 8 ∷ []))
    ∷ On 0 (handed 1) (Tickets (line 2 350 ++ (line 3 50 ++ (32 ∷ []))))
    ∷ On 1 (handed 1) (Tickets (line 3 50))
    ∷ On 2 (handed 1) (Tickets (line 3 50))
    ∷ []

pub tallied : map (λ (e : SharedEntry). tally e.answered) (shared_log (shared_begin 77 slots 1 3 queries equations uses setting) setting)
    ≡ (0, 0) ∷ (0, 0) ∷ (1, 1) ∷ (1, 0) ∷ (2, 1) ∷ (2, 1) ∷ (1, 0) ∷ (0, 0) ∷ []
unfolding ask first_of_two with_allocator_no front_asks front_no allocate_vars_no set_var_no set_vars_no pair_no set_items set_vars_run ticket_line grams_to_steps read_line lines_of line_no set_tickets_run answer after noted shared_answer shared_after shared_noted shared_set_by set_by
tallied = shared-tallied _ _ setting (shared-whole 77 slots 1 3 queries equations uses setting first-accepted).told
