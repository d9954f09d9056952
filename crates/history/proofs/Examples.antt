-- Instance A of document 01 through fresh, a list of calls (some refused) on stores that hold anything, the gate,
-- both byte forms and the check, to its yes and to a no: the theorem is not empty. Then the theorem along a list: first
-- wires, and how many sets are fresh. Then 01's starred examples, by the definitions that the open functions' contracts
-- cite. Assumes nothing.
use Prim.Native.Nat.{ℕ}
use mathlib.Core.Path.{◌≡◌, refl, ap}
use mathlib.Core.List.{List, [], ◌∷◌, ◌++◌, map}
use native.Mathlib.Omega.{arith}
use lib.ListN.{length, replicate}
use Rattle.std.specs.Prelude.{Err, Ok}
use Rattle.limits.specs.Outcome.{Outcome, refusal}
use Rattle.limits.specs.Numbers.{unassigned}
use Rattle.limits.specs.Questions.{ask, first_of_two}
use Rattle.words.specs.Store.{all_below}
use Rattle.uses.specs.Uses.{times, strays, uses_after, all_fit}
use Rattle.utf8.specs.Utf8.{follow, is_utf8}
use Rattle.baby_bear.specs.Field.{add_unit, mul_unit, power_unit, seventh, dot_units}
use Rattle.allocator.specs.Slots.{pair, pair_no, set_items}
use Rattle.expr.specs.Equation.{Term, equation, equation_at, size_at}
use Rattle.expr.specs.declared.Weighted.{Weighted}
use Rattle.permutation.specs.Numbers.{new_relation_no, allocate_vars_no, set_var_no, set_vars_no}
use Rattle.recording.specs.Numbers.{add_permutation_no, allocate_permutation_no, add_equation_no}
use Rattle.permutation.specs.Answers.{relation, new_relation, set_vars_run}
use Rattle.ticket.specs.Form.{ticket_line, read_line}
use Rattle.ticket.specs.Steps.{grams_to_steps}
use Rattle.tickets.specs.Lines.{lines_of, line_no}
use Rattle.tickets.specs.Tickets.{set_tickets_run}
use Rattle.permute.specs.Permute.{pairwise, on_kind, times_matrix, run_round, run_rounds, permute}
use Rattle.permute.specs.Parameters.{rounds_of, rows_of, parameters_of, sound_kinds, unit_constants, unit_rows, sound_parameters, permute_no, same_words, is_evaluation}
use Rattle.instance.specs.Parts.{parts_of}
use Rattle.held.specs.Held.{equations_sound, publics_sound, slots_sound}
use Rattle.validated.specs.Validated.{validated_no, gate_no}
use Rattle.instance.specs.declared.PermutationInstance.{PermutationInstance}
use Rattle.compile.specs.Gate.{GateLent, gate_lent, publics_of, compiled_parts, instance_of, compile_no, compile, compile_publics}
use Rattle.compile.specs.Records.{Compiled}
use Rattle.validity.specs.Check.{check_no}
use Rattle.validity.specs.Valid.{is_witness_valid_no, is_witness_valid}
use Rattle.narg.specs.Bytes.{u32_bytes}
use Rattle.narg.specs.Reader.{Got, word, part, below}
use Rattle.header.specs.Form.{header_bytes}
use Rattle.encoding.specs.Form.{instance_bytes, witness_bytes}
use Rattle.header.specs.Read.{read_magic, read_header}
use Rattle.decoding.specs.Read.{strict_rule, File, read_label, read_publics, read_queries, read_equations, read_parts, read_instance, read_file, read_steps, read_witness}
use Rattle.encoding.specs.Answers.{instance_to_bytes_no, witness_to_bytes_no}
use Rattle.decoding.specs.Answers.{instance_from_bytes, instance_answer, witness_from_bytes}
use Rattle.roundtrip.proofs.Examples.{outcomes as reads, examples as on-bytes}
use Rattle.permutation.proofs.Examples.{Examples, examples}
use Rattle.history.specs.Sat.{Sat, Evaluates}
use Rattle.history.specs.Calls.{Call, Allocate, Set, SetList, Record, Mint, Equate, Tickets, Entry, answer, after, noted, ledger, log}
use Rattle.history.specs.Left.{set_by}
use Rattle.history.specs.Whole.{FileLent, TraceLent, instance_bytes_made, compiled, publics_made, begin, last, last_ledger}
use Rattle.history.proofs.Outcomes.{accepted-no}
use Rattle.history.proofs.Fresh.{tally, all-tallied}
use Rattle.history.proofs.Theorem.{whole}

abbrev term : ℕ → ℕ → Term
term x k = record { var = x; weight = k }

abbrev weighted : ℕ → ℕ → Weighted
weighted x k = record { var = record { 0 = x }; weight = record { 0 = k } }

-- one round, kind 0, constant p - 1, matrix 5
abbrev params : List ℕ
params = 0 ∷ 2013265920 ∷ 5 ∷ []

abbrev slots : List ℕ
slots = 77 ∷ 78 ∷ 79 ∷ 80 ∷ 81 ∷ 82 ∷ 83 ∷ 84 ∷ []

abbrev queries : List ℕ
queries = 9 ∷ 9 ∷ 9 ∷ []

abbrev equations : List ℕ
equations = 9 ∷ 9 ∷ 9 ∷ 9 ∷ 9 ∷ []

abbrev uses : List ℕ
uses = 3 ∷ 3 ∷ 3 ∷ 3 ∷ 3 ∷ 3 ∷ 3 ∷ 3 ∷ []

abbrev publics : List ℕ
publics = 6 ∷ 6 ∷ 6 ∷ 6 ∷ []

abbrev scratch : List ℕ
scratch = 6 ∷ 6 ∷ 6 ∷ []

-- a ticket's line
abbrev line : (wire grams : ℕ) → List ℕ
line wire grams = ticket_line (record { wire = wire; grams = grams })

-- the tickets of wire 2 with 249 g and of wire 7 with 250 g, and the first bytes of one more
abbrev text : List ℕ
text = line 2 249 ++ (line 7 250 ++ (32 ∷ 32 ∷ []))

abbrev calls : List Call
calls =
    Allocate 2
    ∷ Set (pair 0 5)
    ∷ Tickets text
    ∷ Tickets (line 0 24)
    ∷ SetList (0 ∷ 7 ∷ []) (0 ∷ 5 ∷ [])
    ∷ SetList (2 ∷ []) []
    ∷ Record (1 ∷ []) (2 ∷ [])
    ∷ Equate (weighted 1 3 ∷ []) 6
    ∷ Mint (1 ∷ [])
    ∷ Allocate 1073741824
    ∷ Allocate 1073741821
    ∷ []

fresh-accepted : (new_relation 1 slots uses).outcome ≡ Ok tt
unfolding ask first_of_two new_relation_no
fresh-accepted = refl

-- 0 to 5 is refused with 8, the first tickets and the list stop at wire 7 with 7, unequal lengths give 9, the mint lacks room (10)
outcomes : map (λ (e : Entry). e.answered.outcome) (log (begin 1 slots queries equations uses calls) calls)
    ≡ Ok tt ∷ Err (refusal 8) ∷ Err (refusal 7) ∷ Ok tt ∷ Err (refusal 7) ∷ Err (refusal 9) ∷ Ok tt ∷ Ok tt ∷ Err (refusal 10) ∷ Err (refusal 5) ∷ Err (refusal 6) ∷ []
unfolding ask first_of_two new_relation_no allocate_vars_no set_var_no set_vars_no add_permutation_no allocate_permutation_no add_equation_no times strays all_fit uses_after pair_no set_items set_vars_run ticket_line grams_to_steps read_line lines_of line_no set_tickets_run all_below answer after
outcomes = refl

-- the ledger: three wires, wire 2 set to 5 by the first line of the refused tickets, wire 0 to 0 again by the accepted ones and by the
-- list, the query 1 to 2, the equation 3 · wire 1 = 6
ledger-is : last_ledger 1 slots queries equations uses calls
    ≡ ledger 3 (pair 0 0 ∷ pair 0 0 ∷ pair 2 5 ∷ pair 0 0 ∷ []) ((1 ∷ 2 ∷ []) ∷ []) (equation (term 1 3 ∷ []) 6 ∷ [])
unfolding ask first_of_two new_relation_no allocate_vars_no set_var_no set_vars_no add_permutation_no allocate_permutation_no add_equation_no times strays all_fit uses_after pair_no set_items set_vars_run ticket_line grams_to_steps read_line lines_of line_no set_tickets_run all_below answer after noted
ledger-is = refl

-- two publics, one query, one equation of four words
abbrev instance_a : PermutationInstance
instance_a = instance_of (relation 1 3 1 1 4 0) 2

gate-A : compiled (last 1 slots queries equations uses calls) [] publics scratch ≡ record { outcome = Ok tt; instance = instance_a }
unfolding ask first_of_two new_relation_no allocate_vars_no set_var_no set_vars_no add_permutation_no allocate_permutation_no add_equation_no times strays all_fit uses_after pair_no set_items set_vars_run ticket_line grams_to_steps read_line lines_of line_no set_tickets_run all_below answer after compiled_parts publics_of equation_at size_at equations_sound slots_sound follow is_utf8 compile_no compile validated_no gate_no
gate-A = refl

gate-accepted : (compiled (last 1 slots queries equations uses calls) [] publics scratch).outcome ≡ Ok tt
gate-accepted = ap (λ (c : Compiled). c.outcome) gate-A

-- ---- the theorem at A, through both byte forms into outputs of exactly 73 and 25 bytes
abbrev lent_file : FileLent
lent_file = record { label = []; out = replicate 73 7; rooms = record { publics = 4; queries = 2; equations = 4; scratch = 3 } }

abbrev lent_trace : List ℕ → TraceLent
lent_trace trace = record { steps = 1; trace = trace; out = replicate 25 7; room = 2 }

abbrev SatA : List (List ℕ) → Type 0
SatA trace = Sat (Evaluates 1 (parameters_of 1 1 params)) (last_ledger 1 slots queries equations uses calls) trace

-- the ledger of those calls is satisfied by the trace (2, 5)
pub satisfied : SatA ((2 ∷ 5 ∷ []) ∷ [])
unfolding ask first_of_two new_relation_no allocate_vars_no set_var_no set_vars_no add_permutation_no allocate_permutation_no add_equation_no times strays all_fit uses_after pair_no set_items set_vars_run ticket_line grams_to_steps read_line lines_of line_no set_tickets_run all_below answer after compiled_parts publics_of equation_at size_at equations_sound slots_sound follow is_utf8 compile_no compile validated_no gate_no compile_publics publics_sound parts_of check_no is_witness_valid_no is_evaluation permute_no sound_parameters rounds_of rows_of sound_kinds unit_constants unit_rows same_words run_rounds run_round pairwise on_kind times_matrix add_unit mul_unit power_unit seventh dot_units instance_to_bytes_no instance_bytes header_bytes u32_bytes instance_from_bytes read_instance read_file read_header read_magic read_label read_parts read_publics read_queries read_equations word part below witness_to_bytes_no witness_bytes witness_from_bytes read_witness read_steps
satisfied =
    ((((whole 1 slots queries equations uses fresh-accepted calls).judged.gated [] publics scratch gate-accepted).files lent_file
    ).checks refl refl (lent_trace (2 ∷ 5 ∷ 9 ∷ [])) refl refl 1 params refl 3 (omega arith) (omega arith)
    ).yes.0 refl

-- the strict read accepts those bytes too, and where a store is a word short it answers 10, as the plain one does
abbrev bytes_a : FileLent → List ℕ
bytes_a f =
    let s = last 1 slots queries equations uses calls in
    instance_bytes_made 1 s.queries s.equations instance_a (publics_made s [] publics scratch) f

abbrev short_file : FileLent
short_file = record { label = []; out = replicate 73 7; rooms = record { publics = 3; queries = 2; equations = 4; scratch = 3 } }

abbrev strict_outcome : FileLent → Outcome
strict_outcome f = (instance_answer 1 (instance_from_bytes strict_rule 1 (bytes_a f) f.rooms)).outcome

pub strict-A : (strict_outcome lent_file ≡ Ok tt) × (strict_outcome short_file ≡ Err (refusal 10))
unfolding ask first_of_two new_relation_no allocate_vars_no set_var_no set_vars_no add_permutation_no allocate_permutation_no add_equation_no times strays all_fit uses_after pair_no set_items set_vars_run ticket_line grams_to_steps read_line lines_of line_no set_tickets_run all_below answer after compiled_parts publics_of equation_at size_at equations_sound slots_sound follow is_utf8 compile_no compile validated_no gate_no compile_publics publics_sound parts_of check_no is_witness_valid_no is_evaluation permute_no sound_parameters rounds_of rows_of sound_kinds unit_constants unit_rows same_words run_rounds run_round pairwise on_kind times_matrix add_unit mul_unit power_unit seventh dot_units instance_to_bytes_no instance_bytes header_bytes u32_bytes instance_from_bytes read_instance read_file read_header read_magic read_label read_parts read_publics read_queries read_equations word part below
strict-A =
    let filed = ((whole 1 slots queries equations uses fresh-accepted calls).judged.gated [] publics scratch gate-accepted).files in
    let outcome : Got File → Outcome = λ g. (instance_answer 1 g).outcome in
    (ap outcome ((filed lent_file).strictly refl), ap outcome ((filed short_file).strictly refl))

-- with no bytes between too
pub satisfied-held : SatA ((2 ∷ 5 ∷ []) ∷ [])
unfolding ask first_of_two new_relation_no allocate_vars_no set_var_no set_vars_no add_permutation_no allocate_permutation_no add_equation_no times strays all_fit uses_after pair_no set_items set_vars_run ticket_line grams_to_steps read_line lines_of line_no set_tickets_run all_below answer after compiled_parts publics_of equation_at size_at equations_sound slots_sound follow is_utf8 compile_no compile validated_no gate_no compile_publics publics_sound parts_of check_no is_witness_valid_no is_evaluation permute_no sound_parameters rounds_of rows_of sound_kinds unit_constants unit_rows same_words run_rounds run_round pairwise on_kind times_matrix add_unit mul_unit power_unit seventh dot_units
satisfied-held =
    (((whole 1 slots queries equations uses fresh-accepted calls).judged.gated [] publics scratch gate-accepted
    ).checks 1 (2 ∷ 5 ∷ 9 ∷ []) (record { size = omega arith; room = omega arith; units = refl }) 1 params refl 3 (omega arith) (omega arith)
    ).yes.0 refl

-- and not by (3, 640), whose check is 33: no assignment gives wire 2 both 5 and 640
pub unsatisfied : SatA ((3 ∷ 640 ∷ []) ∷ []) → ⊥
unfolding ask first_of_two new_relation_no allocate_vars_no set_var_no set_vars_no add_permutation_no allocate_permutation_no add_equation_no times strays all_fit uses_after pair_no set_items set_vars_run ticket_line grams_to_steps read_line lines_of line_no set_tickets_run all_below answer after compiled_parts publics_of equation_at size_at equations_sound slots_sound follow is_utf8 compile_no compile validated_no gate_no compile_publics publics_sound parts_of check_no is_witness_valid_no is_evaluation permute_no sound_parameters rounds_of rows_of sound_kinds unit_constants unit_rows same_words run_rounds run_round pairwise on_kind times_matrix add_unit mul_unit power_unit seventh dot_units instance_to_bytes_no instance_bytes header_bytes u32_bytes instance_from_bytes read_instance read_file read_header read_magic read_label read_parts read_publics read_queries read_equations word part below witness_to_bytes_no witness_bytes witness_from_bytes read_witness read_steps
unsatisfied s =
    let z : ◌≡◌ {A = ℕ} 33 0 = accepted-no 33
    (((((whole 1 slots queries equations uses fresh-accepted calls).judged.gated [] publics scratch gate-accepted).files lent_file
    ).checks refl refl (lent_trace (3 ∷ 640 ∷ [])) refl refl 1 params refl 3 (omega arith) (omega arith)
    ).yes.1 s) in
    omega arith

-- ---- an accepted allocate and an accepted mint answer the ledger's count as it was before
abbrev taking : List Call
taking = Allocate 2 ∷ Mint (0 ∷ []) ∷ []

pub allocated : (answer (begin 1 slots queries equations uses taking) (Allocate 2)).first ≡ 1
unfolding ask first_of_two new_relation_no allocate_vars_no set_var_no set_vars_no add_permutation_no allocate_permutation_no add_equation_no times strays all_fit uses_after pair_no set_items set_vars_run ticket_line grams_to_steps read_line lines_of line_no set_tickets_run all_below answer after
allocated = (whole 1 slots queries equations uses fresh-accepted taking).told.0.first refl refl

pub minted : (answer (after (begin 1 slots queries equations uses taking) (Allocate 2)) (Mint (0 ∷ []))).first ≡ 3
unfolding ask first_of_two new_relation_no allocate_vars_no set_var_no set_vars_no add_permutation_no allocate_permutation_no add_equation_no times strays all_fit uses_after pair_no set_items set_vars_run ticket_line grams_to_steps read_line lines_of line_no set_tickets_run all_below answer after noted
minted = (whole 1 slots queries equations uses fresh-accepted taking).told.1.0.first refl refl

-- ---- how many sets are accepted, and how many of those fresh, by every kind of call: a wire named twice is fresh once, wire 0
-- never; the second list stops at its third pair with 8, the second set gets 8, the third list 9, the first tickets 40 at what is cut off
abbrev setting : List Call
setting =
    Allocate 5
    ∷ SetList (1 ∷ 1 ∷ 0 ∷ 2 ∷ []) (7 ∷ 7 ∷ 0 ∷ 9 ∷ [])
    ∷ SetList (2 ∷ 3 ∷ 1 ∷ 3 ∷ []) (9 ∷ 5 ∷ 8 ∷ 5 ∷ [])
    ∷ Set (pair 3 5)
    ∷ Set (pair 3 6)
    ∷ SetList (4 ∷ 5 ∷ []) (1 ∷ [])
    ∷ Tickets (line 4 50 ++ (line 5 50 ++ (line 5 49 ++ (32 ∷ []))))
    ∷ Tickets (line 5 51)
    ∷ Record (1 ∷ []) (2 ∷ [])
    ∷ Equate (weighted 1 3 ∷ []) 6
    ∷ Mint (1 ∷ [])
    ∷ []

pub tallied : map (λ (e : Entry). tally e.answered) (log (begin 1 slots queries equations uses setting) setting)
    ≡ (0, 0) ∷ (4, 2) ∷ (2, 1) ∷ (1, 0) ∷ (0, 0) ∷ (1, 1) ∷ (3, 1) ∷ (1, 0) ∷ (0, 0) ∷ (0, 0) ∷ (0, 0) ∷ []
unfolding ask first_of_two new_relation_no allocate_vars_no set_var_no set_vars_no add_permutation_no allocate_permutation_no add_equation_no times strays all_fit uses_after pair_no set_items set_vars_run ticket_line grams_to_steps read_line lines_of line_no set_tickets_run all_below answer after noted set_by
tallied = all-tallied 1 _ _ setting (whole 1 slots queries equations uses fresh-accepted setting).told

-- ---- document 01's starred examples, all of them, as one fact of the definitions
-- the gate on wire 0 with 0, another wire of no value, and the equation of that wire with weight k and image 0
abbrev loose_slots : List ℕ
loose_slots = 0 ∷ unassigned ∷ []

abbrev loose_equations : ℕ → List ℕ
loose_equations k = 1 ∷ 1 ∷ k ∷ 0 ∷ []

abbrev loose_lent : ℕ → GateLent
loose_lent k = gate_lent (relation 1 2 0 1 4 0) [] loose_slots [] (loose_equations k) (0 ∷ 0 ∷ []) (length publics) (length scratch)

abbrev loose : ℕ → Compiled
loose k = compile (loose_lent k)

abbrev loose_publics : ℕ → List ℕ
loose_publics k = compile_publics (loose_lent k)

-- the check without a label, under those parameters
abbrev check : PermutationInstance → (publics queries equations : List ℕ) → (steps : ℕ) (trace : List ℕ) → Outcome
check ins publics queries equations steps trace = is_witness_valid ins [] publics queries equations steps trace 1 params 3

-- of A
abbrev check_a : (steps : ℕ) (trace : List ℕ) → Outcome
check_a steps trace = check instance_a (0 ∷ 0 ∷ 2 ∷ 5 ∷ []) (1 ∷ 2 ∷ []) (1 ∷ 1 ∷ 3 ∷ 6 ∷ []) steps trace

-- of an equation without terms
abbrev termless : ℕ → Outcome
termless image = check (instance_of (relation 1 1 0 1 2 0) 1) (0 ∷ 0 ∷ []) [] (0 ∷ image ∷ []) 0 []

pub record Starred : Type 0 where
  -- 2013265920 + 1 and × itself; wire 0 set to 0 and to 5; one wire, 8 slots: allocate 2^30 and 2^30 − 1
  pub calls_are : Examples
  -- weight 0 on an allocated unbound wire: gate yes, check 34; weight 1: 15
  pub weightless : ((loose 0).outcome ≡ Ok tt)
      × (check (loose 0).instance (loose_publics 0) [] (loose_equations 0) 0 [] ≡ Err (refusal 34))
      × ((loose 1).outcome ≡ Err (refusal 15))
  -- no terms, image 0: holds; image 1: 35
  pub without-terms : (termless 0 ≡ Ok tt) × (termless 1 ≡ Err (refusal 35))
  -- A's 72 bytes, one more byte, equal publics and one more byte; labels C0 80, ED A0 80 and F4 8F BF BF, when read
  pub labels : reads ≡ 20 ∷ 28 ∷ 27 ∷ 25 ∷ 25 ∷ 0 ∷ []
  -- w = 1, one round, kind 0, constant 2013265920, matrix 5: 2 gives 5, 3 gives 640
  pub turned : (permute (parameters_of 1 1 params) (2 ∷ []) ≡ 5 ∷ []) × (permute (parameters_of 1 1 params) (3 ∷ []) ≡ 640 ∷ [])
  -- instance A under it: trace (2,5) yes; none 31; (2,6) 32; (3,640) 33
  pub A-is : (check_a 1 (2 ∷ 5 ∷ []) ≡ Ok tt) × (check_a 0 [] ≡ Err (refusal 31))
      × (check_a 1 (2 ∷ 6 ∷ []) ≡ Err (refusal 32)) × (check_a 1 (3 ∷ 640 ∷ []) ≡ Err (refusal 33))

pub starred : Starred
unfolding ask first_of_two all_below compiled_parts publics_of equation_at size_at equations_sound slots_sound follow is_utf8 compile_no compile validated_no gate_no compile_publics publics_sound parts_of check_no is_witness_valid_no is_evaluation permute_no sound_parameters rounds_of rows_of sound_kinds unit_constants unit_rows same_words run_rounds run_round pairwise on_kind times_matrix add_unit mul_unit power_unit seventh dot_units
starred =
    record {
      calls_are = examples;
      weightless = (refl, refl, refl);
      without-terms = (refl, refl);
      labels = on-bytes.2;
      turned = (refl, refl);
      A-is = (refl, refl, refl, refl);
    }

-- 36 comes of parts that no gate has seen
no-36 : check (instance_of (relation 1 1 0 0 0 0) 1) (1 ∷ 0 ∷ []) [] [] 0 [] ≡ Err (refusal 36)
unfolding ask first_of_two all_below compiled_parts publics_of equation_at size_at equations_sound slots_sound follow is_utf8 compile_no compile validated_no gate_no compile_publics publics_sound parts_of check_no is_witness_valid_no is_evaluation permute_no sound_parameters rounds_of rows_of sound_kinds unit_constants unit_rows same_words run_rounds run_round pairwise on_kind times_matrix add_unit mul_unit power_unit seventh dot_units
no-36 = refl
