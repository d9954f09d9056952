-- The check of stores that hold what an accepted gate made: no question before 31 says no, so its number is
-- that of the check on the ledger's parts. Assumes nothing.
use Prim.Native.Nat.{ℕ, zero, suc, ◌+◌, ◌*◌, ◌≤◌, ◌<◌}
use mathlib.Core.Path.{◌≡◌, sym, ◌∙◌, subst}
use mathlib.Core.Bool.{true}
use mathlib.Core.List.{List, [], ◌∷◌}
use native.Mathlib.Omega.{arith}
use borrow.Author.Tests.{lt-ltb}
use lib.ListN.{length, take, drop, length-drop}
use lib.Seq.{length-take-le}
use Rattle.limits.specs.Numbers.{prime, max_count, label_end}
use Rattle.limits.specs.Questions.{first_no}
use Rattle.limits.proofs.Questions.{goes_on}
use Rattle.words.specs.Store.{All}
use Rattle.words.specs.Pieces.{pieces, words_of}
use Rattle.utf8.specs.Utf8.{is_utf8}
use Rattle.permutation.specs.declared.PermutationRelation.{PermutationRelation}
use Rattle.limits.specs.Outcome.{outcome_of}
use Rattle.permute.specs.Parameters.{parameters_of, sound_parameters, is_evaluation}
use Rattle.instance.specs.Parts.{Parts, parts_of}
use Rattle.held.proofs.Facts.{all_below-facts}
use Rattle.validated.proofs.Facts.{Valid}
use Rattle.compile.specs.Gate.{compile_no}
use Rattle.validity.specs.Check.{check_no}
use Rattle.validity.specs.Valid.{steps_of, is_witness_valid_asks, is_witness_valid_no, is_witness_valid}
use Rattle.history.specs.Ledger.{Ledger}
use Rattle.history.specs.Sat.{Evaluates}
use Rattle.history.specs.Calls.{State}
use Rattle.history.specs.Demand.{Checked}
use Rattle.history.specs.Whole.{lent_to_gate, TraceHeld, Checks}
use Rattle.history.proofs.Outcomes.{past-yes, past_fits, past-width}
use Rattle.history.proofs.Bridge.{ledger_parts}
use Rattle.history.proofs.Judged.{checked-by}
use Rattle.history.proofs.Evaluations.{few_words, evaluations-are}
use Rattle.history.proofs.Keeps.{Agrees}
use Rattle.history.proofs.Made.{ps, ins, HoldsWords, Sized, parts_held, sizes-yes, sound-yes, made, compiles, parts-valid, gate-holds, gate-sized}
use Rattle.history.proofs.Shapes.{IsTrace}

-- ---- the steps of a trace
pieces-lengths : (k n : ℕ) (l : List ℕ) → n * k ≤ length l → All (λ s. length s ≡ k) (pieces k n l)
pieces-lengths k zero l h = tt
pieces-lengths k (suc n) l h =
    let z : k + n * k ≤ length l = omega arith in
    (length-take-le k l (omega arith), pieces-lengths k n (drop k l) (simp length-drop (omega arith)))

all_take : (P : ℕ → Type 0) (k : ℕ) (l : List ℕ) → All P l → All P (take k l)
all_take P zero l a = tt
all_take P (suc k) [] a = tt
all_take P (suc k) (x ∷ l) a = (a.0, all_take P k l a.1)

all_drop : (P : ℕ → Type 0) (k : ℕ) (l : List ℕ) → All P l → All P (drop k l)
all_drop P zero l a = a
all_drop P (suc k) [] a = tt
all_drop P (suc k) (x ∷ l) a = all_drop P k l a.1

pieces-all : (P : ℕ → Type 0) (k n : ℕ) (l : List ℕ) → All P l → All (λ s. All P s) (pieces k n l)
pieces-all P k zero l a = tt
pieces-all P k (suc n) l a = (all_take P k l a, pieces-all P k n (drop k l) (all_drop P k l a))

pub steps-lengths : (w steps : ℕ) (trace : List ℕ) → words_of w steps ≤ length trace → All (λ s. length s ≡ w + w) (steps_of w steps trace)
steps-lengths w steps trace h =
    pieces-lengths (w + w) steps (take (words_of w steps) trace) (let e = length-take-le (words_of w steps) trace h in omega arith)

pub is-trace : (w steps : ℕ) (trace : List ℕ) → TraceHeld w steps trace → IsTrace w (steps_of w steps trace)
is-trace w steps trace t = record {
  lengths = steps-lengths w steps trace t.room;
  units = pieces-all _ (w + w) steps _ (all_below-facts prime (take (words_of w steps) trace) t.units);
}

-- ---- the check
module _ (s : State) (l : Ledger) (i : Agrees s.relation.width s l)
    (valid : Valid (ledger_parts l s.relation.vars (ps s l i)))
    (label : List ℕ) (label-size : length label < label_end) (label-utf8 : is_utf8 label ≡ true)
    (publics queries equations : List ℕ) (holds : HoldsWords s l i publics queries equations) (sized : Sized s l i publics queries equations)
    (steps : ℕ) (trace : List ℕ) (held : TraceHeld s.relation.width steps trace)
    (rounds : ℕ) (params : List ℕ) (sound : sound_parameters s.relation.width rounds params ≡ true)
    (scratch : ℕ) (room : s.relation.vars ≤ scratch) (size : scratch ≤ max_count) where
  abbrev rel : PermutationRelation
  rel = s.relation

  abbrev w : ℕ
  w = rel.width

  -- 1 to 17 say yes
  questions-yes : first_no (is_witness_valid_asks (ins s l i) label publics queries equations steps trace rounds params scratch) ≡ 0
  questions-yes =
      past-width w _ i.least i.most
      ∙ sizes-yes s l i publics queries equations holds sized _
      ∙ past_fits 2 _ _ _ held.size
      ∙ past_fits 2 _ _ _ (few_words w rounds params i.least i.most sound)
      ∙ past_fits 2 _ _ _ size
      ∙ past-yes 2 _ _ (lt-ltb (length label) label_end label-size)
      ∙ past_fits 2 _ _ _ held.room
      ∙ past-yes 17 _ _ sound
      ∙ sound-yes s l i publics queries equations holds _
      ∙ past-yes 11 _ _ label-utf8
      ∙ past-yes 11 _ _ held.units
      ∙ past_fits 16 _ _ _ room

  abbrev Evaluation : List ℕ → Type 0
  Evaluation = Evaluates w (parameters_of w rounds params)

  pub checks-are : Checked Evaluation l (parts_of (ins s l i) publics queries equations) (steps_of w steps trace)
      (is_witness_valid (ins s l i) label publics queries equations steps trace rounds params scratch)
  unfolding is_witness_valid_no
  checks-are =
      let tr = is-trace w steps trace held in
      let ev = is_evaluation w rounds params in
      subst (λ (n : ℕ). Checked Evaluation l (parts_of (ins s l i) publics queries equations) (steps_of w steps trace) (outcome_of n))
      (sym (goes_on _ _ questions-yes))
      (subst (λ (p : Parts). Checked Evaluation l p (steps_of w steps trace) (outcome_of (check_no ev p (steps_of w steps trace))))
      (sym (parts_held s l i publics queries equations holds))
      (checked-by w l rel.vars s.slots i.in_slots i.in_queries.widths valid ev (steps_of w steps trace) tr
      Evaluation (evaluations-are w rounds params i.least i.most sound (steps_of w steps trace) tr)))

-- ---- after a gate that accepted, with no bytes between
module _ (s : State) (l : Ledger) (i : Agrees s.relation.width s l) (label publics scratch : List ℕ)
    (gate : compile_no (lent_to_gate s label publics scratch) ≡ 0) where
  pub held-checks : (steps : ℕ) (trace : List ℕ) → TraceHeld s.relation.width steps trace
      → Checks s.relation.width l (ins s l i) label (made s l i label publics scratch gate) s.queries s.equations steps trace
  held-checks steps trace =
      let c = compiles s l i label publics scratch gate in
      checks-are s l i (parts-valid s l i label publics scratch gate) label c.label-high c.label-sound
      _ s.queries s.equations (gate-holds s l i label publics scratch gate) (gate-sized s l i label publics scratch gate) steps trace
