-- The number of an evaluated step, as the code finds it: the questions before the parameters; then, where the
-- trace is full, 17 and 10; and where it has room, what the evaluation answers, which can only be 17.
-- Assumes nothing.
use Prim.Native.Nat.{ℕ, ◌+◌, ◌≤◌}
use mathlib.Core.Path.{◌≡◌, sym, ap, ◌∙◌}
use mathlib.Core.Bool.{Bool, true}
use mathlib.Core.List.{List, ◌∷◌}
use borrow.Author.Tests.{le-leb, leb-true, eq-eqb}
use Rattle.std.specs.Prelude.{Err}
use Rattle.limits.specs.Outcome.{Outcome, outcome_of, as_is}
use lib.ListN.{length}
use Rattle.limits.specs.Questions.{ask, ◌▸◌, question, first_no, on_yes}
use Rattle.limits.specs.declared.Refused.{Refused}
use Rattle.limits.proofs.Answered.{outcome-refused, stays_by, store-refused}
use Rattle.limits.proofs.Questions.{ask-yes, stays, goes_on, both, zero-▸, ▸-zero, first_no-append, puts, puts-yes}
use Rattle.words.specs.Pieces.{words_of}
use Rattle.permute.specs.Parameters.{sound_parameters, permute_no}
use Rattle.witness.specs.Trace.{input_asks, step_room, input_no, evaluate_step_no, one_step, trace_with, evaluated_step, traced, EvaluatesStep}
use Rattle.witness.specs.declared.PermutationWitness.{PermutationWitness}
use Rattle.witness.proofs.Accepted.{input-yes}

-- a question that says yes is passed
past : (k : ℕ) (b : Bool) (n m : ℕ) → b ≡ true → n ≡ m → ask k b ▸ n ≡ m
past k b n m e f = goes_on (ask k b) n (ask-yes k b e) ∙ f

-- where the room is asked for first: there is some, or the call is refused whatever is asked in between
module _ (wit : PermutationWitness) (len k : ℕ) (e : k ≡ 0 ▸ first_no (step_room wit len)) where
  asked-10 : first_no (step_room wit len) ≡ k
  asked-10 = sym (e ∙ zero-▸ _)

  pub room-asked : k ≡ 0 → words_of wit.width (wit.steps + 1) ≤ len
  room-asked z = leb-true _ _ (puts-yes (step_room wit len) (asked-10 ∙ z) 10 _ tt (search puts))

  pub full-refused : (k ≡ 0 → ⊥) → (n m : ℕ) → m ≡ n ▸ first_no (step_room wit len) → m ≡ 0 → ⊥
  full-refused h n m f z = h (sym asked-10 ∙ (both n _ (sym f ∙ z)).1)

module _ (wit : PermutationWitness) (len : ℕ) (input : List ℕ) (rounds : ℕ) (params : List ℕ) where
  parts : evaluate_step_no wit len input rounds params
      ≡ input_no wit len input params
      ▸ (ask 17 (sound_parameters wit.width rounds params) ▸ first_no (step_room wit len))
  unfolding evaluate_step_no input_no
  parts = first_no-append (input_asks wit len input params) (question 17 (sound_parameters wit.width rounds params) ∷ step_room wit len)

  -- a question before the parameters says no
  pub input-refused : (k : ℕ) → k ≡ input_no wit len input params → (k ≡ 0 → ⊥) → k ≡ evaluate_step_no wit len input rounds params
  input-refused k e h = e ∙ sym (parts ∙ stays _ _ (λ z. h (e ∙ z)))

  module _ (z : input_no wit len input params ≡ 0) where
    rest : evaluate_step_no wit len input rounds params
        ≡ ask 17 (sound_parameters wit.width rounds params) ▸ first_no (step_room wit len)
    rest = parts ∙ goes_on _ _ z

    -- the trace is full
    pub full-number : (n k : ℕ) → n ≡ 0 ▸ ask 17 (sound_parameters wit.width rounds params)
        → k ≡ n ▸ first_no (step_room wit len) → k ≡ evaluate_step_no wit len input rounds params
    full-number n k e f =
        f ∙ ap (λ (m : ℕ). m ▸ first_no (step_room wit len)) (e ∙ zero-▸ _) ∙ sym rest

    -- of the evaluation's questions only 17 is left
    only-17 : permute_no wit.width rounds params input ≡ ask 17 (sound_parameters wit.width rounds params)
    unfolding permute_no
    only-17 =
        let y = input-yes wit len input params z in
        past 1 _ _ _ (le-leb _ _ y.least)
        (past 1 _ _ _ (le-leb _ _ y.most)
        (past 2 _ _ _ (le-leb _ _ y.params_store)
        (past 2 _ _ _ (le-leb _ _ y.input_store)
        (past 9 _ _ _ (eq-eqb _ _ y.inputs)
        (past 4 _ _ _ y.input_units (▸-zero _))))))

    -- the trace has room
    pub room-number : words_of wit.width (wit.steps + 1) ≤ len
        → permute_no wit.width rounds params input ≡ evaluate_step_no wit len input rounds params
    room-number h =
        only-17
        ∙ sym (rest ∙ ap (λ (n : ℕ). ask 17 (sound_parameters wit.width rounds params) ▸ n) (▸-zero _ ∙ ask-yes 10 _ (le-leb _ _ h)) ∙ ▸-zero _)

-- ---- what is answered and left by the number of the call
module _ (wit : PermutationWitness) (trace input : List ℕ) (rounds : ℕ) (params : List ℕ) where
  -- e: what was answered
  pub step-refused : {o : Outcome} {e : Refused} → o ≡ Err e → e.0 ≡ evaluate_step_no wit (length trace) input rounds params
      → (e.0 ≡ 0 → ⊥) → EvaluatesStep as_is wit trace input rounds params (traced o wit) trace
  step-refused {e = e} is n h = record {
    answer = λ i. record {
      outcome = (is ∙ outcome-refused e.0 h ∙ ap outcome_of n) i;
      witness = (stays_by e.0 (one_step wit) wit h ∙ ap (λ (k : ℕ). on_yes k (one_step wit) wit) n) i;
    };
    trace = store-refused _ e.0 n _ trace h;
  }

  -- o, w, t: what the evaluation answered and left, where the trace has room
  pub step-evaluated : input_no wit (length trace) input params ≡ 0 → words_of wit.width (wit.steps + 1) ≤ length trace
      → {o : Outcome} {w : PermutationWitness} {t : List ℕ}
      → o ≡ outcome_of (permute_no wit.width rounds params input)
      → w ≡ on_yes (permute_no wit.width rounds params input) (one_step wit) wit
      → t ≡ on_yes (permute_no wit.width rounds params input) (trace_with wit (evaluated_step wit input rounds params) trace) trace
      → EvaluatesStep as_is wit trace input rounds params (traced o w) t
  step-evaluated y r o w t =
      let e = room-number wit (length trace) input rounds params y r in record {
        answer = λ i. record {
          outcome = (o ∙ ap outcome_of e) i;
          witness = (w ∙ ap (λ (k : ℕ). on_yes k (one_step wit) wit) e) i;
        };
        trace = t ∙ ap (λ (k : ℕ). on_yes k (trace_with wit (evaluated_step wit input rounds params) trace) trace) e;
      }
