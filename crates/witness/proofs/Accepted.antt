-- What an accepted call's questions say, as facts on numbers: one record a call. Assumes nothing.
use Prim.Native.Nat.{ℕ, ◌+◌, ◌≤◌, ◌<◌}
use mathlib.Core.Path.{◌≡◌, sym, ◌∙◌}
use mathlib.Core.Bool.{true}
use mathlib.Core.List.{List, ◌∷◌}
use native.Mathlib.Omega.{arith}
use borrow.Author.Tests.{leb-true, eqb-true}
use lib.ListN.{length}
use Rattle.limits.specs.Numbers.{prime, max_count, max_width, word_end}
use Rattle.limits.specs.Questions.{question}
use Rattle.limits.proofs.Questions.{both, first_no-append, puts, puts-yes}
use Rattle.words.specs.Store.{all_below}
use Rattle.words.specs.Pieces.{words_of}
use Rattle.words.proofs.Pieces.{pieces-few}
use Rattle.permute.specs.Parameters.{sound_parameters}
use Rattle.witness.specs.Trace.{append_step_asks, input_asks, step_room, evaluate_step_asks, append_step_no, input_no, evaluate_step_no}
use Rattle.witness.specs.declared.PermutationWitness.{PermutationWitness}

-- the step count stays a small number
pub steps-few : (wit : PermutationWitness) (len : ℕ) → 1 ≤ wit.width → len ≤ max_count → words_of wit.width (wit.steps + 1) ≤ len
    → wit.steps + 1 < word_end
steps-few wit len w m h = omega (arith, pieces-few wit.width (wit.steps + 1) len w h)

-- ---- a given step
pub record AppendStep (wit : PermutationWitness) (len : ℕ) (input output : List ℕ) : Type 0 where
  pub held : words_of wit.width wit.steps ≤ len
  pub inputs : length input ≡ wit.width
  pub outputs : length output ≡ wit.width
  pub input_units : all_below prime input ≡ true
  pub output_units : all_below prime output ≡ true
  pub room : words_of wit.width (wit.steps + 1) ≤ len
  pub few : wit.steps + 1 < word_end

pub append_step-yes : (wit : PermutationWitness) (len : ℕ) (input output : List ℕ) → append_step_no wit len input output ≡ 0
    → AppendStep wit len input output
unfolding append_step_no
append_step-yes wit len input output e =
    let says = puts-yes (append_step_asks wit len input output) e in
    let least : 1 ≤ wit.width = leb-true _ _ (says 1 _ tt (search puts depth 20)) in
    let store : len ≤ max_count = leb-true _ _ (says 2 _ tt (search puts depth 20)) in
    let room : words_of wit.width (wit.steps + 1) ≤ len = leb-true _ _ (says 10 _ tt (search puts depth 20)) in
    record {
      held = leb-true _ _ (says 2 _ tt (search puts depth 20));
      inputs = eqb-true _ _ (says 9 _ tt (search puts depth 20));
      outputs = eqb-true _ _ (says 9 _ tt (search puts depth 20));
      input_units = says 4 _ tt (search puts depth 20);
      output_units = says 4 _ tt (search puts depth 20);
      room = room;
      few = steps-few wit len least store room;
    }

-- ---- an evaluated step, up to the parameters
pub record Input (wit : PermutationWitness) (len : ℕ) (input params : List ℕ) : Type 0 where
  pub least : 1 ≤ wit.width
  pub most : wit.width ≤ max_width
  pub store : len ≤ max_count
  pub held : words_of wit.width wit.steps ≤ len
  pub input_store : length input ≤ max_count
  pub params_store : length params ≤ max_count
  pub inputs : length input ≡ wit.width
  pub input_units : all_below prime input ≡ true

pub input-yes : (wit : PermutationWitness) (len : ℕ) (input params : List ℕ) → input_no wit len input params ≡ 0
    → Input wit len input params
unfolding input_no
input-yes wit len input params e =
    let says = puts-yes (input_asks wit len input params) e in
    record {
      least = leb-true _ _ (says 1 _ tt (search puts depth 20));
      most = leb-true _ _ (says 1 _ tt (search puts depth 20));
      store = leb-true _ _ (says 2 _ tt (search puts depth 20));
      held = leb-true _ _ (says 2 _ tt (search puts depth 20));
      input_store = leb-true _ _ (says 2 _ tt (search puts depth 20));
      params_store = leb-true _ _ (says 2 _ tt (search puts depth 20));
      inputs = eqb-true _ _ (says 9 _ tt (search puts depth 20));
      input_units = says 4 _ tt (search puts depth 20);
    }

-- ---- and as a whole
pub record EvaluateStep (wit : PermutationWitness) (len : ℕ) (input : List ℕ) (rounds : ℕ) (params : List ℕ) : Type 0 where
  pub asked : input_no wit len input params ≡ 0
  pub sound : sound_parameters wit.width rounds params ≡ true
  pub room : words_of wit.width (wit.steps + 1) ≤ len
  pub few : wit.steps + 1 < word_end

pub evaluate_step-yes : (wit : PermutationWitness) (len : ℕ) (input : List ℕ) (rounds : ℕ) (params : List ℕ)
    → evaluate_step_no wit len input rounds params ≡ 0 → EvaluateStep wit len input rounds params
unfolding evaluate_step_no input_no
evaluate_step-yes wit len input rounds params e =
    let says = puts-yes (evaluate_step_asks wit len input rounds params) e in
    let asked = (both _ _ (sym (first_no-append (input_asks wit len input params) (question 17 (sound_parameters wit.width rounds params) ∷ step_room wit len)) ∙ e)).0 in
    let y = input-yes wit len input params asked in
    let room : words_of wit.width (wit.steps + 1) ≤ len = leb-true _ _ (says 10 _ tt (search puts depth 20)) in
    record {
      asked = asked;
      sound = says 17 _ tt (search puts depth 20);
      room = room;
      few = steps-few wit len y.least y.store room;
    }
