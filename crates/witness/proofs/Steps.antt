-- After an accepted call the trace holds the steps that it held and the new one behind them, at any step count;
-- its words are units, and an evaluated step is an evaluation. Assumes nothing.
use Prim.Native.Nat.{ℕ, zero, suc, ◌+◌, ◌*◌, ◌≤◌}
use mathlib.Core.Path.{◌≡◌, refl, sym, ap, ap₂, ◌∙◌, subst}
use mathlib.Core.Bool.{true}
use mathlib.Core.List.{List, [], ◌∷◌, ◌++◌, append_assoc}
use native.Mathlib.Omega.{arith}
use lib.ListN.{length, take, drop, length-append, length-drop, take-append-drop}
use lib.Seq.{length-take-le, take_at, drop_at}
use Rattle.limits.specs.Numbers.{prime}
use Rattle.limits.proofs.Below.{true-both}
use Rattle.words.specs.Store.{all_below, put_words, All, Begins}
use Rattle.words.specs.Pieces.{pieces, flat}
use Rattle.words.proofs.Below.{all_below-append}
use Rattle.words.proofs.Lists.{all_append}
use Rattle.words.proofs.Pieces.{length-pieces, pieces-taken}
use Rattle.words.proofs.Held.{pieces-held, pieces-put}
use Rattle.permute.specs.Permute.{permute}
use Rattle.permute.specs.Parameters.{parameters_of, permute_no, is_evaluation}
use Rattle.permute.proofs.Laws.{permute-length, permute-units, is-evaluation}
use Rattle.witness.specs.Trace.{append_step_no, append_step, append_step_trace, evaluated_step, evaluate_step_no, evaluate_step, evaluate_step_trace, witness_steps}
use Rattle.witness.specs.declared.PermutationWitness.{PermutationWitness}
use Rattle.witness.proofs.Accepted.{append_step-yes, input-yes, evaluate_step-yes}
use Rattle.witness.proofs.Evaluated.{room-number}

-- ---- pieces of k words that a store holds
fewer : (k n : ℕ) (s : List ℕ) → suc n * k ≤ length s → n * k ≤ length (drop k s)
fewer k n s h = simp length-drop (omega arith)

pieces-all : (k n : ℕ) (s : List ℕ) → n * k ≤ length s → All (λ q. length q ≡ k) (pieces k n s)
pieces-all k zero s h = tt
pieces-all k (suc n) s h = (length-take-le k s (omega arith), pieces-all k n (drop k s) (fewer k n s h))

pieces-begin : (k n : ℕ) (s : List ℕ) → n * k ≤ length s → Begins (flat (pieces k n s)) s
pieces-begin k zero s h = record { rest = s; is = refl }
pieces-begin k (suc n) s h =
    let b = pieces-begin k n (drop k s) (fewer k n s h) in record {
      rest = b.rest;
      is =
          sym (take-append-drop k s)
          ∙ ap (λ (r : List ℕ). take k s ++ r) b.is
          ∙ sym (append_assoc (take k s) (flat (pieces k n (drop k s))) b.rest);
    }

-- one more, written behind n
one-behind : (k n : ℕ) (q s : List ℕ) → length q ≡ k → n * k ≤ length s
    → pieces k (n + 1) (take ((n + 1) * k) (put_words (n * k) q s)) ≡ pieces k n (take (n * k) s) ++ (q ∷ [])
one-behind k n q s l h =
    let qs = pieces k n s in
    let c : length qs ≡ n = length-pieces k n s in
    let count : n + 1 ≡ length (qs ++ (q ∷ [])) = sym (length-append qs (q ∷ []) ∙ ap (λ (m : ℕ). m + 1) c) in
    let begins : Begins (flat (qs ++ (q ∷ []))) (put_words (n * k) q s) =
    subst (λ (m : ℕ). Begins (flat (qs ++ (q ∷ []))) (put_words (m * k) q s)) c
    (pieces-put k qs q s (pieces-all k n s h) (pieces-begin k n s h)) in
    pieces-taken k (n + 1) (put_words (n * k) q s)
    ∙ ap (λ (m : ℕ). pieces k m (put_words (n * k) q s)) count
    ∙ pieces-held k (qs ++ (q ∷ [])) (put_words (n * k) q s) (all_append _ qs (q ∷ []) (pieces-all k n s h) (l, tt)) begins
    ∙ ap (λ (ps : List (List ℕ)). ps ++ (q ∷ [])) (sym (pieces-taken k n s))

step-length : (w : ℕ) (input output : List ℕ) → length input ≡ w → length output ≡ w → length (input ++ output) ≡ w + w
step-length w input output i o = length-append input output ∙ ap₂ (λ (m n : ℕ). m + n) i o

step-units : (input output : List ℕ) → all_below prime input ≡ true → all_below prime output ≡ true → all_below prime (input ++ output) ≡ true
step-units input output i o = all_below-append prime input output ∙ true-both _ _ i o

-- ---- a given step
module _ (wit : PermutationWitness) (trace input output : List ℕ) (e : append_step_no wit (length trace) input output ≡ 0) where
  pub append_step-steps :
      witness_steps (append_step wit trace input output).witness (append_step_trace wit trace input output)
      ≡ witness_steps wit trace ++ ((input ++ output) ∷ [])
  append_step-steps =
      let y = append_step-yes wit (length trace) input output e in
      rw e
      (one-behind (wit.width + wit.width) wit.steps (input ++ output) trace
      (step-length wit.width input output y.inputs y.outputs) y.held)

  pub append_step-units : all_below prime (input ++ output) ≡ true
  append_step-units =
      let y = append_step-yes wit (length trace) input output e in
      step-units input output y.input_units y.output_units

-- ---- an evaluated step
module _ (wit : PermutationWitness) (trace input : List ℕ) (rounds : ℕ) (params : List ℕ)
    (e : evaluate_step_no wit (length trace) input rounds params ≡ 0) where
  pub evaluate_step-steps :
      witness_steps (evaluate_step wit trace input rounds params).witness (evaluate_step_trace wit trace input rounds params)
      ≡ witness_steps wit trace ++ (evaluated_step wit input rounds params ∷ [])
  evaluate_step-steps =
      let y = input-yes wit (length trace) input params (evaluate_step-yes wit (length trace) input rounds params e).asked in
      let n = permute-length wit.width rounds params input y.inputs in
      rw e
      (one-behind (wit.width + wit.width) wit.steps (evaluated_step wit input rounds params) trace
      (step-length wit.width input _ y.inputs n) y.held)

  pub evaluate_step-units : all_below prime (evaluated_step wit input rounds params) ≡ true
  evaluate_step-units =
      let y = input-yes wit (length trace) input params (evaluate_step-yes wit (length trace) input rounds params e).asked in
      let u = permute-units wit.width rounds params input y.input_units in
      step-units input _ y.input_units u

  pub evaluate_step-evaluation : is_evaluation wit.width rounds params (evaluated_step wit input rounds params) ≡ true
  evaluate_step-evaluation =
      let a = evaluate_step-yes wit (length trace) input rounds params e in
      let y = input-yes wit (length trace) input params a.asked in
      let out = permute (parameters_of wit.width rounds params) input in
      let first : take wit.width (input ++ out) ≡ input = take_at input out wit.width y.inputs in
      let last : drop wit.width (input ++ out) ≡ out = drop_at input out wit.width y.inputs in
      is-evaluation wit.width rounds params (input ++ out)
      (ap (permute_no wit.width rounds params) first ∙ room-number wit (length trace) input rounds params a.asked a.room ∙ e)
      (ap (permute (parameters_of wit.width rounds params)) first ∙ sym last)
