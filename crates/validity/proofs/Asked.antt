-- The questions before the check: where none says no, the counts fit the stores, what is held is sound, and
-- scratch has a word per wire. Assumes nothing.
use Prim.Native.Nat.{ℕ, ◌*◌, ◌≤◌}
use mathlib.Core.Path.{◌≡◌, sym, ◌∙◌}
use mathlib.Core.Bool.{true}
use mathlib.Core.List.{List, [], ◌∷◌, ◌++◌}
use borrow.Author.Tests.{leb-true}
use lib.Dec.{leb, ltb}
use lib.ListN.{length, take}
use Rattle.limits.specs.Numbers.{prime, label_end}
use Rattle.limits.specs.Outcome.{Outcome}
use Rattle.limits.specs.Questions.{Question, question, ask, first_no, ◌▸◌}
use Rattle.limits.specs.Asks.{width_asks, store_asks}
use Rattle.limits.proofs.Questions.{says-yes, stays, goes_on, both, ▸-assoc, zero-▸, ▸-zero, first_no-append, accepted-says}
use Rattle.words.specs.Store.{all_below}
use Rattle.words.specs.Pieces.{words_of, steps_of}
use Rattle.permute.specs.Parameters.{sound_parameters, is_evaluation}
use Rattle.instance.specs.Parts.{held_publics, held_equations, parts_of}
use Rattle.held.specs.Held.{parts_asks, parts_sound_asks, publics_sound, equations_sound}
use Rattle.instance.specs.declared.PermutationInstance.{PermutationInstance}
use Rattle.validity.specs.Check.{check_no}
use Rattle.validity.specs.Valid.{size_asks, is_witness_valid_asks, is_witness_valid_no}
use Rattle.validity.specs.Scratch.{Sound, AskedValid}

-- ---- the calls in code, one after the other, put the questions of a list in parts
pub sizes-in-order : (a b c d e : List Question) (f g : Question)
    → first_no (a ++ (b ++ (c ++ (d ++ (e ++ (f ∷ g ∷ []))))))
    ≡ ((((((0 ▸ first_no a) ▸ first_no b) ▸ first_no c) ▸ first_no d) ▸ first_no e) ▸ ask f.number f.says) ▸ ask g.number g.says
sizes-in-order a b c d e f g = simp (first_no-append, ▸-assoc, zero-▸, ▸-zero)

pub valid-in-order : (a b : List Question) (f g h : Question)
    → first_no (a ++ (f ∷ (b ++ (g ∷ h ∷ []))))
    ≡ (((first_no a ▸ ask f.number f.says) ▸ first_no b) ▸ ask g.number g.says) ▸ ask h.number h.says
valid-in-order a b f g h = simp (first_no-append, ▸-assoc, ▸-zero)

-- ---- what each group of questions says yes to
module _ (ins : PermutationInstance) where
  parts-yes : (publics queries equations : ℕ) → first_no (parts_asks ins publics queries equations) ≡ 0
      → (2 * ins.publics ≤ publics) × (words_of ins.width ins.queries ≤ queries)
  parts-yes publics queries equations z =
      let says = accepted-says (parts_asks ins publics queries equations) tt z in
      (leb-true _ _ (says 3), leb-true _ _ (says 4))

  sizes-yes : (label publics queries equations steps trace params scratch : ℕ)
      → first_no (size_asks ins label publics queries equations steps trace params scratch) ≡ 0
      → (first_no (parts_asks ins publics queries equations) ≡ 0) × (words_of ins.width steps ≤ trace)
  sizes-yes label publics queries equations steps trace params scratch z =
      let fit = both _ _ (sym (sizes-in-order (width_asks ins.width) (parts_asks ins publics queries equations) (store_asks trace) (store_asks params)
      (store_asks scratch) (question 2 (ltb label label_end)) (question 2 (leb (words_of ins.width steps) trace))) ∙ z) in
      let named = both _ _ fit.0 in
      let scratched = both _ _ named.0 in
      let permuted = both _ _ scratched.0 in
      let traced = both _ _ permuted.0 in
      let parts = both _ _ traced.0 in
      (parts.1, leb-true _ _ (says-yes 1 _ fit.1))

  held-yes : (label publics queries equations : List ℕ) → first_no (parts_sound_asks ins label publics queries equations) ≡ 0
      → (equations_sound ins.equations (held_equations ins equations) ≡ true) × (publics_sound ins.publics (held_publics ins publics) ≡ true)
  held-yes label publics queries equations z =
      let says = accepted-says (parts_sound_asks ins label publics queries equations) tt z in
      (says 0, says 1)

-- all of them: what the check is lent is sound, and scratch has a word per wire
pub record Yes (ins : PermutationInstance) (publics queries equations : List ℕ) (steps : ℕ) (trace : List ℕ) (scratch : ℕ) : Type 0 where
  pub words : ins.vars ≤ scratch
  pub linear : equations_sound ins.equations (held_equations ins equations) ≡ true
  pub sound : (len : ℕ) → len ≡ ins.vars → Sound ins publics queries steps trace len

module _ {ins : PermutationInstance} {label publics queries equations : List ℕ} {steps : ℕ} {trace : List ℕ} {rounds : ℕ}
    {params : List ℕ} {scratch : ℕ} {o : Outcome} (a : AskedValid ins label publics queries equations steps trace rounds params scratch o) where
  abbrev k : ℕ
  k = first_no (is_witness_valid_asks ins label publics queries equations steps trace rounds params scratch)

  -- a no stays
  pub valid-refused : (k ≡ 0 → ⊥) → k ≡ is_witness_valid_no ins label publics queries equations steps trace rounds params scratch
  unfolding is_witness_valid_no
  valid-refused h = sym (stays _ _ h)

  module _ (z : k ≡ 0) where
    pub valid-yes : Yes ins publics queries equations steps trace scratch
    valid-yes =
        let room = both _ _ (sym (valid-in-order
        (size_asks ins (length label) (length publics) (length queries) (length equations) steps (length trace) (length params) scratch)
        (parts_sound_asks ins label publics queries equations) (question 17 (sound_parameters ins.width rounds params))
        (question 11 (all_below prime (take (words_of ins.width steps) trace))) (question 16 (leb ins.vars scratch))) ∙ z) in
        let traced = both _ _ room.0 in
        let held = both _ _ traced.0 in
        let permuted = both _ _ held.0 in
        let s = sizes-yes ins (length label) (length publics) (length queries) (length equations) steps (length trace) (length params) scratch permuted.0 in
        let p = parts-yes ins (length publics) (length queries) (length equations) s.0 in
        let h = held-yes ins label publics queries equations held.1 in
        record {
          words = leb-true _ _ (says-yes 15 _ room.1);
          linear = h.0;
          sound = λ len l. record {
            fit_publics = p.0;
            fit_queries = p.1;
            fit_trace = s.1;
            units = says-yes 10 _ traced.1;
            public = h.1;
            words = l;
          };
        }

    -- nothing said no: the check's number
    pub valid-checked : check_no (is_evaluation ins.width rounds params) (parts_of ins publics queries equations) (steps_of ins.width steps trace)
        ≡ is_witness_valid_no ins label publics queries equations steps trace rounds params scratch
    unfolding is_witness_valid_no
    valid-checked = sym (goes_on _ _ z)
