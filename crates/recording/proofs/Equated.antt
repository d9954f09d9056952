-- An equation call that is accepted: the new counts are words, and what is answered and stored is as the definition over
-- the terms says. Assumes nothing.
use Prim.Native.Nat.{ℕ}
use mathlib.Core.Path.{◌≡◌, refl, sym, ◌∙◌}
use mathlib.Core.List.{List}
use native.Mathlib.Omega.{arith}
use lib.ListN.{length}
use Rattle.permutation.specs.Records.{recorded}
use Rattle.std.specs.Prelude.{Ok}
use Rattle.limits.specs.Outcome.{as_is}
use Rattle.limits.proofs.Answered.{store-accepted}
use Rattle.words.specs.Store.{put_words}
use Rattle.expr.specs.Equation.{Term, equation, equation_words, fit_equation}
use Rattle.expr.specs.Weighted.{terms_of}
use Rattle.expr.specs.declared.Weighted.{Weighted}
use Rattle.expr.proofs.Terms.{length-terms_of}
use Rattle.expr.proofs.Write.{fit-equation}
use Rattle.recording.specs.Numbers.{add_equation_no}
use Rattle.recording.specs.Answers.{one_equation, EquationFits}
use Rattle.recording.specs.Effects.{AddsEquation}
use Rattle.permutation.specs.declared.PermutationRelation.{PermutationRelation}
use Rattle.recording.proofs.Accepted.{add_equation-yes}

-- where the call is accepted
module _ (rel : PermutationRelation) (s : List ℕ) (ts : List Weighted) (image : ℕ)
    (z : add_equation_no rel (length s) (terms_of ts) image ≡ 0) where
  abbrev terms : List Term
  terms = terms_of ts

  pub equation-fits : EquationFits rel (length ts)
  equation-fits =
      let y = add_equation-yes rel (length s) terms image z in
      let n = length-terms_of ts in record {
        equations = omega arith;
        words = omega arith;
      }

  pub equated-stored : (t : List ℕ) → t ≡ fit_equation rel.words (equation terms image) s
      → AddsEquation as_is rel s terms image (recorded (Ok tt) (one_equation rel (length ts))) t
  equated-stored t f =
      let y = add_equation-yes rel (length s) terms image z in
      record {
        answer = rw (z, length-terms_of ts);
        equations =
            f
            ∙ fit-equation rel.words (equation terms image) s (omega arith) y.room
            ∙ store-accepted _ 0 (sym z) (put_words rel.words (equation_words (equation terms image)) s) s refl;
      }
