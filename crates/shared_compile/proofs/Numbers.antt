-- The outcome of the gate of relation r of an allocator is by the first no of its whole list of questions, in document 01's
-- order. Assumes nothing.
use Prim.Native.Nat.{ℕ}
use mathlib.Core.Path.{◌≡◌, refl, ap}
use mathlib.Core.Bool.{true}
use mathlib.Core.List.{◌++◌}
use lib.Dec.{ltb}
use Rattle.std.specs.Prelude.{Err}
use Rattle.limits.specs.Questions.{first_no}
use Rattle.limits.specs.Outcome.{outcome_of, refusal}
use Rattle.limits.proofs.Questions.{Puts}
use Rattle.permutation.specs.Sharing.{Sharing, alone}
use Rattle.compile.specs.Gate.{GateLent, compile_front, lent_sound_asks, made_asks, compile_asks_with, compile_no, refused_by, compile}
use Rattle.compile.specs.Records.{Compiled}
use Rattle.sharing.specs.Shares.{shares}
use Rattle.sharing.specs.declared.VarAllocator.{VarAllocator}
use Rattle.sharing.specs.declared.SharedRelation.{SharedRelation}
use Rattle.sharing.proofs.Numbers.{puts-in, Subsequence, subsequence, counting, shown-on}
use Rattle.shared_compile.specs.Gate.{compile_on_no, compile_on}

-- 42 is among the questions of the front, and sharing only puts questions in
module _ (a : VarAllocator) (r : ℕ) (m : SharedRelation) (l : GateLent) where
  pub gate-asked : Puts 42 (ltb r a.opened) (compile_front (shares a r m) l)
  gate-asked = search puts-in depth 20

  pub gate-inserted : Subsequence (compile_front alone l) (compile_front (counting a r m true) l)
  gate-inserted = search subsequence depth 40

  pub compile_on-outcome : (compile_on (shares a r m) l).outcome ≡ outcome_of (first_no (compile_asks_with (shares a r m) l))
  unfolding compile_on_no compile_on compile_no compile
  compile_on-outcome =
      shown-on a r m (λ (g : Sharing). compile_front g l) gate-asked gate-inserted
      (λ (q : Compiled). q.outcome) outcome_of (lent_sound_asks l ++ made_asks l) (compile l) (refused_by (first_no (compile_front (shares a r m) l))) refl
      (λ j e. ap (λ (k : ℕ). Err (refusal k)) e)
