-- The gate of relation r of an allocator by counts is the one that walks over its queries, where its counts are right for
-- the cells that it holds. Assumes nothing.
use Prim.Native.Nat.{ℕ}
use mathlib.Core.Path.{◌≡◌, ap, ◌∙◌}
use mathlib.Core.Bool.{true}
use borrow.Author.Tests.{ltb-true}
use lib.ListN.{length, take}
use Rattle.limits.specs.Questions.{first_no}
use Rattle.limits.specs.Outcome.{outcome_of}
use Rattle.limits.proofs.Questions.{here, there, puts-yes}
use Rattle.words.specs.Pieces.{words_of}
use Rattle.uses.specs.Uses.{UseCounts}
use Rattle.compile.specs.Gate.{GateLent, walked_asks_with}
use Rattle.compile.proofs.Counts.{counted-gate-with}
use Rattle.sharing.specs.Shares.{any_opened, opened_asks, shares}
use Rattle.sharing.specs.declared.VarAllocator.{VarAllocator}
use Rattle.sharing.specs.declared.SharedRelation.{SharedRelation}
use Rattle.sharing.proofs.Numbers.{some-opened}
use Rattle.shared_compile.specs.Gate.{compile_on}
use Rattle.shared_compile.proofs.Numbers.{compile_on-outcome}

module _ (a : VarAllocator) (r : ℕ) (m : SharedRelation) (l : GateLent) where
  -- where 42 says yes a relation is opened, and so 2 is asked of the wire count
  opens : first_no (opened_asks a r) ≡ 0 → any_opened a ≡ true
  opens e = some-opened a r m (ltb-true _ _ (puts-yes (opened_asks a r) e 42 _ tt (there here)))

  pub counted-gate-on : UseCounts (length l.slots) (take (words_of l.relation.width l.relation.queries) l.queries) l.uses l.relation.stray
      → (compile_on (shares a r m) l).outcome ≡ outcome_of (first_no (walked_asks_with (shares a r m) l))
  counted-gate-on c = compile_on-outcome a r m l ∙ ap outcome_of (counted-gate-with l c (shares a r m) opens)
