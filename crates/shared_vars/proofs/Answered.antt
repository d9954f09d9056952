-- What an accepted front of an allocate call says: the quota holds the wires. Assumes nothing.
use Prim.Native.Nat.{ℕ, ◌+◌, ◌≤◌}
use mathlib.Core.Path.{◌≡◌, sym, ◌∙◌}
use mathlib.Core.List.{◌++◌}
use borrow.Author.Tests.{leb-true}
use Rattle.limits.proofs.Questions.{both, first_no-append, puts, puts-yes}
use Rattle.allocator.specs.Slots.{most_asks}
use Rattle.permutation.specs.Relation.{relation_front}
use Rattle.sharing.specs.Shares.{on_allocator, shares, quota_asks}
use Rattle.sharing.specs.declared.VarAllocator.{VarAllocator}
use Rattle.sharing.specs.declared.SharedRelation.{SharedRelation}
use Rattle.shared_vars.specs.Answers.{allocate_vars_on_no}

pub allocate-within : (a : VarAllocator) (r : ℕ) (m : SharedRelation) (len n : ℕ) → allocate_vars_on_no a r m len n ≡ 0
    → m.obtained + n ≤ m.quota
unfolding allocate_vars_on_no
allocate-within a r m len n z =
    let asks = most_asks a.vars n ++ quota_asks m.quota m.obtained n in
    let y = (both _ _ (sym (first_no-append (relation_front (shares a r m) (on_allocator a m) len) asks) ∙ z)).1 in
    leb-true _ _ (puts-yes asks y 43 _ tt (search puts depth 20))
