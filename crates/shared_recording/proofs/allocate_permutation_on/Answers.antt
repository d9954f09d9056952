-- `shared_recording::allocate_permutation_on` meets its contract: refused up to 43, or the mint of the relation with the
-- shared count. Assumes nothing.
use Rattle.std.proofs.Common.{rules}
use Rattle.limits.proofs.Answered.{accepted-zero, refused-number, refused-own}
use Rattle.shared_recording.proofs.Answered.{mints-not, mints, mint-given}
use Rattle.shared_recording.proofs.allocate_permutation_on.Goals as goal

pub returns-in_err-obtained : goal.returns-in_err-obtained
returns-in_err-obtained c =
    let e = c.ask_mint_on.ensures in
    let was = c.in_err-obtained.was in
    mints-not _ _ _ _ _ _ _ (search rules) (refused-number _ _ e was) (refused-own _ _ e was)

pub returns-in_err-first : goal.returns-in_err-first
returns-in_err-first c =
    let z = accepted-zero _ _ c.ask_mint_on.ensures c.in_ok-obtained.was in
    mints _ _ _ _ _ _ _ z _ c.on_allocator-alone.ensures _ _ _ _ c.allocate_permutation.ensures _
    (mint-given _ _ _ _ _ _ _ _ (search rules) c.in_err-first.was c.on_allocator-alone.ensures c.allocate_permutation.ensures.answer)

pub returns : goal.returns
returns c =
    let z = accepted-zero _ _ c.ask_mint_on.ensures c.in_ok-obtained.was in
    mints _ _ _ _ _ _ _ z _ c.on_allocator-alone.ensures _ _ _ _ c.allocate_permutation.ensures _ (search rules)
