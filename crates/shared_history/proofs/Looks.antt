-- After any list of openings and calls, the value of a wire and whether it is allocated, asked of a relation that is
-- opened: by the ledger alone, which is one for all. Assumes nothing.
use Prim.Native.Nat.{ℕ, ◌<◌}
use mathlib.Core.Path.{◌≡◌, ap, ◌∙◌}
use mathlib.Core.List.{[], ◌++◌}
use lib.ListN.{length}
use Rattle.limits.specs.Questions.{first_no}
use Rattle.limits.specs.Asks.{width_asks, count_asks}
use Rattle.limits.proofs.Questions.{on_yes-yes}
use Rattle.permutation.specs.Sharing.{Sharing}
use Rattle.permutation.specs.Relation.{relation_asks, relation_front, is_allocated_front}
use Rattle.permutation.specs.Left.{value_left, is_allocated_left}
use Rattle.recording.proofs.Left.{after-relation, after-width, after-count, value-left, is_allocated-left}
use Rattle.sharing.specs.Shares.{on_allocator, opened_asks}
use Rattle.sharing.proofs.Numbers.{some-opened}
use Rattle.shared_vars.specs.Answers.{relation_on_no, is_allocated_on_no, value_of_on, is_allocated_on}
use Rattle.history.proofs.Keeps.{Agrees}
use Rattle.shared_history.specs.Calls.{OwnState, SharedState, own_at, seen, shares_of, SharedLedger, own_ledger_at, judged_on}
use Rattle.shared_history.proofs.Fronts.{drop-mid, drop-end, counted_is}
use Rattle.shared_history.proofs.Stands.{Stands, own-at, agrees}
use Rattle.shared_history.proofs.Told.{opened-yes}

module _ (p : SharedState) (l : SharedLedger) (st : Stands p l) (r : ℕ) (h : r < p.allocator.opened) (handed : OwnState) where
  abbrev m : OwnState
  m = own_at p r handed

  in_step : Agrees (own_ledger_at l r).width (seen p m) (judged_on l (own_ledger_at l r))
  in_step = agrees p l st m (own_ledger_at l r) (own-at p l st r h handed)

  -- 1, 2 and 42 say yes
  relation-yes : relation_on_no p.allocator r m.relation (length p.slots) ≡ 0
  unfolding relation_on_no
  relation-yes =
      ap (λ (x : Sharing). first_no (relation_front x (on_allocator p.allocator m.relation) (length p.slots)))
      (counted_is (shares_of p r m) (some-opened p.allocator r m.relation h))
      ∙ drop-end (relation_asks (on_allocator p.allocator m.relation) (length p.slots)) (opened_asks p.allocator r) (opened-yes p l st r h)
      ∙ after-relation _ _ _ _ _ _ _ _ _ _ in_step []

  allocated-yes : is_allocated_on_no p.allocator r m.relation ≡ 0
  unfolding is_allocated_on_no
  allocated-yes =
      ap (λ (x : Sharing). first_no (is_allocated_front x (on_allocator p.allocator m.relation)))
      (counted_is (shares_of p r m) (some-opened p.allocator r m.relation h))
      ∙ drop-mid (width_asks m.relation.width ++ count_asks p.allocator.vars) (opened_asks p.allocator r) [] (opened-yes p l st r h)
      ∙ after-width _ _ _ _ _ _ _ _ _ _ in_step _ ∙ after-count _ _ _ _ _ _ _ _ _ _ in_step _

  pub value-by : (x : ℕ) → value_of_on p.allocator r m.relation p.slots x ≡ value_left l.sets x
  value-by x =
      on_yes-yes (relation_on_no p.allocator r m.relation (length p.slots)) _ _ relation-yes
      ∙ value-left _ _ _ _ _ _ _ _ _ _ in_step x

  pub is_allocated-by : (x : ℕ) → is_allocated_on p.allocator r m.relation x ≡ is_allocated_left l.count x
  is_allocated-by x =
      on_yes-yes (is_allocated_on_no p.allocator r m.relation) _ _ allocated-yes
      ∙ is_allocated-left _ _ _ _ _ _ _ _ _ _ in_step x
