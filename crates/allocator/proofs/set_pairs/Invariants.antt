use Rattle.std.proofs.Common.{◌≡◌, ◌+◌, ◌≤◌, length}
use Rattle.std.specs.Iterator.Adapters.{zip_first, zip_second}
use Rattle.std.specs.Slice.Iter.{iter_rest}
use Rattle.allocator.specs.Slots.{pairs, set_run}
use Rattle.allocator.proofs.Run.{counted}
use Rattle.allocator.proofs.set_pairs.Given as goal

-- what is left of the pairs, done to the slots as they are and counted from those that were accepted, comes to the whole
abbrev pub invariant-loop-var : goal.invariant-loop-var
invariant-loop-var l = record {
  can : (goal.iterator-loop-var).can_next l.var-iterator;
  finite : (goal.iterator-loop-var).is_finite l.var-iterator;
  fresh : l.fresh ≤ l.accepted;
  accepted : l.accepted + length (iter_rest (zip_first l.var-iterator)) ≡ length l.vars;
  run : counted l.accepted l.fresh (set_run l.count l.slots (pairs (iter_rest (zip_first l.var-iterator)) (iter_rest (zip_second l.var-iterator)))) ≡ set_run l.count l.initial.slots (pairs l.vars l.values);
  slots : length l.slots ≡ length l.initial.slots;
}
