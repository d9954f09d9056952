-- 1 and 2 come first, then what the allocator answers for the pair. Assumes nothing.
use mathlib.Core.Path.{refl, sym}
use Rattle.limits.proofs.Answered.{accepted-zero}
use Rattle.permutation.proofs.Sets.{pair-answered}
use Rattle.permutation.proofs.set_var.Goals as goal

pub returns : goal.returns
returns c = pair-answered _ _ _ 0 (sym (accepted-zero _ _ c.ask_relation.ensures c.in_ok-ask_relation.was)) refl _ _ c.assign_var.ensures
