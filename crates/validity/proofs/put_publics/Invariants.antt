use Prim.Native.Nat.{◌-◌, ◌*◌}
use Rattle.validity.proofs.Publics.{PublicsLeft}
use Rattle.validity.proofs.put_publics.Given as goal

abbrev pub invariant-loop-i : goal.invariant-loop-i
invariant-loop-i l = PublicsLeft l.initial.scratch l.publics l.count l.scratch (l.count - l.i) (2 * l.i)
