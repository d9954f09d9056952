use Prim.Native.Nat.{◌+◌, ◌-◌}
use Rattle.permute.specs.Parameters.{is_evaluation}
use Rattle.validity.proofs.Steps.{StepsLeft}
use Rattle.validity.proofs.put_steps.Given as goal

abbrev pub invariant-loop-done : goal.invariant-loop-done
invariant-loop-done l =
    StepsLeft (is_evaluation l.width l.rounds l.params) l.initial.scratch l.queries l.trace (l.width + l.width) l.steps l.scratch (l.steps - l.done) l.at l.known
