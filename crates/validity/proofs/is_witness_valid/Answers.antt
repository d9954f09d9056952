-- `validity::is_witness_valid` meets its contract: the answer is that of the questions, and scratch is filled with 0.
-- Assumes nothing.
use Prim.Native.Nat.{ℕ}
use mathlib.Core.Path.{ap, ◌∙◌}
use lib.ListN.{replicate}
use Rattle.validity.proofs.is_witness_valid.Goals as goal

pub returns : goal.returns
returns c =
    let v = c.ask_witness_valid-valid in
    (v.ensures, c.fill.ensures ∙ ap (λ (k : ℕ). replicate k 0) v.auto.scratch)
