-- `sfrw::witness_from_bytes` meets its contract: the read; and the trace all 0 where it refuses.
-- Assumes nothing.
use Prim.Native.Nat.{ℕ}
use mathlib.Core.Path.{sym, ap, ◌∙◌}
use lib.ListN.{replicate}
use Rattle.decoding.proofs.Steps.{read_no, read-yes}
use Rattle.decoding.proofs.sfrw.witness_from_bytes.Goals as goal

pub returns-then-is_err : goal.returns-then-is_err
returns-then-is_err c =
    let a = c.args in
    read_no a.width a.bytes.now a.trace.now _ _ c.read_witness-steps.ensures (sym c.is_err.ensures.value ∙ c.if-is_err.true) _
    (c.fill.ensures ∙ ap (λ (n : ℕ). replicate {A = ℕ} n 0) c.read_witness-steps.auto.trace)

pub returns-else-is_err : goal.returns-else-is_err
returns-else-is_err c =
    let a = c.args in
    read-yes a.width a.bytes.now a.trace.now _ _ c.read_witness-steps.ensures (sym c.is_err.ensures.value ∙ c.if-is_err.false)
