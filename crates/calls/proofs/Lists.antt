-- Calls made in turn by code: what they answered is the theorem's `log`, what they left its `final`, and so the
-- theorem speaks of them. Assumes nothing.
use Prim.Native.Nat.{ℕ}
use mathlib.Core.Path.{ap, ◌∙◌}
use mathlib.Core.List.{List}
use Rattle.std.specs.Prelude.{Err, Ok}
use Rattle.history.specs.Calls.{State, answer, after, Entry, first_ledger, log, final, ledger_of}
use Rattle.history.proofs.Along.{log_is, final-is}
use Rattle.history.proofs.Theorem.{whole}
use Rattle.calls.specs.Performs.{Starts, Performed, calls_of, Run}

-- after an accepted fresh
pub run_is : (w : ℕ) (slots queries equations uses : List ℕ) (s t : State) (es : List Entry)
    → Starts w slots queries equations uses (Ok tt) s → Performed s es t → Run w slots queries equations uses es t
run_is w slots queries equations uses s t es f p = record {
  whole = whole w slots queries equations uses f.answers (calls_of es);
  last-is = ap (λ (u : State). final u (calls_of es)) f.leaves ∙ final-is answer after s t es p;
  ledger-is = ap (ledger_of w first_ledger) (ap (λ (u : State). log u (calls_of es)) f.leaves ∙ log_is answer after s t es p);
}
