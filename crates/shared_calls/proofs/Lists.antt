-- Calls made in turn by code: what they answered is the theorem's `shared_log`, what they left its `shared_final`, and so the
-- theorem speaks of them. Assumes nothing.
use Prim.Native.Nat.{ℕ}
use mathlib.Core.Path.{◌≡◌, ap, ◌∙◌}
use mathlib.Core.List.{List}
use Rattle.std.specs.Prelude.{Err, Ok}
use Rattle.history.proofs.Along.{log_is, final-is}
use Rattle.shared_history.specs.Calls.{SharedState, shared_answer, shared_after, SharedEntry, shared_log, shared_final, shared_ledger_of}
use Rattle.shared_history.specs.Whole.{none_opened, opening, begin_ledger}
use Rattle.shared_history.proofs.Theorem.{shared-whole}
use Rattle.history.specs.Calls.{Answer}
use Rattle.shared_calls.specs.Performs.{SharedPerforms, SharedPerformed, shared_calls_of, SharedRun}

-- after a first opening that was accepted
pub run_is : (vars : ℕ) (slots : List ℕ) (width quota : ℕ) (queries equations uses : List ℕ) (x : Answer) (p q : SharedState) (es : List SharedEntry)
    → SharedPerforms (none_opened vars slots width quota queries equations uses (shared_calls_of es)) (opening vars slots width quota queries equations uses (shared_calls_of es)) x p
    → x.outcome ≡ Ok tt → SharedPerformed p es q → SharedRun vars slots width quota queries equations uses es q
run_is vars slots width quota queries equations uses x p q es f a t =
    let begun = f.leaves in
    record {
      whole = shared-whole vars slots width quota queries equations uses (shared_calls_of es) (ap (λ (y : Answer). y.outcome) f.answers ∙ a);
      last-is = ap (λ (u : SharedState). shared_final u (shared_calls_of es)) begun ∙ final-is shared_answer shared_after p q es t;
      ledger-is = ap (shared_ledger_of (begin_ledger vars slots width quota queries equations uses (shared_calls_of es)))
          (ap (λ (u : SharedState). shared_log u (shared_calls_of es)) begun ∙ log_is shared_answer shared_after p q es t);
    }
