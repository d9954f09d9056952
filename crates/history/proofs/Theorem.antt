-- The theorem: what an accepted fresh leaves, any list of calls after it, the gate, both byte forms written and
-- read, and the check of what was read. Assumes nothing.
use Prim.Native.Nat.{ℕ}
use mathlib.Core.Path.{◌≡◌, refl, sym, ap, subst}
use mathlib.Core.List.{List}
use lib.ListN.{length}
use Rattle.limits.specs.Outcome.{outcome_of, outcome_number}
use Rattle.uses.proofs.Right.{counted-sum}
use Rattle.permutation.specs.Answers.{new_relation}
use Rattle.instance.specs.declared.PermutationInstance.{PermutationInstance}
use Rattle.compile.specs.Gate.{compile_no, compile}
use Rattle.history.specs.Ledger.{Ledger}
use Rattle.history.specs.Calls.{Call, State, Lengths, lengths_of, first_ledger}
use Rattle.history.specs.Demand.{Accepted, Used}
use Rattle.history.specs.Whole.{lent_to_gate, compiled, publics_made, Gated, gate_of, Judged, begin, last, last_ledger, Whole}
use Rattle.history.proofs.Keeps.{Agrees, fresh-agrees, keeps-all}
use Rattle.history.proofs.Outcomes.{accepted-no}
use Rattle.history.proofs.Told.{told-all}
use Rattle.history.proofs.Lengths.{lengths-all}
use Rattle.history.proofs.Gate.{compile-left}
use Rattle.history.proofs.Made.{instance-is, made-is}
use Rattle.history.proofs.Checks.{held-checks}
use Rattle.history.proofs.Traces.{traced}
use Rattle.history.proofs.Files.{filed}

-- of the instance and the publics that the gate made
pub gated-as : (w : ℕ) (queries equations : List ℕ) (x y : PermutationInstance) (a b label : List ℕ) (l : Ledger) → x ≡ y → a ≡ b
    → Gated w queries equations y b label l → Gated w queries equations x a label l
gated-as w queries equations x y a b label l e h g =
    subst (λ (v : PermutationInstance). Gated w queries equations v a label l) (sym e)
    (subst (λ (v : List ℕ). Gated w queries equations y v label l) (sym h) g)

-- at the width given to fresh
gated-at : (w : ℕ) (s : State) (l : Ledger) → Agrees w s l → (label publics scratch : List ℕ)
    → compile_no (lent_to_gate s label publics scratch) ≡ 0
    → Gated w s.queries s.equations (compiled s label publics scratch).instance (publics_made s label publics scratch) label l
gated-at w s l i label publics scratch gate =
    let e = i.width_is in
    let own = subst (λ (v : ℕ). Agrees v s l) (sym e) i in
    subst
    (λ (v : ℕ). Gated v s.queries s.equations (compiled s label publics scratch).instance (publics_made s label publics scratch) label l)
    e
    (gated-as s.relation.width s.queries s.equations _ _ _ _ label l
    (instance-is s l own label publics scratch gate) (made-is s l own label publics scratch gate)
    (record { checks = held-checks s l own label publics scratch gate; files = filed s l own label publics scratch gate }))

-- the gate of a relation in step with its ledger, and what follows it
pub judged : (w : ℕ) (s : State) (l : Ledger) → Agrees w s l → Judged w (lengths_of s) s.queries s.equations (gate_of s) l
unfolding compile compile_no
judged w s l i = record {
  gates = λ label publics scratch. record {
    by-questions = refl;
    by-ledger = ap outcome_of (compile-left w _ _ i label (length publics) (length scratch));
  };
  gated = λ label publics scratch a. gated-at w _ _ i label publics scratch (accepted-no _ a);
  traced = λ t. traced w i.least i.most t;
}

-- the use counts of a relation in step with its ledger
pub used-is : (w : ℕ) (s : State) (l : Ledger) → Agrees w s l → Used w (length s.slots) l s.uses s.relation.stray
used-is w s l i =
    record {
      counts = i.counts;
      total = counted-sum (length s.slots) w l.queries s.uses s.relation.stray i.in_queries.widths i.counts;
    }

module _ (w : ℕ) (slots queries equations uses : List ℕ) (accepted : Accepted (new_relation w slots uses).outcome) (cs : List Call) where
  begins : Agrees w (begin w slots queries equations uses cs) first_ledger
  begins = fresh-agrees w slots queries equations uses (ap outcome_number accepted)

  agrees : Agrees w (last w slots queries equations uses cs) (last_ledger w slots queries equations uses cs)
  agrees = keeps-all w cs (begin w slots queries equations uses cs) first_ledger begins

  pub whole : Whole w slots queries equations uses cs
  whole = record {
    told = told-all w cs (begin w slots queries equations uses cs) first_ledger begins;
    used = used-is w (last w slots queries equations uses cs) (last_ledger w slots queries equations uses cs) agrees;
    judged = subst
        (λ (x : Lengths). Judged w x (last w slots queries equations uses cs).queries (last w slots queries equations uses cs).equations
        (gate_of (last w slots queries equations uses cs)) (last_ledger w slots queries equations uses cs))
        (lengths-all cs (begin w slots queries equations uses cs))
        (judged w (last w slots queries equations uses cs) (last_ledger w slots queries equations uses cs) agrees);
  }
