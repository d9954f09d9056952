-- The theorem for relations on one allocator: what the first accepted opening leaves, any list of openings and calls after
-- it, and every relation's gate, both byte forms written and read, and the check. Assumes nothing.
use Prim.Native.Nat.{ℕ, ◌≤◌, ◌<◌}
use mathlib.Core.Path.{◌≡◌, sym, ap, ◌∙◌, subst}
use mathlib.Core.List.{List}
use native.Mathlib.Omega.{arith}
use borrow.Author.Tests.{lt-ltb, le-ltb}
use lib.ListN.{length}
use lib.Dec.{ltb}
use Rattle.limits.specs.Questions.{◌▸◌, first_no}
use Rattle.limits.specs.Outcome.{outcome_of}
use Rattle.limits.proofs.Questions.{ask-no, goes_on, stays, ▸-zero}
use Rattle.words.specs.Store.{All}
use Rattle.permutation.specs.Sharing.{Sharing, alone}
use Rattle.sharing.specs.Shares.{on_allocator, shares}
use Rattle.sharing.specs.declared.VarAllocator.{VarAllocator}
use Rattle.compile.specs.Gate.{GateLent, gate_lent, compile_front}
use Rattle.sharing.proofs.Numbers.{some-opened, is-opened}
use Rattle.shared_compile.proofs.Numbers.{gate-asked, gate-inserted, compile_on-outcome}
use Rattle.compile.specs.Records.{Compiled}
use Rattle.history.specs.Calls.{lengths_of}
use Rattle.history.specs.Demand.{Accepted, Used}
use Rattle.history.specs.Whole.{lent_to_gate, compiled, Gated, Judged}
use Rattle.history.proofs.Outcomes.{past_fits}
use Rattle.history.proofs.Theorem as base
use Rattle.shared_history.specs.Calls.{OwnState, SharedState, SharedCall, own_at, seen, shares_of, shared_answer, SharedLedger, own_ledger_at, judged_on, shared_final}
use Rattle.shared_history.specs.Left.{allocator_by}
use Rattle.shared_history.specs.Whole.{Other, gate_on, lent_by, Unopened, none_opened, opening, shared_last, shared_ledger, SharedWhole}
use Rattle.shared_history.proofs.Fronts.{gate-front, gate-opened, gate-settled}
use Rattle.shared_history.proofs.Stands.{Stands, opened_in, own-at, agrees, counted}
use Rattle.shared_history.proofs.Keeps.{begins, keeps-calls}
use Rattle.shared_history.proofs.Gate.{asked_is, compiled-is, publics-are, kept-all}
use Rattle.shared_history.proofs.Told.{allocator-is, opened-yes, told-calls}

-- ---- a relation that is opened
module _ (p : SharedState) (l : SharedLedger) (st : Stands p l) (r : ℕ) (h : r < p.allocator.opened) (handed : OwnState) where
  abbrev own : OwnState
  own = own_at p r handed

  -- its use counts
  used : Used (own_ledger_at l r).width (length p.slots) (judged_on l (own_ledger_at l r)) own.uses own.relation.stray
  used =
      base.used-is (own_ledger_at l r).width (seen p own) (judged_on l (own_ledger_at l r))
      (agrees p l st own (own_ledger_at l r) (own-at p l st r h handed))

  -- its gate is that of a relation alone
  same-front : (g : GateLent) → first_no (compile_front (shares_of p r own) g) ≡ first_no (compile_front alone g)
  same-front g = gate-settled (shares_of p r own) (some-opened p.allocator r own.relation h) (opened-yes p l st r h) g

  same-gate : (label publics scratch : List ℕ) → (gate_on p r own label publics scratch).answer ≡ compiled (seen p own) label publics scratch
  same-gate label publics scratch = compiled-is (shares_of p r own) (lent_to_gate (seen p own) label publics scratch) (same-front (lent_to_gate (seen p own) label publics scratch))

  judged : (ds : List SharedCall) → All (Other r) ds
      → Judged (own_ledger_at l r).width (lengths_of (seen p own))
      (own_at (shared_final p ds) r handed).queries (own_at (shared_final p ds) r handed).equations
      (gate_on p r own) (judged_on l (own_ledger_at l r))
  judged ds t =
      let e = own_ledger_at l r in
      let x = judged_on l e in
      let j = base.judged e.width (seen p own) x (agrees p l st own e (own-at p l st r h handed)) in
      record {
        gates = λ label publics scratch. record {
          by-questions =
              ap (λ (y : Compiled). y.outcome) (same-gate label publics scratch) ∙ (j.gates label publics scratch).by-questions
              ∙ ap outcome_of (sym (asked_is (shares_of p r own) (lent_to_gate (seen p own) label publics scratch) (same-front (lent_to_gate (seen p own) label publics scratch))));
          by-ledger = ap (λ (y : Compiled). y.outcome) (same-gate label publics scratch) ∙ (j.gates label publics scratch).by-ledger;
        };
        gated = λ label publics scratch a.
            subst
            (λ (y : OwnState). Gated e.width y.queries y.equations (gate_on p r own label publics scratch).answer.instance
            (gate_on p r own label publics scratch).publics label x)
            (sym (kept-all r handed ds p (omega (arith, st.opened_is)) t))
            (base.gated-as e.width own.queries own.equations _ _ _ _ label x
            (ap (λ (y : Compiled). y.instance) (same-gate label publics scratch))
            (publics-are (shares_of p r own) (lent_to_gate (seen p own) label publics scratch) (same-front (lent_to_gate (seen p own) label publics scratch)))
            (j.gated label publics scratch (ap (λ (y : Compiled). y.outcome) (sym (same-gate label publics scratch)) ∙ a)));
        traced = j.traced;
      }

-- ---- a number that isn't opened
module _ (p : SharedState) (r : ℕ) (m : OwnState) (label publics scratch : List ℕ) where
  abbrev lent : GateLent
  lent = lent_to_gate (seen p m) label publics scratch

  -- let through: the relation is opened
  gate-is-opened : first_no (compile_front (shares_of p r m) lent) ≡ 0 → r < p.allocator.opened
  gate-is-opened =
      is-opened p.allocator r m.relation (λ (h : Sharing). compile_front h lent)
      (gate-asked p.allocator r m.relation lent) (gate-inserted p.allocator r m.relation lent)

module _ (p : SharedState) (l : SharedLedger) (st : Stands p l) (r : ℕ) (n : p.allocator.opened ≤ r) (m : OwnState) (label publics scratch : List ℕ) where
  abbrev lent-by : GateLent
  lent-by = lent_by l p m label publics scratch

  -- the front, with the allocator by the ledger
  front_by : first_no (compile_front (shares_of p r m) (lent_to_gate (seen p m) label publics scratch)) ≡ first_no (compile_front (shares (allocator_by l) r m.relation) lent-by)
  front_by =
      ap (λ (a : VarAllocator). first_no (compile_front (shares a r m.relation)
      (gate_lent (on_allocator a m.relation) label p.slots m.queries m.equations m.uses (length publics) (length scratch)))) (allocator-is p l st)

  gate-by : (gate_on p r m label publics scratch).answer.outcome ≡ outcome_of (first_no (compile_front (shares (allocator_by l) r m.relation) lent-by))
  gate-by =
      let ask = lent_to_gate (seen p m) label publics scratch in
      compile_on-outcome p.allocator r m.relation ask
      ∙ ap outcome_of
      (gate-front (shares_of p r m) ask
      ∙ stays _ _ (λ z. absurd (omega (arith, gate-is-opened p r m label publics scratch z)))
      ∙ front_by)

  -- 42
  refused-42 : first_no (compile_front alone lent-by) ≡ 0 → first_no (compile_front (shares (allocator_by l) r m.relation) lent-by) ≡ 42
  refused-42 z =
      let o = opened_in p l st in
      gate-opened (shares (allocator_by l) r m.relation) (lt-ltb 0 (length l.owns) (omega (arith, st.least, o))) lent-by
      ∙ goes_on _ _ z
      ∙ past_fits 2 (length l.owns) 8 _ (omega (arith, st.few, o))
      ∙ ap (λ (k : ℕ). k ▸ 0) (ask-no 42 (ltb r (length l.owns)) (le-ltb r (length l.owns) (omega (arith, n, o))))
      ∙ ▸-zero 42

  unopened-is : Unopened p l r m label publics scratch
  unopened-is =
      record {
        answers = record { by-questions = compile_on-outcome p.allocator r m.relation (lent_to_gate (seen p m) label publics scratch); by-ledger = gate-by };
        number = λ z. gate-by ∙ ap outcome_of (refused-42 z);
      }

-- ---- the whole
module _ (vars : ℕ) (slots : List ℕ) (width quota : ℕ) (queries equations uses : List ℕ) (cs : List SharedCall)
    (accepted : Accepted (shared_answer (none_opened vars slots width quota queries equations uses cs) (opening vars slots width quota queries equations uses cs)).outcome) where
  stands : Stands (shared_last vars slots width quota queries equations uses cs) (shared_ledger vars slots width quota queries equations uses cs)
  stands = keeps-calls cs _ _ (begins vars slots width quota queries equations uses accepted)

  pub shared-whole : SharedWhole vars slots width quota queries equations uses cs
  shared-whole =
      record {
        told = told-calls cs _ _ (begins vars slots width quota queries equations uses accepted);
        counts = counted _ _ stands;
        used = used _ _ stands;
        judged = judged _ _ stands;
        not_opened = unopened-is _ _ stands;
      }
