-- What the records and stores of relations on one allocator hold, in the terms of their ledger: the slots agree with
-- everybody's sets, each relation's queries and equations with its own. So each relation, with the shared count for its
-- own, agrees with what the ledger has for it, and a call of one changes for the others only what all share.
-- Assumes nothing.
use Prim.Native.Nat.{ℕ, zero, suc, ◌+◌, ◌≤◌, ◌<◌}
use mathlib.Core.Path.{◌≡◌, refl, ap₂, ◌∙◌}
use mathlib.Core.List.{List, [], ◌∷◌, ◌++◌}
use native.Mathlib.Nat.{not-suc-le-zero, le_of_suc-le-suc}
use native.Mathlib.Omega.{arith}
use lib.ListN.{length, get_or, set}
use Rattle.limits.specs.Numbers.{max_width}
use Rattle.words.specs.Store.{All}
use Rattle.words.specs.Pieces.{flat}
use Rattle.uses.specs.Uses.{UseCounts}
use Rattle.permutation.specs.State.{HoldsSlots}
use Rattle.recording.specs.State.{HoldsQueries, HoldsEquations}
use Rattle.sharing.specs.Shares.{max_relations}
use Rattle.history.proofs.Keeps.{Agrees}
use Rattle.shared_history.specs.Calls.{OwnState, SharedState, own_at, seen, OwnLedger, SharedLedger, new_own_ledger, own_ledger_at, judged_on}
use Rattle.shared_history.specs.Demand.{obtained_by, obtained_in, Counted}
use Rattle.shared_history.proofs.Lists.{Both, both_at, both-length}

-- a relation's own record and stores, beside a slot store of that length
pub record Own (slots : ℕ) (m : OwnState) (e : OwnLedger) : Type 0 where
  pub least : 1 ≤ e.width
  pub most : e.width ≤ max_width
  pub width_is : m.relation.width ≡ e.width
  pub in_queries : HoldsQueries e.width m.relation.queries m.queries e.queries
  pub in_equations : HoldsEquations m.relation.equations m.relation.words m.equations e.equations
  pub uses_are : UseCounts slots (flat e.queries) m.uses m.relation.stray
  pub quota_is : m.relation.quota ≡ e.quota
  pub obtained_is : m.relation.obtained ≡ e.obtained
  pub within : m.relation.obtained ≤ m.relation.quota

-- all of them
pub record Stands (p : SharedState) (l : SharedLedger) : Type 0 where
  pub count : p.allocator.vars ≡ l.count
  pub in_slots : HoldsSlots p.allocator.vars p.slots l.sets
  pub each : Both (Own (length p.slots)) p.owns l.owns
  pub opened_is : p.allocator.opened ≡ length p.owns
  pub least : 1 ≤ p.allocator.opened
  pub few : p.allocator.opened ≤ max_relations
  pub sum : p.allocator.vars ≡ 1 + obtained_by p.owns

module _ (p : SharedState) (l : SharedLedger) (st : Stands p l) where
  -- as many are opened as the ledger has
  pub opened_in : p.allocator.opened ≡ length l.owns
  opened_in = st.opened_is ∙ both-length (Own (length p.slots)) p.owns l.owns st.each

  -- a relation that is opened
  pub own-at : (r : ℕ) → r < p.allocator.opened → (handed : OwnState) → Own (length p.slots) (own_at p r handed) (own_ledger_at l r)
  own-at r h handed = both_at (Own (length p.slots)) p.owns l.owns st.each r (omega (arith, st.opened_is)) handed (new_own_ledger 0 0)

  -- is in step with its part of the ledger
  pub agrees : (m : OwnState) (e : OwnLedger) → Own (length p.slots) m e → Agrees e.width (seen p m) (judged_on l e)
  agrees m e o =
      record {
        least = o.least;
        most = o.most;
        width_is = o.width_is;
        count = st.count;
        in_slots = st.in_slots;
        in_queries = o.in_queries;
        in_equations = o.in_equations;
        counts = o.uses_are;
      }

-- ---- wires
-- one relation with n more
pub obtained-set : (ms : List OwnState) (r : ℕ) (d m : OwnState) (n : ℕ) → r < length ms
    → m.relation.obtained ≡ (get_or ms r d).relation.obtained + n → obtained_by (set ms r m) ≡ obtained_by ms + n
obtained-set [] r d m n h e = absurd (not-suc-le-zero h)
obtained-set (x ∷ ms) zero d m n h e = omega arith
obtained-set (x ∷ ms) (suc r) d m n h e = omega (arith, obtained-set ms r d m n (le_of_suc-le-suc h) e)

-- one relation more, with none
pub obtained-new : (ms : List OwnState) (m : OwnState) → m.relation.obtained ≡ 0 → obtained_by (ms ++ (m ∷ [])) ≡ obtained_by ms
obtained-new [] m e = omega arith
obtained-new (x ∷ ms) m e = omega (arith, obtained-new ms m e)

-- by the records and by the ledger
both-obtained : (n : ℕ) (ms : List OwnState) (es : List OwnLedger) → Both (Own n) ms es → obtained_by ms ≡ obtained_in es
both-obtained n [] [] t = refl
both-obtained n [] (e ∷ es) t = absurd t
both-obtained n (m ∷ ms) [] t = absurd t
both-obtained n (m ∷ ms) (e ∷ es) t = ap₂ (λ (a b : ℕ). a + b) t.0.obtained_is (both-obtained n ms es t.1)

all-within : (n : ℕ) (ms : List OwnState) (es : List OwnLedger) → Both (Own n) ms es → All (λ m. m.relation.obtained ≤ m.relation.quota) ms
all-within n [] es t = tt
all-within n (m ∷ ms) [] t = absurd t
all-within n (m ∷ ms) (e ∷ es) t = (t.0.within, all-within n ms es t.1)

all-within-in : (n : ℕ) (ms : List OwnState) (es : List OwnLedger) → Both (Own n) ms es → All (λ e. e.obtained ≤ e.quota) es
all-within-in n [] [] t = tt
all-within-in n [] (e ∷ es) t = absurd t
all-within-in n (m ∷ ms) [] t = absurd t
all-within-in n (m ∷ ms) (e ∷ es) t = (omega (arith, t.0.within, t.0.quota_is, t.0.obtained_is), all-within-in n ms es t.1)

pub counted : (p : SharedState) (l : SharedLedger) → Stands p l → Counted p l
counted p l st =
    record {
      vars = st.sum;
      count = omega (arith, st.count, st.sum, both-obtained (length p.slots) p.owns l.owns st.each);
      same = st.count;
      stored = st.in_slots.room;
      quotas = all-within (length p.slots) p.owns l.owns st.each;
      ledger_quotas = all-within-in (length p.slots) p.owns l.owns st.each;
      opened = st.opened_is;
      few = st.few;
    }
