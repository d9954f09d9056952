-- A gate's yes on parts whose slots hold the ledger's sets: the publics carry the sets, everything is below
-- the count, and a term whose wire is not known has weight 0. So the check of such parts is as demanded.
-- Assumes nothing.
use Prim.Native.Nat.{ℕ, ◌+◌}
use mathlib.Core.Path.{◌≡◌, sym, ap, ◌∙◌}
use mathlib.Core.Bool.{Bool, true, false, ◌||◌, or-false}
use mathlib.Core.Logic.{◌⊎◌, inl, inr, ◌↔◌}
use mathlib.Core.List.{List}
use lib.ListN.{length, take}
use Rattle.limits.specs.Outcome.{outcome_of}
use Rattle.words.specs.Store.{All}
use Rattle.words.specs.Pieces.{flat}
use Rattle.words.proofs.Lists.{all_map}
use Rattle.allocator.specs.Slots.{Pair}
use Rattle.allocator.specs.Values.{is_some, nothing, put_all, look}
use Rattle.permutation.specs.State.{HoldsSlots}
use Rattle.instance.specs.Parts.{pair_vars, has}
use Rattle.validated.specs.Validated.{bound}
use Rattle.validated.proofs.Facts.{Valid}
use Rattle.compile.specs.Gate.{publics_from}
use Rattle.validity.specs.Check.{check_no}
use Rattle.history.specs.Ledger.{Ledger, known}
use Rattle.history.specs.Demand.{Checked}
use Rattle.history.proofs.Carry.{domain}
use Rattle.history.proofs.Bridge.{ledger_parts, Carries, checked}
use Rattle.history.proofs.Publics.{publics-carry, look-domain}
use Rattle.history.proofs.Shapes.{IsTrace}

-- a wire that is not bound has weight 0
weightless-by : (b : Bool) (k : ℕ) → (b ≡ true) ⊎ (k ≡ 0) → b ≡ false → k ≡ 0
weightless-by b k (inl e) z = cc
weightless-by b k (inr e) z = e

-- ---- slots that hold the sets, and the gate's yes
module _ (w : ℕ) (ledger : Ledger) (n : ℕ) (slots : List ℕ) (o : HoldsSlots n slots ledger.sets)
    (widths : All (λ q. length q ≡ w + w) ledger.queries) where
  abbrev pub publics : List Pair
  publics = publics_from 0 (take n slots)

  carried-is : (x : ℕ) → put_all nothing publics x ≡ look ledger.sets x
  carried-is x = publics-carry (take n slots) x ∙ o.held x

  -- a wire is bound exactly where it is known
  pub bound-is : (x : ℕ) → bound (ledger_parts ledger n publics) x ≡ known ledger x
  bound-is x =
      ap (λ (t : Bool). t || has (flat ledger.queries) x)
      (sym (or-false (has (pair_vars publics) x)) ∙ sym (domain nothing publics x) ∙ ap is_some (carried-is x) ∙ look-domain ledger.sets x)

  carries : Valid (ledger_parts ledger n publics) → Carries w ledger n publics
  carries v = record {
    agree = all_map _ _ ledger.sets (λ p h. carried-is p.var ∙ h) o.agree;
    only = λ x. ap is_some (carried-is x) ∙ look-domain ledger.sets x;
    units = λ x v h. o.units x v (sym (carried-is x) ∙ h);
    zeroth = carried-is 0 ∙ o.zeroth;
    widths = widths;
    below = record {
      publics = v.publics;
      queries = v.queries;
      terms = all_map _ _ ledger.equations (λ q. all_map _ _ q.terms (λ t h. h.0)) v.terms;
    };
    weights = all_map _ _ ledger.equations
        (λ q. all_map _ _ q.terms (λ t h k. weightless-by _ _ h.1 (bound-is t.var ∙ k))) v.terms;
  }

  pub checked-by : Valid (ledger_parts ledger n publics)
      → (ev : List ℕ → Bool) (trace : List (List ℕ)) → IsTrace w trace
      → (Evaluation : List ℕ → Type 0) → All (λ s. ev s ≡ true) trace ↔ All Evaluation trace
      → Checked Evaluation ledger (ledger_parts ledger n publics) trace (outcome_of (check_no ev (ledger_parts ledger n publics) trace))
  checked-by v ev trace tr Evaluation same-steps = checked ev w ledger n publics (carries v) trace tr Evaluation same-steps
