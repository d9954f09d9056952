-- The gate of a relation that is opened is that of the relation alone with the shared count for its own: 42 says yes, and
-- what is asked before it is asked again with the same answer. That of a number that isn't opened goes no further than 42.
-- And what the others do after a gate leaves the relation's record and stores, from which the bytes are made.
-- Assumes nothing.
use Prim.Native.Nat.{ℕ, zero, suc, ◌<◌}
use mathlib.Core.Path.{◌≡◌, refl, sym, ap, ◌∙◌, subst}
use mathlib.Core.List.{List, [], ◌∷◌, ◌++◌}
use native.Mathlib.Omega.{arith}
use lib.ListN.{length, get_or, replicate, length-set, length-append, get_or-append}
use Rattle.limits.specs.Questions.{◌▸◌, first_no, on_yes}
use Rattle.limits.specs.Outcome.{outcome_of}
use Rattle.words.specs.Store.{All}
use Rattle.permutation.specs.Sharing.{Sharing, alone}
use Rattle.sharing.specs.Opening.{with_allocator_no}
use Rattle.sharing.proofs.Numbers.{first-again}
use Rattle.instance.specs.Looks.{no_instance}
use Rattle.compile.specs.Gate.{GateLent, publics_of, instance_of, publics_store, lent_sound_asks, made_asks, compile_front, compile_asks_with, compile_asks, compile_no, refused_by, compile, compile_publics}
use Rattle.shared_compile.specs.Gate.{compile_on_no, compile_on, compile_publics_on}
use Rattle.shared_history.specs.Calls.{OwnState, SharedState, SharedCall, Open, On, own_at, front_no, acted_on, shared_after, shared_final}
use Rattle.shared_history.specs.Whole.{Other}
use Rattle.shared_history.proofs.Lists.{get_d_set_other}
use Rattle.shared_history.proofs.Fronts.{gate-front}

-- ---- the gate, by the number of its front
module _ (h : Sharing) (l : GateLent) where
  -- where sharing puts in nothing that says no
  module _ (same : first_no (compile_front h l) ≡ first_no (compile_front alone l)) where
    number_is : compile_no l ≡ compile_on_no h l ▸ first_no (lent_sound_asks l ++ made_asks l)
    unfolding compile_no compile_on_no
    number_is = gate-front alone l ∙ ap (λ (k : ℕ). k ▸ first_no (lent_sound_asks l ++ made_asks l)) (sym same)

    pub asked_is : first_no (compile_asks_with h l) ≡ first_no (compile_asks l)
    asked_is = gate-front h l ∙ ap (λ (k : ℕ). k ▸ first_no (lent_sound_asks l ++ made_asks l)) same ∙ sym (gate-front alone l)

    pub compiled-is : compile_on h l ≡ compile l
    unfolding compile_on compile
    compiled-is =
        first-again
        (λ (j : ℕ). record { outcome = outcome_of j; instance = on_yes j (instance_of l.relation (length (publics_of l.relation l.slots))) no_instance })
        refused_by (compile_on_no h l) (compile_no l) _ number_is (λ j. refl)

    pub publics-are : compile_publics_on h l ≡ compile_publics l
    unfolding compile_publics_on compile_publics
    publics-are =
        first-again
        (λ (j : ℕ). on_yes j (publics_store l.publics (publics_of l.relation l.slots)) (replicate l.publics 0))
        (λ (j : ℕ). replicate l.publics 0) (compile_on_no h l) (compile_no l) _ number_is (λ j. refl)

-- ---- the others go on
kept : (r : ℕ) (handed : OwnState) (p : SharedState) → r < length p.owns → (d : SharedCall) → Other r d
    → (r < length (shared_after p d).owns) × (own_at (shared_after p d) r handed ≡ own_at p r handed)
unfolding shared_after
kept r handed p h (Open width quota queries equations uses) t = go (with_allocator_no p.allocator width (length p.slots) (length uses)) _
  where
    go : (k : ℕ) (m : OwnState) → (r < length (on_yes k (p.owns ++ (m ∷ [])) p.owns)) × (get_or (on_yes k (p.owns ++ (m ∷ [])) p.owns) r handed ≡ own_at p r handed)
    go zero m = (omega (arith, length-append p.owns (m ∷ [])), get_or-append p.owns (m ∷ []) handed r h)
    go (suc k) m = (h, refl)
kept r handed p h (On q any c) t = go (front_no p q (own_at p q any) c)
  where
    go : (k : ℕ) → (r < length (on_yes k (acted_on p q (own_at p q any) c) p).owns)
        × (own_at (on_yes k (acted_on p q (own_at p q any) c) p) r handed ≡ own_at p r handed)
    go zero = (subst (λ (n : ℕ). r < n) (sym (length-set p.owns q _)) h, get_d_set_other p.owns q r _ handed t)
    go (suc k) = (h, refl)

pub kept-all : (r : ℕ) (handed : OwnState) (ds : List SharedCall) (p : SharedState) → r < length p.owns → All (Other r) ds
    → own_at (shared_final p ds) r handed ≡ own_at p r handed
kept-all r handed [] p h t = refl
kept-all r handed (d ∷ ds) p h t =
    let k = kept r handed p h d t.0 in
    kept-all r handed ds (shared_after p d) k.0 t.1 ∙ k.1
