-- Where the slots are in step with a book, what is asked of pairs, and what a slot says of its wire, is settled by
-- the count and the sets. Assumes nothing.
use Prim.Native.Nat.{ℕ, zero, suc, ◌+◌, ◌≤◌, ◌<◌}
use mathlib.Core.Path.{◌≡◌, refl, sym, ap, ap₂, subst, ◌∙◌}
use mathlib.Core.Bool.{Bool, true, false}
use mathlib.Core.List.{List, [], ◌∷◌}
use mathlib.Core.Option.{Option, none, some}
use native.Mathlib.Omega.{arith}
use borrow.Author.Tests.{ltb-true, ltb-false}
use lib.Dec.{eqb, ltb}
use lib.ListN.{length, take, get_or, get_or-eq_default}
use lib.Seq.{get_or-take, length-take-le}
use Rattle.std.specs.Prelude.{Err, None, Ok, Some}
use Rattle.limits.specs.Numbers.{prime, unassigned, max_count}
use Rattle.limits.specs.Questions.{pick, ask, ◌▸◌, first_no, on_yes}
use Rattle.limits.proofs.Questions.{stays, ask-no, zero-▸}
use Rattle.words.specs.Store.{All}
use Rattle.allocator.specs.Slots.{Pair, is_fresh, pair_no, slot_takes, SetRun, ran, set_items, run_after, set_run, one_accepted}
use Rattle.allocator.specs.Values.{look, is_some, fits, slot_unit}
use Rattle.allocator.proofs.Accepted.{pair-yes}
use Rattle.allocator.proofs.Values.{slot-fits}
use Rattle.permutation.specs.Answers.{slot_value}
use Rattle.permutation.specs.State.{HoldsSlots}
use Rattle.permutation.specs.Left.{sets_take, set_var_left, items_left, items_set, pair_left, pairs_left, pairs_set, given}
use Rattle.permutation.proofs.Slots.{set_holds}

-- ---- pairs on slots that hold the sets
pub after-seven : (b c d : Bool) → (b ≡ true → c ≡ d) → ask 7 b ▸ (ask 8 c ▸ 0) ≡ ask 7 b ▸ (ask 8 d ▸ 0)
after-seven true c d f = ap (λ (s : Bool). ask 7 true ▸ (ask 8 s ▸ 0)) (f refl)
after-seven false c d f =
    let no : ask 7 false ≡ 0 → ⊥ = λ e. absurd (omega (arith, ask-no 7 false refl)) in
    stays _ _ no ∙ sym (stays _ _ no)

module _ (n : ℕ) (slots : List ℕ) (sets : List Pair) (o : HoldsSlots n slots sets) where
  pub takes-is : (p : Pair) → p.var < n → slot_takes slots p ≡ sets_take sets p
  takes-is p h =
      sym (slot-fits (get_or slots p.var unassigned) p.value)
      ∙ ap (λ (q : Option ℕ). fits q p.value) (ap slot_unit (sym (get_or-take n slots p.var unassigned h)) ∙ o.held p.var)

  -- a pair is fresh where the sets give its wire nothing
  fresh-is : (p : Pair) → p.var < n → ◌≡◌ {A = ℕ} (pick (is_fresh slots p) 1 0) (pick (is_some (look sets p.var)) 0 1)
  fresh-is p h =
      go (is_fresh slots p) (get_or slots p.var unassigned)
      ∙ ap (λ (q : Option ℕ). pick (is_some q) 0 1) (ap slot_unit (sym (get_or-take n slots p.var unassigned h)) ∙ o.held p.var)
    where
      go : (b : Bool) (v : ℕ) → ◌≡◌ {A = ℕ} (pick b 1 0) (pick (is_some (pick b none (some v))) 0 1)
      go true v = refl
      go false v = refl

  pub pair_left_lem : (p : Pair) → pair_no n slots p ≡ first_no (set_var_left n sets p)
  unfolding pair_no
  pair_left_lem p =
      ap (λ (k : ℕ). ask 3 (ltb p.var max_count) ▸ (ask 4 (ltb p.value prime) ▸ k))
      (after-seven (ltb p.var n) (slot_takes slots p) (sets_take sets p) (λ e. takes-is p (ltb-true p.var n e)))

-- ---- items in turn
-- of pairs that join the sets one by one, how many name a wire that the sets give nothing just before
abbrev pub newly : (sets ps : List Pair) → ℕ
newly sets [] = 0
newly sets (p ∷ ps) = pick (is_some (look sets p.var)) 0 1 + newly (p ∷ sets) ps

-- a run by count and sets alone: its number is k, and `ps` are the pairs that it set
pub record RunLeft (n : ℕ) (sets ps : List Pair) (k : ℕ) (r : SetRun) : Type 0 where
  pub number : r.number ≡ k
  pub accepted : r.accepted ≡ length ps
  pub fresh : r.fresh ≡ newly sets ps
  pub below : All (λ p. p.var < n) ps

-- behind earlier questions
pub after-left : (n : ℕ) (sets ps : List Pair) (j k : ℕ) (r : SetRun) (slots : List ℕ) → RunLeft n sets ps j r
    → RunLeft n sets (on_yes k ps []) (k ▸ j) (run_after k r slots)
after-left n sets ps j zero r slots l =
    record { number = l.number ∙ sym (zero-▸ j); accepted = l.accepted; fresh = l.fresh; below = l.below }
after-left n sets ps j (suc k) r slots l =
    record { number = sym (stays (suc k) j (λ z. absurd (omega arith))); accepted = refl; fresh = refl; below = tt }

-- where each item's number is settled by the sets, and an item is only accepted if its pair is
pub run-left : {A : Type 0} (no_of : List ℕ → A → ℕ) (left_of : List Pair → A → ℕ) (pair_of : A → Pair) (n : ℕ)
    → ((slots : List ℕ) (a : A) → no_of slots a ≡ 0 → pair_no n slots (pair_of a) ≡ 0)
    → ((slots : List ℕ) (sets : List Pair) → HoldsSlots n slots sets → (a : A) → no_of slots a ≡ left_of sets a)
    → (items : List A) (slots : List ℕ) (sets : List Pair) → HoldsSlots n slots sets
    → RunLeft n sets (items_set left_of pair_of sets items) (items_left left_of pair_of sets items) (set_items no_of pair_of slots items)
unfolding set_items
run-left no_of left_of pair_of n f g [] slots sets o = record { number = refl; accepted = refl; fresh = refl; below = tt }
run-left no_of left_of pair_of n f g (a ∷ items) slots sets o =
    subst (λ (k : ℕ). RunLeft n sets (on_yes k (p ∷ items_set left_of pair_of (p ∷ sets) items) []) (k ▸ items_left left_of pair_of (p ∷ sets) items) (set_items no_of pair_of slots (a ∷ items)))
    (g slots sets o a)
    (go (no_of slots a) _ _ _ refl (λ z. run-left no_of left_of pair_of n f g items _ (p ∷ sets) (set_holds n slots p (f slots a z) sets o)))
  where
    p : Pair
    p = pair_of a

    go : (k : ℕ) (ps : List Pair) (j : ℕ) (r : SetRun) → no_of slots a ≡ k → (no_of slots a ≡ 0 → RunLeft n (p ∷ sets) ps j r)
        → RunLeft n sets (on_yes k (p ∷ ps) []) (k ▸ j) (on_yes k (one_accepted (is_fresh slots p) r) (ran k 0 0 slots))
    go zero ps j r e h =
        let l = h e in
        let below = (pair-yes n slots p (f slots a e)).below in
        record {
          number = l.number ∙ sym (zero-▸ j);
          accepted = ap suc l.accepted;
          fresh = ap₂ ◌+◌ (fresh-is n slots sets o p below) l.fresh;
          below = (below, l.below);
        }
    go (suc k) ps j r e h =
        record { number = sym (stays (suc k) j (λ z. absurd (omega arith))); accepted = refl; fresh = refl; below = tt }

-- pairs are such items
pub pairs-left : (n : ℕ) (ps : List Pair) (slots : List ℕ) (sets : List Pair) → HoldsSlots n slots sets
    → RunLeft n sets (pairs_set n sets ps) (pairs_left n sets ps) (set_run n slots ps)
pairs-left n = run-left (pair_no n) (pair_left n) (λ p. p) n (λ slots p z. z) (λ slots sets o p. pair_left_lem n slots sets o p)

-- ---- a slot's value is what the sets give its wire
module _ (n : ℕ) (slots : List ℕ) (sets : List Pair) (o : HoldsSlots n slots sets) where
  pub slot-given : (x : ℕ) → pick (ltb x n) (slot_value (get_or slots x unassigned)) (Ok None) ≡ given (look sets x)
  slot-given x = go (ltb x n) refl
    where
      held_by : (h : ℕ) (b : Bool) → pick b (Ok None) (Ok (Some h)) ≡ given (pick b none (some h))
      held_by h true = refl
      held_by h false = refl

      go : (b : Bool) → ltb x n ≡ b → pick b (slot_value (get_or slots x unassigned)) (Ok None) ≡ given (look sets x)
      go true e =
          held_by (get_or slots x unassigned) (eqb (get_or slots x unassigned) unassigned)
          ∙ ap given (ap slot_unit (sym (get_or-take n slots x unassigned (ltb-true x n e))) ∙ o.held x)
      go false e =
          let l : length (take n slots) ≡ n = length-take-le n slots o.room in
          let f : length (take n slots) ≤ x = omega (arith, ltb-false x n e) in
          ap given (ap slot_unit (sym (get_or-eq_default (take n slots) unassigned f)) ∙ o.held x)
