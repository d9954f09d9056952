-- What an accepted call's questions say, as facts on numbers: one record a call. Assumes nothing.
use Prim.Native.Nat.{ℕ, ◌+◌, ◌≤◌}
use mathlib.Core.Path.{◌≡◌, sym, ◌∙◌}
use mathlib.Core.List.{List}
use borrow.Author.Tests.{leb-true, eqb-true}
use lib.ListN.{length}
use Rattle.limits.specs.Numbers.{max_count, max_width}
use Rattle.limits.proofs.Questions.{both, first_no-append, puts, puts-yes}
use Rattle.allocator.specs.Slots.{Pair, pair_asks, pair_no}
use Rattle.permutation.specs.Sharing.{alone}
use Rattle.permutation.specs.Relation.{new_relation_asks, relation_asks, allocate_vars_asks, set_vars_front, value_of_asks}
use Rattle.permutation.specs.Numbers.{new_relation_no, allocate_vars_no, set_var_no, set_vars_no, value_of_no}
use Rattle.permutation.specs.declared.PermutationRelation.{PermutationRelation}

-- ---- fresh
pub record New (width len uses : ℕ) : Type 0 where
  pub least : 1 ≤ width
  pub most : width ≤ max_width
  pub store : len ≤ max_count
  pub room : 1 ≤ len
  pub same : uses ≡ len

pub new-yes : (width len uses : ℕ) → new_relation_no width len uses ≡ 0 → New width len uses
unfolding new_relation_no
new-yes width len uses e =
    let says = puts-yes (new_relation_asks width len uses) e in
    record {
      least = leb-true _ _ (says 1 _ tt (search puts depth 20));
      most = leb-true _ _ (says 1 _ tt (search puts depth 20));
      store = leb-true _ _ (says 2 _ tt (search puts depth 20));
      room = leb-true _ _ (says 6 _ tt (search puts depth 20));
      same = eqb-true _ _ (says 10 _ tt (search puts depth 20));
    }

-- ---- allocate
pub record AllocateVars (rel : PermutationRelation) (len n : ℕ) : Type 0 where
  pub most : rel.vars + n ≤ max_count
  pub room : rel.vars + n ≤ len

pub allocate_vars-yes : (rel : PermutationRelation) (len n : ℕ) → allocate_vars_no rel len n ≡ 0 → AllocateVars rel len n
unfolding allocate_vars_no
allocate_vars-yes rel len n e =
    let says = puts-yes (allocate_vars_asks rel len n) e in
    record { most = leb-true _ _ (says 5 _ tt (search puts depth 20)); room = leb-true _ _ (says 6 _ tt (search puts depth 20)) }

-- ---- set: what the pair answers
pub set_var-yes : (rel : PermutationRelation) (slots : List ℕ) (p : Pair) → set_var_no rel slots p ≡ 0 → pair_no rel.vars slots p ≡ 0
unfolding set_var_no pair_no
set_var-yes rel slots p e =
    (both _ _ (sym (first_no-append (relation_asks rel (length slots)) (pair_asks rel.vars slots p)) ∙ e)).1

-- ---- set list, before its pairs
pub set_vars-yes : (rel : PermutationRelation) (len : ℕ) (vars values : List ℕ) → set_vars_no rel len vars values ≡ 0
    → length vars ≤ max_count
unfolding set_vars_no
set_vars-yes rel len vars values e =
    leb-true _ _ (puts-yes (set_vars_front alone rel len vars values) e 2 _ tt (search puts depth 20))

-- ---- value: the slots hold the wires
pub value-yes : (rel : PermutationRelation) (len var : ℕ) → value_of_no rel len var ≡ 0 → rel.vars ≤ len
unfolding value_of_no
value-yes rel len var e = leb-true _ _ (puts-yes (value_of_asks rel len var) e 2 _ tt (search puts depth 20))
