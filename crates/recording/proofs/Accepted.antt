-- What an accepted call's questions say, as facts on numbers: one record a call. Assumes nothing.
use Prim.Native.Nat.{ℕ, ◌+◌, ◌*◌, ◌≤◌, ◌<◌}
use mathlib.Core.Path.{◌≡◌}
use mathlib.Core.Bool.{true}
use mathlib.Core.List.{List, ◌++◌}
use borrow.Author.Tests.{ltb-true, leb-true, eqb-true}
use lib.ListN.{length}
use Rattle.limits.specs.Numbers.{prime, max_count, max_width}
use Rattle.limits.specs.Questions.{first_no}
use Rattle.limits.proofs.Questions.{puts, puts-yes}
use Rattle.words.specs.Store.{all_below}
use Rattle.words.specs.Pieces.{words_of}
use Rattle.expr.specs.Equation.{Term, term_vars, term_weights, equation_size}
use Rattle.allocator.specs.Slots.{room_asks}
use Rattle.permutation.specs.Sharing.{alone}
use Rattle.recording.specs.Relation.{add_permutation_asks, allocate_permutation_front, allocate_permutation_asks, add_equation_asks}
use Rattle.recording.specs.Numbers.{add_permutation_no, allocate_permutation_no, add_equation_no}
use Rattle.permutation.specs.declared.PermutationRelation.{PermutationRelation}

-- ---- record
pub record AddPermutation (rel : PermutationRelation) (len : ℕ) (input output : List ℕ) : Type 0 where
  pub least : 1 ≤ rel.width
  pub store : len ≤ max_count
  pub held : words_of rel.width rel.queries ≤ len
  pub inputs : length input ≡ rel.width
  pub outputs : length output ≡ rel.width
  pub input_vars : all_below max_count input ≡ true
  pub output_vars : all_below max_count output ≡ true
  pub room : words_of rel.width (rel.queries + 1) ≤ len

pub add_permutation-yes : (rel : PermutationRelation) (slots len : ℕ) (uses input output : List ℕ)
    → add_permutation_no rel slots len uses input output ≡ 0 → AddPermutation rel len input output
unfolding add_permutation_no
add_permutation-yes rel slots len uses input output e =
    let says = puts-yes (add_permutation_asks rel slots len uses input output) e in
    record {
      least = leb-true _ _ (says 1 _ tt (search puts depth 20));
      store = leb-true _ _ (says 2 _ tt (search puts depth 20));
      held = leb-true _ _ (says 2 _ tt (search puts depth 20));
      inputs = eqb-true _ _ (says 9 _ tt (search puts depth 20));
      outputs = eqb-true _ _ (says 9 _ tt (search puts depth 20));
      input_vars = says 3 _ tt (search puts depth 20);
      output_vars = says 3 _ tt (search puts depth 20);
      room = leb-true _ _ (says 10 _ tt (search puts depth 20));
    }

-- ---- mint
-- before its counts
pub record Mints (rel : PermutationRelation) : Type 0 where
  pub width : rel.width ≤ max_width
  pub vars : rel.vars + rel.width ≤ max_count

pub mints-yes : (rel : PermutationRelation) (slots len uses : ℕ) (input : List ℕ)
    → first_no (allocate_permutation_front alone rel slots len uses input ++ room_asks rel.vars slots rel.width) ≡ 0 → Mints rel
mints-yes rel slots len uses input e =
    let says = puts-yes (allocate_permutation_front alone rel slots len uses input ++ room_asks rel.vars slots rel.width) e in
    record {
      width = leb-true _ _ (says 1 _ tt (search puts depth 20));
      vars = leb-true _ _ (says 5 _ tt (search puts depth 20));
    }

-- all of it
pub record AllocatePermutation (rel : PermutationRelation) (slots len : ℕ) (input : List ℕ) : Type 0 where
  pub least : 1 ≤ rel.width
  pub store : len ≤ max_count
  pub held : words_of rel.width rel.queries ≤ len
  pub inputs : length input ≡ rel.width
  pub input_vars : all_below max_count input ≡ true
  pub most : rel.vars + rel.width ≤ max_count
  pub slot_room : rel.vars + rel.width ≤ slots
  pub room : words_of rel.width (rel.queries + 1) ≤ len

pub allocate_permutation-yes : (rel : PermutationRelation) (slots len : ℕ) (uses input : List ℕ)
    → allocate_permutation_no rel slots len uses input ≡ 0 → AllocatePermutation rel slots len input
unfolding allocate_permutation_no
allocate_permutation-yes rel slots len uses input e =
    let says = puts-yes (allocate_permutation_asks rel slots len uses input) e in
    record {
      least = leb-true _ _ (says 1 _ tt (search puts depth 20));
      store = leb-true _ _ (says 2 _ tt (search puts depth 20));
      held = leb-true _ _ (says 2 _ tt (search puts depth 20));
      inputs = eqb-true _ _ (says 9 _ tt (search puts depth 20));
      input_vars = says 3 _ tt (search puts depth 20);
      most = leb-true _ _ (says 5 _ tt (search puts depth 20));
      slot_room = leb-true _ _ (says 6 _ tt (search puts depth 20));
      room = leb-true _ _ (says 10 _ tt (search puts depth 20));
    }

-- ---- equation
pub record AddEquation (rel : PermutationRelation) (len : ℕ) (terms : List Term) (image : ℕ) : Type 0 where
  pub store : len ≤ max_count
  pub held : 2 * rel.equations ≤ len
  pub vars : all_below max_count (term_vars terms) ≡ true
  pub weights : all_below prime (term_weights terms) ≡ true
  pub unit : image < prime
  pub room : rel.words + equation_size (length terms) ≤ len

pub add_equation-yes : (rel : PermutationRelation) (len : ℕ) (terms : List Term) (image : ℕ)
    → add_equation_no rel len terms image ≡ 0 → AddEquation rel len terms image
unfolding add_equation_no
add_equation-yes rel len terms image e =
    let says = puts-yes (add_equation_asks rel len terms image) e in
    record {
      store = leb-true _ _ (says 2 _ tt (search puts depth 20));
      held = leb-true _ _ (says 2 _ tt (search puts depth 20));
      vars = says 3 _ tt (search puts depth 20);
      weights = says 4 _ tt (search puts depth 20);
      unit = ltb-true _ _ (says 4 _ tt (search puts depth 20));
      room = leb-true _ _ (says 10 _ tt (search puts depth 20));
    }
