-- The order of record's and mint's questions where several say no (document 02's R-6), and what the counts become, as one
-- fact of the definitions: width 1, and a store for one query. Assumes nothing.
use Prim.Native.Nat.{ℕ}
use mathlib.Core.Path.{◌≡◌, refl}
use mathlib.Core.List.{List, [], ◌∷◌}
use Rattle.limits.specs.Questions.{ask, first_of_two, first_no}
use Rattle.words.specs.Store.{all_below}
use Rattle.uses.specs.Uses.{times, strays, uses_after, all_fit}
use Rattle.permutation.specs.Sharing.{alone}
use Rattle.permutation.specs.Answers.{relation, recorded_of}
use Rattle.permutation.specs.declared.PermutationRelation.{PermutationRelation}
use Rattle.recording.specs.Relation.{query_front}
use Rattle.recording.specs.Numbers.{add_permutation_no, allocate_permutation_no}
use Rattle.recording.specs.Answers.{add_permutation, add_permutation_uses, allocate_permutation_uses}

-- so many wires and queries
abbrev rel : (vars queries : ℕ) → PermutationRelation
rel vars queries = relation 1 vars queries 0 0 0

-- wire 1 can't be counted once more, in a store that is a word short of three slots
abbrev full : List ℕ
full = 0 ∷ 1073741824 ∷ []

abbrev none : List ℕ
none = 0 ∷ 0 ∷ 0 ∷ []

pub record Examples : Type 0 where
  -- 2: of the slots and of the use store, and of the wire count
  pub slots-large : first_no (query_front alone (rel 3 1) 1073741825 2 3 []) ≡ 2
  pub uses-large : first_no (query_front alone (rel 3 1) 3 2 1073741825 []) ≡ 2
  pub wires-past : first_no (query_front alone (rel 4 1) 3 2 3 []) ≡ 2
  -- record: 9, 3, 11, and 10 of the use store and of the queries' room
  pub nine : add_permutation_no (rel 3 1) 3 2 full [] (1073741824 ∷ []) ≡ 9
  pub three : add_permutation_no (rel 3 1) 3 2 full (1 ∷ []) (1073741824 ∷ []) ≡ 3
  pub eleven : add_permutation_no (rel 3 1) 3 2 full (1 ∷ []) (2 ∷ []) ≡ 11
  pub short : add_permutation_no (rel 3 0) 3 2 full (0 ∷ []) (2 ∷ []) ≡ 10
  pub no_room : add_permutation_no (rel 3 1) 3 2 none (1 ∷ []) (2 ∷ []) ≡ 10
  -- mint: 5, 6, 11, 10
  pub five : allocate_permutation_no (rel 1073741824 1) 1073741824 2 full (1 ∷ []) ≡ 5
  pub six : allocate_permutation_no (rel 3 1) 3 2 full (1 ∷ []) ≡ 6
  pub mint-eleven : allocate_permutation_no (rel 2 1) 3 2 full (1 ∷ []) ≡ 11
  pub mint-short : allocate_permutation_no (rel 2 0) 3 2 full (0 ∷ []) ≡ 10
  -- a cell counts on its slot, allocated or not, else it is stray; a mint's new wire counts too; refused, none does
  pub stray : add_permutation (rel 1 0) 3 (9 ∷ 9 ∷ []) none (2 ∷ []) (3 ∷ []) ≡ recorded_of 0 (relation 1 1 1 0 0 1) (rel 1 0)
  pub counted : add_permutation_uses (rel 1 0) 3 (9 ∷ 9 ∷ []) none (2 ∷ []) (3 ∷ []) ≡ 0 ∷ 0 ∷ 1 ∷ []
  pub minted : allocate_permutation_uses (rel 2 0) none (9 ∷ 9 ∷ []) none (1 ∷ []) ≡ 0 ∷ 1 ∷ 1 ∷ []
  pub refused : add_permutation_uses (rel 3 1) 3 (9 ∷ 9 ∷ []) none (1 ∷ []) (2 ∷ []) ≡ none

pub examples : Examples
unfolding ask first_of_two add_permutation_no allocate_permutation_no all_below times strays uses_after all_fit
examples =
    record {
      slots-large = refl;
      uses-large = refl;
      wires-past = refl;
      nine = refl;
      three = refl;
      eleven = refl;
      short = refl;
      no_room = refl;
      five = refl;
      six = refl;
      mint-eleven = refl;
      mint-short = refl;
      stray = refl;
      counted = refl;
      minted = refl;
      refused = refl;
    }
