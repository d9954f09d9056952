-- The value of a wire, and whether it is allocated: the numbers of the answers. Assumes nothing.
use Prim.Native.Nat.{ℕ, zero, suc, ◌≤◌, ◌<◌}
use mathlib.Core.Path.{◌≡◌, refl, sym, ◌∙◌}
use mathlib.Core.Bool.{Bool, true, false}
use mathlib.Core.List.{List}
use borrow.Author.Tests.{lt-ltb, le-ltb, eq-eqb, ne_eqb}
use lib.Dec.{eqb, ltb}
use lib.ListN.{length, get_or}
use Rattle.limits.specs.Outcome.{refusal}
use Rattle.std.specs.Prelude.{Err, None, Ok, Some}
use Rattle.limits.specs.Numbers.{unassigned}
use Rattle.limits.specs.Questions.{pick, on_yes}
use Rattle.words.proofs.Lists.{get_d_any}
use Rattle.permutation.specs.Numbers.{value_of_no, is_allocated_no}
use Rattle.allocator.specs.VarValue.{value_number}
use Rattle.permutation.specs.Answers.{is_allocated_number, value_of, is_allocated}
use Rattle.limits.proofs.Answered.{stays_by}
use Rattle.permutation.specs.declared.PermutationRelation.{PermutationRelation}

-- ---- an answer's number is the first no of the questions
pub value-number : (rel : PermutationRelation) (slots : List ℕ) (x : ℕ) → value_number (value_of rel slots x) ≡ value_of_no rel (length slots) x
value-number rel slots x =
    go (value_of_no rel (length slots) x) (ltb x rel.vars) (eqb (get_or slots x unassigned) unassigned) (get_or slots x unassigned)
  where
    go : (k : ℕ) (b c : Bool) (h : ℕ)
        → value_number (on_yes k (pick b (pick c (Ok None) (Ok (Some h))) (Ok None)) (Err (refusal k))) ≡ k
    go zero true true h = refl
    go zero true false h = refl
    go zero false c h = refl
    go (suc k) b c h = refl

pub is_allocated-number : (rel : PermutationRelation) (x : ℕ) → is_allocated_number (is_allocated rel x) ≡ is_allocated_no rel x
is_allocated-number rel x = go (is_allocated_no rel x) (ltb x rel.vars)
  where
    go : (k : ℕ) (b : Bool) → is_allocated_number (on_yes k (Ok b) (Err (refusal k))) ≡ k
    go zero b = refl
    go (suc k) b = refl
