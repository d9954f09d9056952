-- A mint by the number that is asked before it is handed on: refused there, it is refused with the number of its front;
-- else the mint of the relation alone answers and leaves what the front's number would. Assumes nothing.
use Prim.Native.Nat.{ℕ, zero, suc, ◌+◌, ◌≤◌}
use mathlib.Core.Path.{◌≡◌, refl, sym, ap, ◌∙◌}
use mathlib.Core.Bool.{Bool, true, false}
use mathlib.Core.List.{List, ◌++◌}
use borrow.Author.Tests.{leb-true}
use lib.Dec.{leb}
use lib.ListN.{length}
use Rattle.std.specs.Prelude.{Err}
use Rattle.limits.specs.declared.Refused.{Refused}
use Rattle.limits.specs.Outcome.{as_is}
use Rattle.permutation.specs.Records.{First, Allocated, allocated}
use Rattle.recording.specs.Effects.{AllocatesPermutation}
use Rattle.sharing.specs.Records.{AllocatedOn, first_on}
use Rattle.sharing.proofs.Answered.{all-refused}
use Rattle.limits.specs.Questions.{pick, ◌▸◌, Question, first_no, on_yes}
use Rattle.limits.proofs.Questions.{ask-yes, both, join, stays, goes_on, ▸-zero, first_no-append, puts, puts-yes}
use Rattle.uses.specs.Uses.{uses_after}
use Rattle.allocator.specs.Slots.{grown_slots, room_asks}
use Rattle.permutation.specs.Sharing.{Sharing, alone}
use Rattle.permutation.specs.Answers.{allocated_of, more_vars}
use Rattle.permutation.specs.declared.PermutationRelation.{PermutationRelation}
use Rattle.recording.specs.Relation.{mint_sizes, mint_asks, join_asks, mint_cells}
use Rattle.recording.specs.Numbers.{allocate_permutation_no}
use Rattle.recording.specs.Answers.{one_query, queries_with, allocate_permutation, allocate_permutation_slots, allocate_permutation_queries, allocate_permutation_uses}
use Rattle.sharing.specs.Shares.{on_allocator, shares, quota_asks}
use Rattle.sharing.specs.Answers.{allocated_on, allocated_not, DoesAll}
use Rattle.sharing.specs.declared.VarAllocator.{VarAllocator}
use Rattle.sharing.specs.declared.SharedRelation.{SharedRelation}
use Rattle.sharing.proofs.Numbers.{puts-in, subsequence, front-alone, first-again}
use Rattle.shared_recording.specs.Answers.{allocate_permutation_on_no, mint_front_no, allocate_permutation_on, allocate_permutation_on_slots, allocate_permutation_on_queries, allocate_permutation_on_uses}

module _ (a : VarAllocator) (r : ℕ) (m : SharedRelation) (slots len : ℕ) (uses input : List ℕ) where
  abbrev rel : PermutationRelation
  rel = on_allocator a m

  abbrev sizes : Sharing → List Question
  sizes h = mint_sizes h rel slots len (length uses) input

  -- 9, 3, 5 and 43
  abbrev quota : List Question
  quota = quota_asks m.quota m.obtained m.width

  abbrev asks : List Question
  asks = mint_asks rel input ++ quota

  -- 6, 11 and 10
  abbrev rest : List Question
  rest = room_asks rel.vars slots rel.width ++ join_asks rel slots len uses (mint_cells rel input)

  front-is : allocate_permutation_on_no a r m slots len (length uses) input ≡ first_no (sizes (shares a r m)) ▸ first_no asks
  unfolding allocate_permutation_on_no
  front-is = first_no-append (sizes (shares a r m)) asks

  -- refused: with the front's number
  refused-go : (b : Bool) (k : ℕ) → (k ▸ pick b 0 (first_no asks) ≡ 0 → ⊥) → k ▸ pick b 0 (first_no asks) ≡ k ▸ first_no asks
  refused-go true k h = ▸-zero k ∙ sym (stays k (first_no asks) (λ z. h (▸-zero k ∙ z)))
  refused-go false k h = refl

  pub mint-refused : (mint_front_no a r m slots len (length uses) input ≡ 0 → ⊥) → mint_front_no a r m slots len (length uses) input ≡ allocate_permutation_on_no a r m slots len (length uses) input
  unfolding mint_front_no
  mint-refused h = refused-go (leb (m.obtained + m.width) m.quota) (first_no (sizes (shares a r m))) h ∙ sym front-is

  -- let through: the quota holds the wires
  within-go : (b : Bool) → leb (m.obtained + m.width) m.quota ≡ b → pick b 0 (first_no asks) ≡ 0 → leb (m.obtained + m.width) m.quota ≡ true
  within-go true e z = e
  within-go false e z = puts-yes asks z 43 _ tt (search puts depth 20)

  quota-says : mint_front_no a r m slots len (length uses) input ≡ 0 → leb (m.obtained + m.width) m.quota ≡ true
  unfolding mint_front_no
  quota-says z = within-go (leb (m.obtained + m.width) m.quota) refl (both _ _ z).1

  pub mint-within : mint_front_no a r m slots len (length uses) input ≡ 0 → m.obtained + m.width ≤ m.quota
  mint-within z = leb-true _ _ (quota-says z)

  -- and a relation alone is asked 9, 3, 5, as the front is, and then the rest
  sizes-yes : mint_front_no a r m slots len (length uses) input ≡ 0 → first_no (sizes (shares a r m)) ≡ 0
  unfolding mint_front_no
  sizes-yes z = (both _ _ z).0

  pub mint-number : mint_front_no a r m slots len (length uses) input ≡ 0
      → allocate_permutation_no rel slots len uses input ≡ allocate_permutation_on_no a r m slots len (length uses) input ▸ first_no rest
  unfolding allocate_permutation_no
  mint-number z =
      let s = sizes-yes z in
      let y = front-alone a r m sizes (search puts-in depth 20) (search subsequence depth 40) s in
      let q : first_no quota ≡ 0 = join _ _ (ask-yes 43 _ (quota-says z)) refl in
      let n = first_no-append (mint_asks rel input) quota ∙ ap (λ (k : ℕ). first_no (mint_asks rel input) ▸ k) q ∙ ▸-zero _ in
      first_no-append (sizes alone) (mint_asks rel input ++ rest)
      ∙ goes_on _ _ y
      ∙ first_no-append (mint_asks rel input) rest
      ∙ ap (λ (k : ℕ). k ▸ first_no rest) (sym (front-is ∙ goes_on _ _ s ∙ n))

-- what is answered and left
module _ (a : VarAllocator) (r : ℕ) (m : SharedRelation) (slots queries uses input : List ℕ)
    (z : mint_front_no a r m (length slots) (length queries) (length uses) input ≡ 0) where
  abbrev as-alone : PermutationRelation
  as-alone = on_allocator a m

  abbrev cells : List ℕ
  cells = mint_cells as-alone input

  abbrev front : ℕ
  front = allocate_permutation_on_no a r m (length slots) (length queries) (length uses) input

  abbrev number : ℕ
  number = allocate_permutation_no as-alone (length slots) (length queries) uses input

  abbrev after_front : ℕ
  after_front = first_no (rest a r m (length slots) (length queries) uses input)

  number_is : number ≡ front ▸ after_front
  number_is = mint-number a r m (length slots) (length queries) uses input z

  pub mint-answer : allocate_permutation_on a r m slots queries uses input
      ≡ allocated_on a m (allocate_permutation as-alone slots queries uses input) (m.obtained + m.width)
  mint-answer =
      first-again
      (λ (n : ℕ). allocated_on a m (allocated_of n a.vars (one_query (more_vars as-alone m.width) (length slots) cells) as-alone) (m.obtained + m.width))
      (allocated_not a m) front number after_front number_is (λ j. refl)

  pub mint-slots : allocate_permutation_on_slots a r m slots queries uses input ≡ allocate_permutation_slots as-alone slots queries uses input
  mint-slots =
      first-again (λ (n : ℕ). on_yes n (grown_slots a.vars m.width slots) slots) (λ (n : ℕ). slots) front number after_front number_is (λ j. refl)

  pub mint-queries : allocate_permutation_on_queries a r m slots queries uses input ≡ allocate_permutation_queries as-alone slots queries uses input
  mint-queries =
      first-again (λ (n : ℕ). on_yes n (queries_with as-alone cells queries) queries) (λ (n : ℕ). queries) front number after_front number_is (λ j. refl)

  pub mint-uses : allocate_permutation_on_uses a r m slots queries uses input ≡ allocate_permutation_uses as-alone slots queries uses input
  mint-uses =
      first-again (λ (n : ℕ). on_yes n (uses_after false uses cells) uses) (λ (n : ℕ). uses) front number after_front number_is (λ j. refl)

-- ---- the call: refused before it is handed on
module _ (a : VarAllocator) (r : ℕ) (m : SharedRelation) (slots queries uses input : List ℕ) where
  abbrev Mints : AllocatedOn → (slots₁ queries₁ uses₁ : List ℕ) → Type 0
  Mints =
      DoesAll as_is (allocate_permutation_on a r m slots queries uses input) (allocate_permutation_on_slots a r m slots queries uses input)
      (allocate_permutation_on_queries a r m slots queries uses input) (allocate_permutation_on_uses a r m slots queries uses input)

  abbrev asked : ℕ
  asked = mint_front_no a r m (length slots) (length queries) (length uses) input

  pub mints-not : {o : First} {e : Refused} → o ≡ Err e → asked ≡ e.0 → (e.0 ≡ 0 → ⊥) → Mints (first_on o a m) slots queries uses
  mints-not {e = e} is n h =
      let k = mint-refused a r m (length slots) (length queries) uses input (λ z. h (sym n ∙ z)) in
      rw is (all-refused _ e.0 (sym n ∙ k) h (allocated_not a m) _ slots _ queries _ uses _)

  -- or what the mint of the relation alone comes to: `done` is its answer and record, w what they are taken for
  module _ (z : asked ≡ 0) (x : PermutationRelation) (is : x ≡ on_allocator a m) (done : Allocated) (slots₁ queries₁ uses₁ : List ℕ)
      (d : AllocatesPermutation as_is x slots queries uses input done slots₁ queries₁ uses₁) where
    pub mints : (w : AllocatedOn) → w ≡ allocated_on a m done (m.obtained + m.width) → Mints w slots₁ queries₁ uses₁
    mints w e =
        record {
          answers =
              e
              ∙ ap (λ (v : Allocated). allocated_on a m v (m.obtained + m.width)) (d.answer ∙ ap (λ (y : PermutationRelation). allocate_permutation y slots queries uses input) is)
              ∙ sym (mint-answer a r m slots queries uses input z);
          leaves = d.slots ∙ ap (λ (y : PermutationRelation). allocate_permutation_slots y slots queries uses input) is ∙ sym (mint-slots a r m slots queries uses input z);
          leaves-too = d.queries ∙ ap (λ (y : PermutationRelation). allocate_permutation_queries y slots queries uses input) is ∙ sym (mint-queries a r m slots queries uses input z);
          leaves_last = d.uses ∙ ap (λ (y : PermutationRelation). allocate_permutation_uses y slots queries uses input) is ∙ sym (mint-uses a r m slots queries uses input z);
        }

-- where that mint is refused the records are as they were
pub mint-given : (a : VarAllocator) (m : SharedRelation) (k v more : ℕ) (new given y : PermutationRelation) {o p : First} {e : Refused}
    → o ≡ Err e → p ≡ Err e → given ≡ on_allocator a m → allocated p y ≡ allocated_of k v new given
    → first_on o a m ≡ allocated_on a m (allocated p y) more
mint-given a m zero v more new given y is was x f = let n = ap (λ (w : Allocated). w.first) f in cc
mint-given a m (suc k) v more new given y is was x f =
    let n : y ≡ on_allocator a m = ap (λ (w : Allocated). w.relation) f ∙ x in
    rw (is, was, n) refl
