-- The number that a call of a relation on an allocator shows is the first no of its whole list of questions.
--
-- The call puts its front with what sharing puts in, and then the same call on a relation alone puts its front again.
-- Sharing only puts questions in, but for those of the wire count, which are put where a relation is opened; and where
-- 42 says yes one is. So where the front with sharing says yes everywhere, the front alone does too, and what is left is
-- the rest of the list. Assumes nothing.
use Prim.Native.Nat.{ℕ, zero, suc, ◌<◌}
use mathlib.Core.Path.{◌≡◌, refl, sym, ap, ◌∙◌, subst}
use mathlib.Core.Bool.{Bool, true}
use mathlib.Core.List.{List, [], ◌∷◌, ◌++◌}
use native.Mathlib.Omega.{arith}
use borrow.Author.Tests.{ltb-true, lt-ltb}
use lib.Dec.{ltb}
use lib.ListN.{length}
use Rattle.limits.specs.Questions.{first_of_two, ◌▸◌, Question, first_no, on_yes}
use Rattle.limits.specs.Outcome.{outcome_number}
use Rattle.limits.proofs.Questions.{both, join, zero-▸, goes_on, stays, first_no-append, Puts, here, there, puts-after, puts-yes}
use Rattle.limits.proofs.Answered.{outcome-number}
use Rattle.permutation.specs.Sharing.{Sharing, alone}
use Rattle.sharing.specs.Shares.{any_opened, opened_asks, quota_asks, shares}
use Rattle.sharing.specs.Opening.{with_allocator_asks, with_allocator_no, with_allocator}
use Rattle.sharing.specs.declared.VarAllocator.{VarAllocator}
use Rattle.sharing.specs.declared.SharedRelation.{SharedRelation}

-- ---- lists of questions
-- a question that is put is put where others follow
pub puts-before : {k : ℕ} {b : Bool} {ps : List Question} → Puts k b ps → (qs : List Question) → Puts k b (ps ++ qs)
puts-before here qs = here
puts-before (there p) qs = there (puts-before p qs)

-- found by `search puts-in depth 20`
pub ruleset puts-in = (here, there, puts-after, puts-before)

-- the first are among the second, in their order
pub data Subsequence : List Question → List Question → Type 0 where
  none : Subsequence [] []
  kept : {q : Question} {ps qs : List Question} → Subsequence ps qs → Subsequence (q ∷ ps) (q ∷ qs)
  put_in : {q : Question} {ps qs : List Question} → Subsequence ps qs → Subsequence ps (q ∷ qs)

-- found by `search subsequence depth 40`
pub ruleset subsequence = (none, kept, put_in)

-- where all say yes, those do
subsequence-yes : {ps qs : List Question} → Subsequence ps qs → first_no qs ≡ 0 → first_no ps ≡ 0
subsequence-yes none e = e
subsequence-yes (kept p) e = join _ _ (both _ _ e).0 (subsequence-yes p (both _ _ e).1)
subsequence-yes (put_in p) e = subsequence-yes p (both _ _ e).1

-- ---- what a call's answer shows, by the number of its front: `shows` takes it from the answer, `of` makes it of a number
by_front : {A B : Type 0} (shows : A → B) (of : ℕ → B) (k rest : ℕ) (new old : A)
    → ((j : ℕ) → k ≡ suc j → shows old ≡ of (suc j)) → (k ≡ 0 → shows new ≡ of rest) → shows (on_yes k new old) ≡ of (k ▸ rest)
by_front shows of zero rest new old o n = n refl ∙ ap of (sym (zero-▸ rest))
by_front shows of (suc k) rest new old o n = o k refl ∙ ap of (sym (stays (suc k) rest (λ z. absurd (omega (arith, z)))))

-- what a number does whose beginning is asked first
pub first-again : {A : Type 0} (f g : ℕ → A) (k n rest : ℕ) → n ≡ k ▸ rest → ((j : ℕ) → f (suc j) ≡ g (suc j)) → on_yes k (f n) (g k) ≡ f n
unfolding first_of_two
first-again f g zero n rest e h = refl
first-again f g (suc k) n rest e h = sym (h k) ∙ ap f (sym e)

module _ (a : VarAllocator) (r : ℕ) (m : SharedRelation) where
  -- what sharing puts in where the wire count is asked, or isn't
  abbrev pub counting : Bool → Sharing
  counting b = record { counted = b; opened = opened_asks a r; within = quota_asks m.quota m.obtained }

  -- relation r is opened: so one is
  pub some-opened : r < a.opened → any_opened a ≡ true
  some-opened h = lt-ltb 0 a.opened (omega (arith, h))

  -- `front` is the front of a call's questions by what sharing puts in; 42 is one of them
  module _ (front : Sharing → List Question) (asked : Puts 42 (ltb r a.opened) (front (shares a r m)))
      (inserted : Subsequence (front alone) (front (counting true))) where
    -- where it says yes everywhere, relation r is opened
    pub is-opened : first_no (front (shares a r m)) ≡ 0 → r < a.opened
    is-opened e = ltb-true r a.opened (puts-yes (front (shares a r m)) e 42 _ tt asked)

    -- and a relation alone is let through
    pub front-alone : first_no (front (shares a r m)) ≡ 0 → first_no (front alone) ≡ 0
    front-alone e = subsequence-yes inserted (subst (λ (b : Bool). first_no (front (counting b)) ≡ 0) (some-opened (is-opened e)) e)

    -- what an answer shows by the front: `new` is that of a relation alone, `old` the refusal
    pub shown-on : {A B : Type 0} (shows : A → B) (of : ℕ → B) (rest : List Question) (new old : A)
        → shows new ≡ of (first_no (front alone ++ rest)) → ((j : ℕ) → first_no (front (shares a r m)) ≡ suc j → shows old ≡ of (suc j))
        → shows (on_yes (first_no (front (shares a r m))) new old) ≡ of (first_no (front (shares a r m) ++ rest))
    shown-on shows of rest new old n o =
        by_front shows of (first_no (front (shares a r m))) (first_no rest) new old o
        (λ e. n ∙ ap of (first_no-append (front alone) rest ∙ goes_on (first_no (front alone)) (first_no rest) (front-alone e)))
        ∙ ap of (sym (first_no-append (front (shares a r m)) rest))

    -- its number
    pub number-on : {A : Type 0} (number : A → ℕ) (rest : List Question) (new old : A)
        → number new ≡ first_no (front alone ++ rest) → number old ≡ first_no (front (shares a r m))
        → number (on_yes (first_no (front (shares a r m))) new old) ≡ first_no (front (shares a r m) ++ rest)
    number-on number rest new old n o = shown-on number (λ k. k) rest new old n (λ j e. o ∙ e)

-- ---- an opening
pub with_allocator-number : (a : VarAllocator) (width quota : ℕ) (slots uses : List ℕ)
    → outcome_number (with_allocator a width quota slots uses).outcome ≡ first_no (with_allocator_asks a width (length slots) (length uses))
unfolding with_allocator_no
with_allocator-number a width quota slots uses = outcome-number (with_allocator_no a width (length slots) (length uses))
