-- Laws of the call for its callers: when it is accepted, what it then leaves, and what its number says. 0 says that the
-- list holds the only input that gives the output. 44 says that the questions before it said yes and that two inputs
-- share an output, and is answered wherever that is so: no question before it has its number. Assumes nothing.
use Prim.Native.Nat.{ℕ, zero, suc, ◌≤◌}
use mathlib.Core.Path.{◌≡◌, refl, sym, ap, ◌∙◌}
use mathlib.Core.Bool.{Bool, true, false, ◌&&◌, not}
use mathlib.Core.List.{List, [], ◌∷◌}
use native.Mathlib.Omega.{arith}
use borrow.Author.Tests.{leb-true, le-leb, eqb-true, eq-eqb, eqb-false, not-true}
use lib.Dec.{eqb}
use lib.ListN.{length}
use Rattle.limits.specs.Numbers.{max_count, max_width}
use Rattle.limits.specs.Questions.{ask, first_of_two, ◌▸◌, Question, question, first_no}
use Rattle.limits.proofs.Questions.{accepted-says, both, says-yes, ask-yes, ask-no, join, goes_on, stays, first_no-append, ▸-zero, on_yes-yes, on_yes-no}
use Rattle.limits.specs.Outcome.{outcome_of}
use Rattle.limits.proofs.Answered.{accepted-zero, refused-number}
use Rattle.limits.proofs.Below.{both_true}
use Rattle.baby_bear.specs.Field.{are_units}
use Rattle.permute.specs.Parameters.{parameters_of, sound_parameters, permute_asks, permute_no, permuted}
use Rattle.permute.proofs.Laws.{accepted-is as turned, is-accepted as turns, permuted-yes}
use Rattle.matrix_inverse.specs.Inverse.{Singular}
use Rattle.inverse.specs.Inverse.{SharedOutput, permute_inverse}
use Rattle.inverse.specs.Answers.{is_invertible, permute_inverse_front, permute_inverse_no, permute_inverted, StateBehind}
use Rattle.inverse.proofs.Behind.{none-invertible, none-returned, input-is, singular-shared, shared-is, shared-not, shared-singular}

-- ---- questions of other numbers
-- has no question this number?
abbrev lacks : ℕ → List Question → Bool
lacks k [] = true
lacks k (q ∷ qs) = not (eqb q.number k) && lacks k qs

-- a question of another number leaves it to the rest
other_goes : (n k rest : ℕ) (says : Bool) → (n ≡ suc k → ⊥) → ask n says ▸ rest ≡ suc k → rest ≡ suc k
unfolding ask first_of_two
other_goes n k rest true h e = e
other_goes zero k rest false h e = e
other_goes (suc n) k rest false h e = absurd (h e)

-- then it isn't answered
lacks-never : (k : ℕ) (qs : List Question) → lacks (suc k) qs ≡ true → first_no qs ≡ suc k → ⊥
lacks-never k [] l e = absurd (omega arith)
lacks-never k (q ∷ qs) l e =
    let h = both_true (not (eqb q.number (suc k))) (lacks (suc k) qs) l in
    lacks-never k qs h.1
    (other_goes q.number k (first_no qs) q.says (eqb-false q.number (suc k) (not-true _ h.0)) e)

-- ---- what the questions say
-- those before 44, where they all say yes
pub record Asked (w rounds : ℕ) (words y x : List ℕ) : Type 0 where
  pub some : 1 ≤ w
  pub most : w ≤ max_width
  pub size : length y ≡ w
  pub room : length x ≡ w
  pub units : are_units y ≡ true
  pub sound : sound_parameters w rounds words ≡ true

-- and 44 with them
pub record Accepted (w rounds : ℕ) (words y x : List ℕ) : Type 0 where
  pub asked : Asked w rounds words y x
  pub invertible : is_invertible w rounds words ≡ true

module _ (w rounds : ℕ) (words y x : List ℕ) where
  -- the front says yes everywhere
  pub asked_is : first_no (permute_inverse_front w rounds words y x) ≡ 0 → Asked w rounds words y x
  asked_is z =
      let says = accepted-says (permute_inverse_front w rounds words y x) tt z in
      record {
        some = leb-true 1 w (says 0);
        most = leb-true w max_width (says 1);
        size = eqb-true (length y) w (says 5);
        room = eqb-true (length x) w (says 6);
        units = says 7;
        sound = says 8;
      }

  -- the number is the front's, and where that is 0 what 44 says
  pub by_front : permute_inverse_no w rounds words y x ≡ first_no (permute_inverse_front w rounds words y x) ▸ ask 44 (is_invertible w rounds words)
  unfolding permute_inverse_no
  by_front =
      first_no-append (permute_inverse_front w rounds words y x) (question 44 (is_invertible w rounds words) ∷ [])
      ∙ ap (λ (n : ℕ). first_no (permute_inverse_front w rounds words y x) ▸ n) (▸-zero (ask 44 (is_invertible w rounds words)))

  -- an accepted call: what its questions say
  pub accepted-is : permute_inverse_no w rounds words y x ≡ 0 → Accepted w rounds words y x
  accepted-is e =
      let b = both _ _ (sym by_front ∙ e) in
      record { asked = asked_is b.0; invertible = says-yes 43 _ b.1 }

  -- and where they say that, it is accepted: what is asked of the output and the parameters is what `permute` asks
  pub is-accepted : Accepted w rounds words y x → permute_inverse_no w rounds words y x ≡ 0
  unfolding permute_inverse_no permute_no
  is-accepted a =
      let q = a.asked in
      let says = accepted-says (permute_asks w rounds words y) tt
      (turns w rounds words y (record { some = q.some; most = q.most; size = q.size; units = q.units; sound = q.sound })) in
      join _ _ (ask-yes 1 _ (says 0))
      (join _ _ (ask-yes 1 _ (says 1))
      (join _ _ (ask-yes 2 _ (says 2))
      (join _ _ (ask-yes 2 _ (says 3))
      (join _ _ (ask-yes 2 _ (le-leb (length x) max_count (omega (arith, q.room, q.most))))
      (join _ _ (ask-yes 9 _ (says 4))
      (join _ _ (ask-yes 9 _ (eq-eqb (length x) w q.room))
      (join _ _ (ask-yes 4 _ q.units)
      (join _ _ (ask-yes 17 _ q.sound)
      (join _ _ (ask-yes 44 _ a.invertible) refl)))))))))

  -- accepted: the list holds the input afterwards
  pub permute_inverted-yes : permute_inverse_no w rounds words y x ≡ 0
      → permute_inverted w rounds words y x ≡ permute_inverse (parameters_of w rounds words) y
  unfolding permute_inverted
  permute_inverted-yes e = on_yes-yes _ _ _ e

  -- refused: it holds what it held
  pub permute_inverted-no : (permute_inverse_no w rounds words y x ≡ 0 → ⊥) → permute_inverted w rounds words y x ≡ x
  unfolding permute_inverted
  permute_inverted-no h = on_yes-no _ _ _ h

  -- ---- 44
  -- no question of the front has the number 44
  pub front-lacks : first_no (permute_inverse_front w rounds words y x) ≡ 44 → ⊥
  front-lacks e = lacks-never 43 (permute_inverse_front w rounds words y x) refl e

  -- 44 is answered: the front says yes everywhere, and two inputs share an output
  pub fortyfour-is : permute_inverse_no w rounds words y x ≡ 44
      → (first_no (permute_inverse_front w rounds words y x) ≡ 0) × SharedOutput w (parameters_of w rounds words)
  fortyfour-is e =
      go (first_no (permute_inverse_front w rounds words y x)) refl (is_invertible w rounds words) refl (sym by_front ∙ e)
    where
      go : (n : ℕ) → first_no (permute_inverse_front w rounds words y x) ≡ n → (t : Bool) → is_invertible w rounds words ≡ t
          → n ▸ ask 44 t ≡ 44
          → (first_no (permute_inverse_front w rounds words y x) ≡ 0) × SharedOutput w (parameters_of w rounds words)
      go zero z true i e = absurd (omega (arith, sym (goes_on 0 (ask 44 true) refl ∙ ask-yes 44 true refl) ∙ e))
      go zero z false i e = (z, shared-is w rounds words (asked_is z).sound i)
      go (suc n) z t i e =
          absurd (front-lacks (z ∙ sym (stays (suc n) (ask 44 t) (λ o. absurd (omega (arith, o)))) ∙ e))

  -- and where both are so, it is
  pub is-fortyfour : first_no (permute_inverse_front w rounds words y x) ≡ 0 → SharedOutput w (parameters_of w rounds words)
      → permute_inverse_no w rounds words y x ≡ 44
  is-fortyfour z c = by_front ∙ goes_on _ _ z ∙ ask-no 44 _ (shared-not w rounds words (asked_is z).sound c)

  -- the same of the matrix: 44 is answered, so there are one or more rounds and the matrix is singular
  pub fortyfour-singular : permute_inverse_no w rounds words y x ≡ 44 → (1 ≤ rounds) × Singular w (parameters_of w rounds words).matrix
  fortyfour-singular e =
      let h = fortyfour-is e in
      shared-singular w rounds words (asked_is h.0).sound h.1

  -- and where that is so and the front says yes everywhere, it is
  pub singular-fortyfour : first_no (permute_inverse_front w rounds words y x) ≡ 0 → 1 ≤ rounds
      → Singular w (parameters_of w rounds words).matrix → permute_inverse_no w rounds words y x ≡ 44
  singular-fortyfour z h k = is-fortyfour z (singular-shared w rounds words h k)

  -- ---- no rounds
  -- where the front says yes everywhere the call is accepted and the list holds the output, whatever the matrix is
  pub unturned : first_no (permute_inverse_front w rounds words y x) ≡ 0 → rounds ≡ 0
      → (permute_inverse_no w rounds words y x ≡ 0) × (permute_inverted w rounds words y x ≡ y)
  unturned z r =
      let n : permute_inverse_no w rounds words y x ≡ 0 =
      by_front ∙ goes_on _ _ z ∙ ask-yes 44 _ (ap (λ (k : ℕ). is_invertible w k words) r ∙ none-invertible w words) in
      (n, permute_inverted-yes n ∙ none-returned w rounds words y r)

  -- ---- what the answer and the list say
  -- a yes: the list holds the only input that gives y; 44: two inputs share an output
  pub behind : StateBehind w rounds words y (outcome_of (permute_inverse_no w rounds words y x)) (permute_inverted w rounds words y x)
  behind = record {
    input = λ e.
        let z : permute_inverse_no w rounds words y x ≡ 0 = accepted-zero _ tt refl e in
        let a = accepted-is z in
        rw (permute_inverted-yes z)
        (input-is w rounds words a.asked.sound a.invertible y (record { size = a.asked.size; below = a.asked.units }));
    shared = λ e. (fortyfour-is (refused-number _ tt refl e)).1;
  }

-- ---- the two calls, one after the other
module _ (w rounds : ℕ) (words : List ℕ) where
  -- back and there: what is found is turned into the output
  pub back-there : (y x : List ℕ) → permute_inverse_no w rounds words y x ≡ 0
      → (permute_no w rounds words (permute_inverted w rounds words y x) ≡ 0)
      × (permuted w rounds words (permute_inverted w rounds words y x) ≡ y)
  back-there y x e =
      let q = (accepted-is w rounds words y x e).asked in
      let o = (behind w rounds words y x).input (ap outcome_of e) in
      let n = turns w rounds words (permute_inverted w rounds words y x)
      (record { some = q.some; most = q.most; size = o.units.size; units = o.units.below; sound = q.sound }) in
      (n, permuted-yes w rounds words (permute_inverted w rounds words y x) n ∙ o.gives)

  -- there and back: what a state is turned into gives it back, unless 44 is answered
  pub there_back : (x z : List ℕ) → permute_no w rounds words x ≡ 0 → permute_inverse_no w rounds words (permuted w rounds words x) z ≡ 0
      → permute_inverted w rounds words (permuted w rounds words x) z ≡ x
  there_back x z e f =
      let a = turned w rounds words x e in
      let o = (behind w rounds words (permuted w rounds words x) z).input (ap outcome_of f) in
      sym (o.only x (record { size = a.size; below = a.units }) (sym (permuted-yes w rounds words x e)))
