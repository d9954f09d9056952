-- What the call answers and leaves, by the way that it goes: refused by a question before 44, no rounds, a matrix that has
-- no inverse, and one that has. Assumes nothing.
use Prim.Native.Nat.{ℕ, ◌+◌, ◌-◌, ◌*◌, ◌≤◌}
use mathlib.Core.Path.{◌≡◌, refl, sym, ap, ◌∙◌}
use mathlib.Core.Bool.{Bool, true}
use mathlib.Core.List.{List, ◌++◌}
use native.Mathlib.Omega.{arith}
use borrow.Author.Tests.{eq-eqb, ne_eqb}
use lib.ListN.{length, take, drop, length-drop, length-append}
use lib.Seq.{take_all, take_at}
use Rattle.limits.specs.Numbers.{prime, max_width}
use Rattle.limits.specs.Questions.{ask, first_no}
use Rattle.std.specs.Prelude.{Ok}
use Rattle.limits.specs.Outcome.{Outcome, outcome_of}
use Rattle.limits.proofs.Below.{below-drop}
use Rattle.limits.proofs.Questions.{ask-yes, goes_on, stays}
use Rattle.words.specs.Store.{fit_words}
use Rattle.baby_bear.specs.Field.{are_units}
use Rattle.permute.specs.Parameters.{rounds_of, rows_of, parameters_of}
use Rattle.permute.specs.Walks.{Ready}
use Rattle.permute.proofs.Parameters.{Sound, sound-is, never}
use Rattle.permute.proofs.Words.{put-over}
use Rattle.matrix_inverse.specs.Inverse.{Inverse, inverse, none, invert_matrix, is_found}
use Rattle.matrix_inverse.specs.Words.{is_regular, inverted_words}
use Rattle.matrix_inverse.proofs.Places.{held-lent}
use Rattle.matrix_inverse.proofs.Inverted.{square-small, regular-is}
use Rattle.matrix_inverse.proofs.Found.{inverse-square, inverse-units}
use Rattle.matrix_inverse.proofs.Laws.{rows-square, rows-units, flat-units, inverted-flat, inverted-words}
use Rattle.inverse.specs.Inverse.{undo_rounds, undo_with, permute_inverse}
use Rattle.inverse.specs.Answers.{is_invertible, permute_inverse_front, permute_inverse_no, permute_inverted, StateBehind}
use Rattle.inverse.proofs.Behind.{none-returned}
use Rattle.inverse.proofs.Laws.{Asked, asked_is, by_front, permute_inverted-yes, permute_inverted-no, behind}

-- what is answered, what the list holds, and what both say
abbrev Answered : (w rounds : ℕ) (words y x : List ℕ) → Outcome → List ℕ → Type 0
Answered w rounds words y x r x' =
    (r ≡ outcome_of (permute_inverse_no w rounds words y x))
    × (x' ≡ permute_inverted w rounds words y x)
    × StateBehind w rounds words y r x'

module _ (w rounds : ℕ) (words y x : List ℕ) where
  -- the first two say the third
  answered : (r : Outcome) (x' : List ℕ) → r ≡ outcome_of (permute_inverse_no w rounds words y x) → x' ≡ permute_inverted w rounds words y x
      → Answered w rounds words y x r x'
  answered r x' e f = (e, f, rw (e, f) (behind w rounds words y x))

  -- the first no of the questions before 44
  pub answered-front : (r : Outcome) → r ≡ outcome_of (first_no (permute_inverse_front w rounds words y x))
      → (first_no (permute_inverse_front w rounds words y x) ≡ 0 → ⊥) → Answered w rounds words y x r x
  answered-front r e h =
      let n : permute_inverse_no w rounds words y x ≡ first_no (permute_inverse_front w rounds words y x) =
      by_front w rounds words y x ∙ stays _ _ h in
      answered r x (e ∙ ap outcome_of (sym n)) (sym (permute_inverted-no w rounds words y x (λ z. h (sym n ∙ z))))

  -- ---- where they all say yes
  module _ (k : ℕ) (e : k ≡ first_no (permute_inverse_front w rounds words y x)) (z : k ≡ 0) where
    -- what they say
    asks : Asked w rounds words y x
    asks = asked_is w rounds words y x (sym e ∙ z)

    -- at most 24
    pub most : w ≤ max_width
    most = asks.most

    -- what 17 says
    pub sound : Sound w rounds words
    sound = sound-is w rounds words asks.sound

    -- 44 is left
    number : (t : Bool) → is_invertible w rounds words ≡ t → permute_inverse_no w rounds words y x ≡ ask 44 t
    number t i = by_front w rounds words y x ∙ goes_on _ _ (sym e ∙ z) ∙ ap (ask 44) i

    -- the output put into the list
    copied : (x' : List ℕ) → x' ≡ fit_words 0 y x → x' ≡ y
    copied x' c = c ∙ put-over y x (asks.size ∙ sym asks.room)

    -- a yes, and what is then in the list
    accepted : is_invertible w rounds words ≡ true → (x' : List ℕ) → x' ≡ permute_inverse (parameters_of w rounds words) y
        → Answered w rounds words y x (Ok tt) x'
    accepted i x' c =
        let n = number true i ∙ ask-yes 44 true refl in
        answered (Ok tt) x' (ap outcome_of (sym n)) (c ∙ sym (permute_inverted-yes w rounds words y x n))

    -- ---- no rounds
    pub answered-none : rounds ≡ 0 → (x' : List ℕ) → x' ≡ fit_words 0 y x → Answered w rounds words y x (Ok tt) x'
    unfolding is_invertible
    answered-none r x' c =
        accepted (rw (eq-eqb rounds 0 r)) x' (copied x' c ∙ sym (none-returned w rounds words y r))

    -- ---- the matrix
    -- its words
    abbrev matrix : List ℕ
    matrix = drop (rounds * (w + 1)) words

    -- w·w of them
    matrix-long : length matrix ≡ w * w
    matrix-long = simp length-drop (omega (arith, sound.size))

    module _ (some : rounds ≡ 0 → ⊥) (zeros work : List ℕ) (long : length zeros ≡ 576)
        (p : work ≡ fit_words 0 (take (length words - rounds * (w + 1)) matrix) zeros) where
      -- what is lent of the copy is the matrix
      lent_is : take (w * w - 0) work ≡ matrix
      lent_is =
          let t : take (length words - rounds * (w + 1)) matrix ≡ matrix =
          take_all (length words - rounds * (w + 1)) matrix (simp length-drop (omega arith)) in
          rw (p, t) (held-lent matrix zeros (w * w) matrix-long (omega (arith, square-small w most)))

      -- 44 says what the elimination found
      found : is_invertible w rounds words ≡ is_found (invert_matrix (rows_of w w matrix))
      unfolding is_invertible
      found = rw (ne_eqb rounds 0 some)

      -- it is asked of the copy
      asked : is_regular w (take (w * w - 0) work) ≡ is_invertible w rounds words
      asked = ap (is_regular w) lent_is ∙ regular-is w matrix most matrix-long ∙ sym found

      -- no inverse
      pub answered-singular : (says : Bool) → says ≡ is_regular w (take (w * w - 0) work) → (r : Outcome) → r ≡ outcome_of (ask 44 says)
          → (ask 44 says ≡ 0 → ⊥) → Answered w rounds words y x r x
      answered-singular says s r e h =
          let n = number says (sym (s ∙ asked)) in
          answered r x (e ∙ ap outcome_of (sym n)) (sym (permute_inverted-no w rounds words y x (λ z. h (sym n ∙ z))))

      -- ---- an inverse
      module _ (says : Bool) (s : says ≡ is_regular w (take (w * w - 0) work)) (t : says ≡ true) (last : List ℕ)
          (l : last ≡ inverted_words w (take (w * w - 0) work)) where
        -- what was found
        record Inverse-found : Type 0 where
          rows : List (List ℕ)
          is : invert_matrix (rows_of w w matrix) ≡ inverse rows

        -- something was
        rows-found : Inverse-found
        rows-found = go (invert_matrix (rows_of w w matrix)) refl (sym found ∙ sym asked ∙ sym s ∙ t)
          where
            go : (o : Inverse) → invert_matrix (rows_of w w matrix) ≡ o → is_found o ≡ true → Inverse-found
            go (inverse n) e i = record { rows = n; is = e }
            go none e i = absurd (never _ refl i)

        -- its words
        words_left : (length (inverted_words w matrix) ≡ w * w) × (rows_of w w (inverted_words w matrix) ≡ rows-found.rows)
        words_left = inverted-words w matrix rows-found.rows most matrix-long rows-found.is
            (inverse-square w (rows_of w w matrix) rows-found.rows (rows-square w matrix matrix-long) rows-found.is)

        -- they are what the call left
        last-is : last ≡ inverted_words w matrix
        last-is = l ∙ ap (inverted_words w) lent_is

        -- it fills what was lent
        last-long : length last ≡ w * w
        last-long = ap length last-is ∙ words_left.0

        -- and is lent again
        again : take (w * w - 0) (last ++ drop (w * w - 0) work) ≡ last
        again =
            let k : w * w - 0 ≡ w * w = omega arith in
            rw k (take_at last (drop (w * w) work) (w * w) last-long)

        -- from the room that it lies in
        pub again-room : w * w ≤ length (last ++ drop (w * w - 0) work)
        again-room = simp length-append (omega (arith, last-long))

        -- it has units, and so have the words that it was made of
        last-units : are_units last ≡ true
        last-units =
            ap are_units (last-is ∙ inverted-flat w matrix rows-found.rows most matrix-long rows-found.is)
            ∙ flat-units rows-found.rows
            (inverse-units w (rows_of w w matrix) rows-found.rows (rows-square w matrix matrix-long) rows-found.is
            (rows-units w w matrix (below-drop prime (rounds * (w + 1)) words sound.units)))

        module _ (x' : List ℕ) (c : x' ≡ fit_words 0 y x) where
          -- the rounds may be undone
          pub undo-may : Ready rounds words x' × (are_units x' ≡ true)
              × (are_units (take (w * w - 0) (last ++ drop (w * w - 0) work)) ≡ true)
              × (length (take (w * w - 0) (last ++ drop (w * w - 0) work)) ≡ length x' * length x')
          undo-may =
              let d = copied x' c in
              let n : length x' ≡ w = ap length d ∙ asks.size in (
                record { sound = rw n asks.sound; some = rw n asks.some; most = rw n most },
                ap are_units d ∙ asks.units,
                ap are_units again ∙ last-units,
                ap length again ∙ last-long ∙ rw n,
              )

          -- and then the list holds the input
          pub answered-undone : (x'' : List ℕ)
              → x'' ≡ undo_rounds (rows_of (length x') (length x') (take (w * w - 0) (last ++ drop (w * w - 0) work)))
              (rounds_of (length x') rounds words) x'
              → Answered w rounds words y x (Ok tt) x''
          answered-undone x'' u =
              let d = copied x' c in
              let n : length x' ≡ w = ap length d ∙ asks.size in
              let r : rows_of w w last ≡ rows-found.rows = ap (rows_of w w) last-is ∙ words_left.1 in
              accepted (sym asked ∙ sym s ∙ t) x''
              (rw (n, again, r, d) at u ∙ sym (ap (λ (o : Inverse). undo_with o (rounds_of w rounds words) y) rows-found.is))
