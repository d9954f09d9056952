-- The input behind an output. Of parameters that 17 lets through, 44 refuses exactly those where two different inputs
-- share an output, which are those with one or more rounds and a singular matrix; with the others each output has
-- exactly one input, the one that is found.
--
-- A singular matrix sends a list that isn't all 0 to 0, and sends 0 there too. The first round makes these two of two
-- different inputs, and after its matrix they are the same list. Assumes nothing.
use Prim.Native.Nat.{ℕ, zero, suc, ◌+◌, ◌*◌, ◌≤◌}
use mathlib.Core.Path.{◌≡◌, refl, sym, ap, ◌∙◌}
use mathlib.Core.Bool.{Bool, true, false, ◌||◌}
use mathlib.Core.List.{List, ◌∷◌}
use native.Mathlib.Omega.{arith}
use borrow.Author.Tests.{eqb-true, eqb-false}
use lib.Dec.{eqb}
use lib.ListN.{length, drop, replicate, length-drop}
use Rattle.permute.specs.Permute.{Round, Parameters, run_rounds, permute}
use Rattle.permute.specs.Parameters.{rounds_of, parameters_of, sound_parameters}
use Rattle.permute.proofs.Keeps.{rows_of-length}
use Rattle.permute.proofs.Laws.{no-rounds}
use Rattle.permute.proofs.Parameters.{sound-is, never}
use Rattle.matrix_inverse.specs.Inverse.{Units, Inverts, Singular, Square, Inverse, inverse, none, invert_matrix, is_found}
use Rattle.matrix_inverse.proofs.Found.{units-zeros, times-zeros, inverse-is, inverse-square, none_is}
use Rattle.inverse.specs.Inverse.{OnlyInput, SharedOutput, undo_rounds, undo_with, permute_inverse}
use Rattle.inverse.specs.Answers.{is_invertible}
use Rattle.matrix_inverse.proofs.Laws.{rows-square}
use Rattle.inverse.proofs.Undoes.{unmixed, unmixed-keeps, mixed, mixed-unmixed, round-unmixed, undo_rounds-keeps, undoes-runs, runs-undoes}

-- ---- a singular matrix, and a round before it
-- what the round makes zeros of, and what it makes the list of that becomes 0
collide : (w : ℕ) (m : List (List ℕ)) (r : Round) (rs : List Round) → length m ≡ w → Singular w m
    → SharedOutput w (record { rounds = r ∷ rs; matrix = m })
unfolding run_rounds
collide w m r rs l k =
    let z : List ℕ = replicate w 0 in
    let v : List ℕ = k.vector in
    let uz : Units w z = units-zeros w in
    record {
      first = unmixed r v;
      second = unmixed r z;
      first-units = unmixed-keeps w r v k.units;
      second-units = unmixed-keeps w r z uz;
      differ = λ e. k.some (sym (mixed-unmixed w r v k.units) ∙ ap (mixed r) e ∙ mixed-unmixed w r z uz);
      share =
          ap (run_rounds m rs)
          (round-unmixed w m r v k.units ∙ k.sent
          ∙ sym (round-unmixed w m r z uz ∙ times-zeros w m l));
    }

-- ---- no rounds
-- nothing is undone
still : (o : Inverse) (w : ℕ) (words y : List ℕ) → undo_with o (rounds_of w 0 words) y ≡ y
unfolding rounds_of undo_rounds
still (inverse n) w words y = refl
still none w words y = refl

-- 44 has nothing to refuse
pub none-invertible : (w : ℕ) (words : List ℕ) → is_invertible w 0 words ≡ true
unfolding is_invertible
none-invertible w words = refl

module _ (w rounds : ℕ) (words : List ℕ) where
  -- what the words say
  abbrev ps : Parameters
  ps = parameters_of w rounds words

  -- the output is the input, whether the matrix is singular or not
  pub none-returned : (y : List ℕ) → rounds ≡ 0 → permute_inverse ps y ≡ y
  none-returned y z =
      ap (λ (n : ℕ). permute_inverse (parameters_of w n words) y) z ∙ still (invert_matrix (parameters_of w 0 words).matrix) w words y

  -- ---- what 44 says
  -- no: one or more rounds, and no inverse was found
  uninvertible-says : is_invertible w rounds words ≡ false → (1 ≤ rounds) × (invert_matrix ps.matrix ≡ none)
  unfolding is_invertible
  uninvertible-says e = go (eqb rounds 0) refl (invert_matrix ps.matrix) refl e
    where
      go : (t : Bool) → eqb rounds 0 ≡ t → (o : Inverse) → invert_matrix ps.matrix ≡ o → (t || is_found o) ≡ false
          → (1 ≤ rounds) × (invert_matrix ps.matrix ≡ none)
      go true z o f e = absurd (never _ e refl)
      go false z (inverse n) f e = absurd (never _ e refl)
      go false z none f e = (omega (arith, eqb-false rounds 0 z), f)

  -- yes: no rounds, or an inverse was found
  data Way : Type 0 where
    stays : rounds ≡ 0 → Way
    found : (n : List (List ℕ)) → invert_matrix ps.matrix ≡ inverse n → Way

  -- one of the two
  way : is_invertible w rounds words ≡ true → Way
  unfolding is_invertible
  way e = go (eqb rounds 0) refl (invert_matrix ps.matrix) refl e
    where
      go : (t : Bool) → eqb rounds 0 ≡ t → (o : Inverse) → invert_matrix ps.matrix ≡ o → (t || is_found o) ≡ true → Way
      go true z o f e = stays (eqb-true rounds 0 z)
      go false z (inverse n) f e = found n f
      go false z none f e = absurd (never _ refl e)

  -- ---- two inputs that share an output, of any words
  -- one or more rounds and a singular matrix: there are two
  pub singular-shared : 1 ≤ rounds → Singular w ps.matrix → SharedOutput w ps
  unfolding rounds_of
  singular-shared h k = go rounds h k
    where
      go : (n : ℕ) → 1 ≤ n → Singular w (parameters_of w n words).matrix → SharedOutput w (parameters_of w n words)
      go zero h k = absurd (omega arith)
      go (suc n) h k = collide w _ _ _ (rows_of-length w w (drop (suc n * (w + 1)) words)) k

  -- ---- parameters that 17 lets through
  module _ (s : sound_parameters w rounds words ≡ true) where
    -- the matrix has w rows of w words
    square : Square w ps.matrix
    square =
        rows-square w (drop (rounds * (w + 1)) words) (simp length-drop (omega (arith, (sound-is w rounds words s).size)))

    -- what was found inverts the matrix
    module _ (n : List (List ℕ)) (f : invert_matrix ps.matrix ≡ inverse n) where
      inverts : Inverts w ps.matrix n
      inverts = inverse-is w ps.matrix n square f

      inverse-size : Square w n
      inverse-size = inverse-square w ps.matrix n square f

    -- w units come back as w units
    pub permute_inverse-keeps : (y : List ℕ) → Units w y → Units w (permute_inverse ps y)
    permute_inverse-keeps y u = go (invert_matrix ps.matrix) refl
      where
        go : (o : Inverse) → invert_matrix ps.matrix ≡ o → Units w (undo_with o ps.rounds y)
        go (inverse n) f = undo_rounds-keeps w n (inverse-size n f) ps.rounds y u
        go none f = u

    -- ---- 44 says yes
    module _ (e : is_invertible w rounds words ≡ true) where
      -- the input behind what an input gives is that input
      pub there_and_back : (x : List ℕ) → Units w x → permute_inverse ps (permute ps x) ≡ x
      there_and_back x u = go (way e)
        where
          go : Way → permute_inverse ps (permute ps x) ≡ x
          go (stays z) = none-returned (permute ps x) z ∙ sym (no-rounds w rounds words x z)
          go (found n f) =
              ap (λ (o : Inverse). undo_with o ps.rounds (permute ps x)) f
              ∙ undoes-runs w ps.matrix n (inverts n f) square (inverse-size n f) ps.rounds x u

      -- the input behind an output gives that output
      pub back-and-there : (y : List ℕ) → Units w y → permute ps (permute_inverse ps y) ≡ y
      back-and-there y u = go (way e)
        where
          go : Way → permute ps (permute_inverse ps y) ≡ y
          go (stays z) = sym (no-rounds w rounds words (permute_inverse ps y) z) ∙ none-returned y z
          go (found n f) =
              ap (λ (o : Inverse). permute ps (undo_with o ps.rounds y)) f
              ∙ runs-undoes w ps.matrix n (inverts n f) square (inverse-size n f) ps.rounds y u

      -- every output has exactly one input, and that is the one that is found
      pub input-is : (y : List ℕ) → Units w y → OnlyInput w ps y (permute_inverse ps y)
      input-is y u = record {
        units = permute_inverse-keeps y u;
        gives = back-and-there y u;
        only = λ z v g. sym (there_and_back z v) ∙ ap (permute_inverse ps) g;
      }

    -- ---- 44 says no
    -- there are one or more rounds, and the matrix is singular
    pub uninvertible-is : is_invertible w rounds words ≡ false → (1 ≤ rounds) × Singular w ps.matrix
    uninvertible-is e = let h = uninvertible-says e in (h.0, none_is w ps.matrix square h.1)

    -- so two inputs share an output
    pub shared-is : is_invertible w rounds words ≡ false → SharedOutput w ps
    shared-is e = let h = uninvertible-is e in singular-shared h.0 h.1

    -- and where two do, 44 says no: on the way back they would be one
    pub shared-not : SharedOutput w ps → is_invertible w rounds words ≡ false
    shared-not c = go (is_invertible w rounds words) refl
      where
        go : (t : Bool) → is_invertible w rounds words ≡ t → t ≡ false
        go true e =
            absurd (c.differ
            (sym (there_and_back e c.first c.first-units) ∙ ap (permute_inverse ps) c.share
            ∙ there_and_back e c.second c.second-units))
        go false e = refl

    -- two inputs share an output: there are one or more rounds, and the matrix is singular
    pub shared-singular : SharedOutput w ps → (1 ≤ rounds) × Singular w ps.matrix
    shared-singular c = uninvertible-is (shared-not c)

    -- one or more rounds and a singular matrix: 44 says no
    pub is-uninvertible : 1 ≤ rounds → Singular w ps.matrix → is_invertible w rounds words ≡ false
    is-uninvertible h k = shared-not (singular-shared h k)
