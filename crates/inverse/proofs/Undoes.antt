-- Rounds and the way back through them, with a matrix and one that inverts it: both orders give every list of w units
-- back.
--
-- What a round does before the matrix (constants, then powers) is undone whatever the matrix is. So two lists that a
-- singular matrix sends to the same list give two that the round does. Assumes nothing.
use Prim.Native.Nat.{ℕ}
use mathlib.Core.Path.{◌≡◌, refl, ap, ◌∙◌}
use mathlib.Core.List.{List, [], ◌∷◌}
use lib.ListN.{length}
use Rattle.permute.specs.Permute.{Round, add_constants, raise, times_matrix, run_round, run_rounds}
use Rattle.permute.proofs.Keeps.{times_matrix-length, times_matrix-units}
use Rattle.matrix_inverse.specs.Inverse.{Units, Inverts, Square}
use Rattle.inverse.specs.Inverse.{sub_constants, lower, undo_round, undo_rounds}
use Rattle.inverse.proofs.Maps.{sub-add_constants, add-sub_constants, lower-raise, raise-lower, add_constants-keeps, sub_constants-keeps, raise-keeps, lower-keeps, times_matrix-gives, inverse-times, times-inverse}

-- ---- what a round does before the matrix
abbrev pub mixed : Round → List ℕ → List ℕ
mixed r x = raise r.kind (add_constants r.constants x)

-- and the list that it does that to, from what it makes of it
abbrev pub unmixed : Round → List ℕ → List ℕ
unmixed r z = sub_constants r.constants (lower r.kind z)

module _ (w : ℕ) where
  -- w units stay w units, there
  mixed-keeps : (r : Round) (x : List ℕ) → Units w x → Units w (mixed r x)
  mixed-keeps r x u =
      raise-keeps w r.kind (add_constants r.constants x) (add_constants-keeps w r.constants x u)

  -- and back
  pub unmixed-keeps : (r : Round) (z : List ℕ) → Units w z → Units w (unmixed r z)
  unmixed-keeps r z u =
      sub_constants-keeps w r.constants (lower r.kind z) (lower-keeps w r.kind z u)

  -- there and back is the same list
  unmixed-mixed : (r : Round) (x : List ℕ) → Units w x → unmixed r (mixed r x) ≡ x
  unmixed-mixed r x u =
      ap (sub_constants r.constants)
      (lower-raise r.kind (add_constants r.constants x) (add_constants-keeps w r.constants x u).below)
      ∙ sub-add_constants r.constants x u.below

  -- and so is back and there
  pub mixed-unmixed : (r : Round) (z : List ℕ) → Units w z → mixed r (unmixed r z) ≡ z
  mixed-unmixed r z u =
      ap (raise r.kind) (add-sub_constants r.constants (lower r.kind z) (lower-keeps w r.kind z u).below)
      ∙ raise-lower r.kind z u.below

  -- what a round makes of an unmixed list is what the matrix makes of the list
  pub round-unmixed : (m : List (List ℕ)) (r : Round) (z : List ℕ) → Units w z → run_round m r (unmixed r z) ≡ times_matrix m z
  unfolding run_round
  round-unmixed m r z u = ap (times_matrix m) (mixed-unmixed r z u)

  -- ---- units
  -- a round over a matrix of w rows gives w units
  run_round-keeps : (m : List (List ℕ)) → Square w m → (r : Round) (x : List ℕ) → Units w (run_round m r x)
  unfolding run_round
  run_round-keeps m s r x = times_matrix-gives w m (mixed r x) s

  -- so does a round undone by one
  pub undo_round-keeps : (n : List (List ℕ)) → length n ≡ w → (r : Round) (y : List ℕ) → Units w (undo_round n r y)
  unfolding undo_round
  undo_round-keeps n l r y =
      unmixed-keeps r (times_matrix n y) (record { size = times_matrix-length n y ∙ l; below = times_matrix-units n y })

  module _ (m n : List (List ℕ)) (i : Inverts w m n) (sm : Square w m) (sn : Square w n) where
    -- ---- one round
    -- a round that is run and undone gives the input back
    undo-run : (r : Round) (x : List ℕ) → Units w x → undo_round n r (run_round m r x) ≡ x
    unfolding undo_round run_round
    undo-run r x u =
        ap (unmixed r) (inverse-times w m n i (mixed r x) sm (mixed-keeps r x u)) ∙ unmixed-mixed r x u

    -- a round that is undone and run gives the output back
    run-undo : (r : Round) (y : List ℕ) → Units w y → run_round m r (undo_round n r y) ≡ y
    unfolding undo_round
    run-undo r y u =
        round-unmixed m r (times_matrix n y) (times_matrix-gives w n y sn) ∙ times-inverse w m n i y sn u

    -- ---- all rounds
    -- rounds that are run and undone give the input back
    pub undoes-runs : (rs : List Round) (x : List ℕ) → Units w x → undo_rounds n rs (run_rounds m rs x) ≡ x
    unfolding undo_rounds run_rounds
    undoes-runs [] x u = refl
    undoes-runs (r ∷ rs) x u =
        ap (undo_round n r) (undoes-runs rs (run_round m r x) (run_round-keeps m sm r x)) ∙ undo-run r x u

  -- all rounds undone give w units for w units
  pub undo_rounds-keeps : (n : List (List ℕ)) → Square w n → (rs : List Round) (y : List ℕ) → Units w y → Units w (undo_rounds n rs y)
  unfolding undo_rounds
  undo_rounds-keeps n s [] y u = u
  undo_rounds-keeps n s (r ∷ rs) y u = undo_round-keeps n s.count r (undo_rounds n rs y)

  module _ (m n : List (List ℕ)) (i : Inverts w m n) (sm : Square w m) (sn : Square w n) where
    -- rounds that are undone and run give the output back
    pub runs-undoes : (rs : List Round) (y : List ℕ) → Units w y → run_rounds m rs (undo_rounds n rs y) ≡ y
    unfolding undo_rounds run_rounds
    runs-undoes [] y u = refl
    runs-undoes (r ∷ rs) y u =
        ap (run_rounds m rs) (run-undo m n i sm sn r (undo_rounds n rs y) (undo_rounds-keeps n sn rs y u)) ∙ runs-undoes rs y u
