-- The rounds undone: one round, and all of them from the last to the first.
--
-- `Undoing` says that the state is what the last n rounds leave of the state at first when they are undone, that it is
-- still w units, and which words the other rounds have. Assumes nothing.
use Prim.Native.Nat.{ℕ, zero, suc, ◌+◌, ◌-◌, ◌*◌, ◌%◌, ◌≤◌, ◌<◌}
use mathlib.Core.Path.{◌≡◌, refl, sym, ap, ◌∙◌}
use mathlib.Core.Bool.{true}
use mathlib.Core.List.{List, ◌∷◌, ◌++◌, append_assoc}
use native.Mathlib.Omega.{arith}
use native.Mathlib.Numerals.{add-one}
use native.Mathlib.Nat.{mul-mod_left}
use lib.ListN.{length, get_or, take, drop, get_or-append, length-append, length-take, length-drop, take-append-drop}
use lib.Seq.{drop_at, take-append-le, drop-append-le, length-take-le}
use Rattle.limits.specs.Numbers.{prime, max_width}
use Rattle.limits.proofs.Below.{below-take, below-drop}
use Rattle.baby_bear.specs.Field.{are_units}
use Rattle.permute.specs.Permute.{Round, round_of, times_matrix}
use Rattle.permute.specs.Parameters.{rounds_of, rows_of}
use Rattle.permute.specs.Walks.{MixAsked, Ready}
use Rattle.permute.proofs.Keeps.{on_kind-length, on_kind-units, times_matrix-length, times_matrix-units, rows_of-length}
use Rattle.permute.proofs.Run.{sound}
use Rattle.powers.specs.Powers.{seventh_root}
use Rattle.powers.proofs.Roots.{seventh_root-below}
use Rattle.inverse.specs.Inverse.{sub_constants, lower, undo_round, undo_rounds}
use Rattle.inverse.specs.Walks.{RowsAsked}
use Rattle.inverse.proofs.Undoes.{undo_round-keeps}

-- ---- one round: what stands between the roots and the constants
module _ (inverse cs state mixed : List ℕ) (kind : ℕ)
    (e : mixed ≡ lower kind (times_matrix (rows_of (length state) (length state) inverse) state)) where
  -- the product of the matrix and the state
  abbrev product : List ℕ
  product = times_matrix (rows_of (length state) (length state) inverse) state

  -- it has as many elements
  mixed-length : length mixed ≡ length state
  mixed-length =
      ap length e ∙ on_kind-length seventh_root kind product ∙ times_matrix-length (rows_of (length state) (length state) inverse) state
      ∙ rows_of-length (length state) (length state) inverse

  -- they are units, so the constants may be taken away
  pub sub-asked : {mixed₀ : List ℕ} → MixAsked cs state mixed₀ → MixAsked cs mixed state
  sub-asked m =
      let l = mixed-length in
      record {
        constant-units = m.constant-units;
        units = ap are_units e ∙ on_kind-units seventh_root seventh_root-below kind product (times_matrix-units (rows_of (length state) (length state) inverse) state);
        constants-long = m.constants-long ∙ sym l;
        room = sym l;
      }

  -- and with them the round is undone
  pub undone-is : (out : List ℕ) → out ≡ sub_constants cs mixed
      → out ≡ undo_round (rows_of (length state) (length state) inverse) (round_of kind cs) state
  unfolding undo_round
  undone-is out f = f ∙ ap (sub_constants cs) e

-- ---- all rounds
-- the last n rounds are undone; `rest` has the words of the others, and `behind` all words that follow them
pub record Undoing (words inverse : List ℕ) (rounds : ℕ) (first state mixed rest : List ℕ) (size n : ℕ) : Type 0 where
  pub behind : List ℕ
  pub done : state ≡ undo_rounds (rows_of (length first) (length first) inverse) (rounds_of (length first) n behind) first
  pub whole : rest ++ behind ≡ words
  pub count : length rest + n * (length first + 1) ≡ rounds * (length first + 1)
  pub piece : size ≡ length first + 1
  pub units : are_units state ≡ true
  pub mixed-long : length mixed ≡ max_width

-- fewer words than a piece has are left: there are no more pieces
all-pieces : (n m k l : ℕ) → l < k → l + n * k ≡ m * k → n ≡ m
all-pieces zero zero k l h e = refl
all-pieces zero (suc m) k l h e = absurd (omega arith)
all-pieces (suc n) zero k l h e = absurd (omega arith)
all-pieces (suc n) (suc m) k l h e = ap suc (all-pieces n m k l h (omega arith))

module _ {rounds : ℕ} {words first : List ℕ} (inverse : List ℕ) (r : Ready rounds words first) where
  -- the width
  abbrev w : ℕ
  w = length first

  -- the rows of the inverse
  abbrev rows : List (List ℕ)
  rows = rows_of w w inverse

  -- the rounds lie in the parameters
  pub rounds-room : rounds * (w + 1) ≤ length words
  rounds-room = omega (arith, (sound r).size)

  -- before the last round nothing is undone, and nothing stands before the first
  pub undoing-start : are_units first ≡ true → (mixed : List ℕ) → length mixed ≡ max_width → (front rest : List ℕ) {size : ℕ}
      → take (rounds * (w + 1)) words ≡ front ++ rest → length front ≡ length (take (rounds * (w + 1)) words) % (w + 1) → size ≡ w + 1
      → Undoing words inverse rounds first first mixed rest size 0
  unfolding rounds_of undo_rounds
  undoing-start us mixed l front rest e f z =
      let n : length (take (rounds * (w + 1)) words) ≡ rounds * (w + 1) = length-take-le (rounds * (w + 1)) words rounds-room in
      let o : length front ≡ 0 = f ∙ rw n (mul-mod_left rounds (w + 1)) in
      let p : rest ≡ take (rounds * (w + 1)) words = sym (drop_at front rest 0 o) ∙ sym e in
      record {
        behind = drop (rounds * (w + 1)) words;
        done = refl;
        whole = rw p (take-append-drop (rounds * (w + 1)) words);
        count = omega (arith, ap length p, n);
        piece = z;
        units = us;
        mixed-long = l;
      }

  module _ {state mixed rest : List ℕ} {size n : ℕ} (s : Undoing words inverse rounds first state mixed rest size n) where
    -- where no round is left all are undone
    pub undoing-done : length rest < size → state ≡ undo_rounds rows (rounds_of w rounds words) first
    undoing-done h =
        let m : n ≡ rounds = all-pieces n rounds (w + 1) (length rest) (omega (arith, s.piece)) s.count in
        let z : length rest ≡ 0 = omega (arith, rw m at s.count) in
        let b : s.behind ≡ words = sym (drop_at rest s.behind 0 z) ∙ s.whole in
        rw (b, m) at s.done

    -- the last of the rounds left
    module _ (rest' item : List ℕ) (e : rest ≡ rest' ++ item) (l : length item ≡ size) where
      -- its words, and those that follow them
      next : rest' ++ (item ++ s.behind) ≡ words
      next = sym (append_assoc rest' item s.behind) ∙ rw (← e) s.whole

      -- its constants as they are lent
      abbrev constants : List ℕ
      constants = take (length item - 1) (drop 1 item)

      constants-are : take w (drop 1 (item ++ s.behind)) ≡ constants
      constants-are =
          let k : length item - 1 ≡ w = omega (arith, l, s.piece) in
          let c : 1 ≤ length item = omega (arith, l, s.piece) in
          let d : w ≤ length (drop 1 item) = simp length-drop (omega (arith, l, s.piece)) in
          rw (k, drop-append-le 1 item s.behind c, take-append-le w (drop 1 item) s.behind d) refl

      -- it may be undone
      pub undo-asked : length state ≡ w → are_units inverse ≡ true → length inverse ≡ w * w
          → MixAsked constants state (take (w - 0) mixed) × RowsAsked inverse state (take (w - 0) mixed) × (0 < length state)
      undo-asked k u square =
          let b : drop (length rest') words ≡ item ++ s.behind = rw (← next) (drop_at rest' (item ++ s.behind) (length rest') refl) in (
            record {
              constant-units = rw (← constants-are, ← b) (below-take prime w _ (below-drop prime 1 _ (below-drop prime (length rest') words (sound r).units)));
              units = s.units;
              constants-long = simp (length-take, length-drop) (omega (arith, l, s.piece));
              room = simp length-take (omega (arith, s.mixed-long, r.most));
            },
            record {
              matrix-units = u;
              units = s.units;
              square = rw k square;
              room = simp length-take (omega (arith, s.mixed-long, r.most));
              wide = rw k r.most;
            },
            omega (arith, r.some),
          )

      -- and with it one round more is undone
      pub undoing-turn : length state ≡ w → {state' mixed' : List ℕ} {size' : ℕ}
          → state' ≡ undo_round (rows_of (length state) (length state) inverse) (round_of (get_or item 0 0) constants) state
          → length mixed' ≡ length mixed → size' ≡ size
          → Undoing words inverse rounds first state' mixed' rest' size' (n + 1)
      unfolding undo_rounds rounds_of
      undoing-turn k {state'} {mixed'} {size'} f m z =
          let q : Round = round_of (get_or item 0 0) constants in
          let c : 0 < length item = omega (arith, l, s.piece) in
          let v : length item ≡ suc w = omega (arith, l, s.piece) in
          let g : state' ≡ undo_round rows q state = f ∙ rw k refl in
          let d : rounds_of w (n + 1) (item ++ s.behind) ≡ q ∷ rounds_of w n s.behind
          = rw (add-one n, get_or-append item s.behind 0 0 c, constants-are, drop_at item s.behind (suc w) v) refl in
          record {
            behind = item ++ s.behind;
            done = rw d (g ∙ ap (undo_round rows q) s.done);
            whole = next;
            count = omega (arith, s.count, l, s.piece, ap length e, length-append rest' item);
            piece = z ∙ s.piece;
            units = ap are_units g ∙ (undo_round-keeps (length rows) rows refl q state).below;
            mixed-long = m ∙ s.mixed-long;
          }
