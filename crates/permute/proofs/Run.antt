-- All rounds in place: one round, and one turn of the loop over the rounds.
--
-- `Running` says that the rounds left come to the whole; that the words left, which are units, have room for
-- them; and that the state is still w units. Assumes nothing.
use Prim.Native.Nat.{ℕ, ◌+◌, ◌-◌, ◌*◌, ◌≤◌, ◌<◌}
use mathlib.Core.Path.{◌≡◌, refl, sym, ap, ◌∙◌}
use mathlib.Core.Bool.{true}
use mathlib.Core.List.{List}
use native.Mathlib.Omega.{arith}
use native.Mathlib.Nat.{mul-le-mul}
use lib.ListN.{length, get_or, take, drop, length-take, length-drop}
use lib.Seq.{take_all}
use Rattle.limits.specs.Numbers.{prime, max_width}
use Rattle.limits.proofs.Below.{below-take, below-drop}
use Rattle.baby_bear.specs.Field.{are_units, add_unit, seventh}
use Rattle.baby_bear.proofs.Ring.{add_unit-below, seventh-below}
use Rattle.permute.specs.Permute.{Round, round_of, add_constants, raise, times_matrix, run_round, run_rounds, permute}
use Rattle.permute.specs.Parameters.{rounds_of, rows_of, parameters_of}
use Rattle.permute.specs.Columns.{turned_rows}
use Rattle.permute.specs.Walks.{MatrixAsked, Turned, ProductAsked, MixAsked, Ready}
use Rattle.permute.proofs.Keeps.{pairwise-length, pairwise-units, on_kind-length, on_kind-units, run_round-length, run_round-units, rows_of-length}
use Rattle.permute.proofs.Chunks.{Chunk, chunk-room, chunk-units, no-chunk}
use Rattle.permute.proofs.Parameters.{Sound, sound-is, round-first}

-- ---- one round: what stands between its halves is as many units
module _ (columns cs state mixed : List ℕ) (kind : ℕ) (e : mixed ≡ raise kind (add_constants cs state)) where
  mixed-length : length mixed ≡ length state
  mixed-length = ap length e ∙ on_kind-length seventh kind (add_constants cs state) ∙ pairwise-length add_unit cs state

  pub times-asked : are_units state ≡ true → ProductAsked columns state → ProductAsked columns mixed × (length state ≡ length mixed)
  times-asked us p =
      let l = mixed-length in (
        record {
          units = p.units;
          state-units = ap are_units e ∙ on_kind-units seventh seventh-below kind (add_constants cs state) (pairwise-units add_unit add_unit-below cs state us);
          room = rw l p.room;
          wide = omega (arith, l, p.wide);
        },
        sym l,
      )

  pub round_is : (out : List ℕ) → out ≡ times_matrix (turned_rows (length mixed) (length mixed) 0 columns) mixed
      → out ≡ run_round (turned_rows (length state) (length state) 0 columns) (round_of kind cs) state
  unfolding run_round
  round_is out eo =
      eo ∙ ap (λ (n : ℕ). times_matrix (turned_rows n n 0 columns) mixed) mixed-length
      ∙ ap (times_matrix (turned_rows (length state) (length state) 0 columns)) e

-- ---- all rounds
square-fits : {w : ℕ} → w ≤ max_width → w * w ≤ max_width * max_width
square-fits {w} h = mul-le-mul {n₁ = w} {m₁ = w} {n₂ = max_width} {m₂ = max_width} h h

-- the words of the matrix
abbrev matrix_of : (w rounds : ℕ) → List ℕ → List ℕ
matrix_of w rounds words = drop (rounds * (w + 1)) words

-- the matrix as it is lent, and turned
module _ {rounds : ℕ} {words state : List ℕ} (r : Ready rounds words state) where
  -- the width
  abbrev w : ℕ
  w = length state

  pub sound : Sound w rounds words
  sound = sound-is w rounds words r.sound

  matrix-is : take (length words - rounds * (w + 1)) (matrix_of w rounds words) ≡ matrix_of w rounds words
  matrix-is = take_all (length words - rounds * (w + 1)) (matrix_of w rounds words) (simp length-drop (omega arith))

  pub matrix-asked : (columns : List ℕ) → are_units columns ≡ true → length columns ≡ max_width * max_width
      → MatrixAsked (take (length words - rounds * (w + 1)) (matrix_of w rounds words)) w columns
  matrix-asked columns u l =
      record {
        square = ap length matrix-is ∙ simp length-drop (omega (arith, sound.size));
        matrix-units =
            below-take prime (length words - rounds * (w + 1)) (matrix_of w rounds words) (below-drop prime (rounds * (w + 1)) words sound.units);
        units = u;
        room = omega (arith, square-fits r.most);
        wide = r.most;
      }

  pub matrix-turned : {columns : List ℕ} → Turned (take (length words - rounds * (w + 1)) (matrix_of w rounds words)) w columns
      → Turned (matrix_of w rounds words) w columns
  matrix-turned t = record { units = t.units; rows = t.rows ∙ ap (rows_of w w) matrix-is }

-- the n rounds left, from the state as it is, come to what all rounds make of the state at first
pub record Running (words : List ℕ) (rounds : ℕ) (first state mixed : List ℕ) (n : ℕ) (left : List ℕ) : Type 0 where
  pub rest : run_rounds (rows_of (length first) (length first) (matrix_of (length first) rounds words)) (rounds_of (length first) n left) state
      ≡ permute (parameters_of (length first) rounds words) first
  pub room : n * (length first + 1) ≤ length left
  pub left-units : are_units left ≡ true
  pub kept : length state ≡ length first
  pub units : are_units state ≡ true
  pub mixed-long : length mixed ≡ max_width

module _ {rounds : ℕ} {words first : List ℕ} (r : Ready rounds words first) where
  pub running-start : are_units first ≡ true → (mixed : List ℕ) → length mixed ≡ max_width
      → {n : ℕ} {left : List ℕ} → n ≡ rounds → left ≡ words → Running words rounds first first mixed n left
  running-start u mixed l e f =
      record {
        rest = rw (e, f);
        room = rw (e, f) (omega (arith, (sound r).size));
        left-units = rw f (sound r).units;
        kept = refl;
        units = u;
        mixed-long = l;
      }

  module _ {state mixed : List ℕ} {n : ℕ} {left : List ℕ} (s : Running words rounds first state mixed n left) where
    pub running-done : (0 < n → length left < length first + 1) → state ≡ permute (parameters_of (length first) rounds words) first
    unfolding run_rounds rounds_of
    running-done h = let z : n ≡ 0 = no-chunk (length first + 1) n (length left) s.room h in rw z at s.rest

    module _ {round : List ℕ} {n' : ℕ} {left' : List ℕ} (c : Chunk (length first + 1) n left round n' left') where
      -- the constants as they are lent
      abbrev constants : List ℕ
      constants = take (length round - 1) (drop 1 round)

      constants-are : constants ≡ drop 1 round
      constants-are = take_all (length round - 1) (drop 1 round) (simp length-drop (omega arith))

      pub round-asked : {columns : List ℕ} → length columns ≡ max_width * max_width → Turned (matrix_of (length first) rounds words) (length first) columns
          → MixAsked constants state (take (length first - 0) mixed) × ProductAsked columns state × (0 < length state)
      round-asked long turned =
          let k = s.kept in (
            record {
              constant-units = below-take prime (length round - 1) (drop 1 round) (below-drop prime 1 round (chunk-units c s.left-units).0);
              units = s.units;
              constants-long = simp (length-take, length-drop) (omega (arith, c.long));
              room = simp length-take (omega (arith, s.mixed-long, r.most));
            },
            record {
              units = turned.units;
              state-units = s.units;
              room = rw k (omega (arith, square-fits r.most));
              wide = rw k r.most;
            },
            omega (arith, r.some),
          )

      pub running-turn : {columns : List ℕ} → Turned (matrix_of (length first) rounds words) (length first) columns
          → {state' mixed' : List ℕ}
          → state' ≡ run_round (turned_rows (length state) (length state) 0 columns) (round_of (get_or round 0 0) constants) state
          → length mixed' ≡ length mixed
          → Running words rounds first state' mixed' n' left'
      unfolding run_rounds
      running-turn {columns} turned e l =
          let m : List (List ℕ) = rows_of (length first) (length first) (matrix_of (length first) rounds words) in
          let q : Round = round_of (get_or round 0 0) (drop 1 round) in
          let f = e ∙ ap (λ (k : ℕ). run_round (turned_rows k k 0 columns) (round_of (get_or round 0 0) constants) state) s.kept
          ∙ ap (λ (c : List ℕ). run_round (turned_rows (length first) (length first) 0 columns) (round_of (get_or round 0 0) c) state) constants-are
          ∙ ap (λ (t : List (List ℕ)). run_round t q state) turned.rows in
          record {
            rest = rw f (rw (round-first (length first) c) at s.rest);
            room = chunk-room c s.room;
            left-units = (chunk-units c s.left-units).1;
            kept = ap length f ∙ run_round-length m q state ∙ rows_of-length (length first) (length first) _;
            units = ap are_units f ∙ run_round-units m q state;
            mixed-long = l ∙ s.mixed-long;
          }
