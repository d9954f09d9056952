-- Question 17: what it says of the words, and that the code's test of them is the definition's.
--
-- The code looks at all words at once, kinds too: a kind that is 0 or 1 is below p. Assumes nothing.
use Prim.Native.Nat.{ℕ, zero, suc, ◌+◌, ◌*◌, ◌≤◌, ◌<◌}
use mathlib.Core.Path.{◌≡◌, refl, sym, ap, ◌∙◌}
use mathlib.Core.Bool.{Bool, true, false, ◌&&◌}
use mathlib.Core.List.{List, [], ◌∷◌, ◌++◌}
use native.Mathlib.Omega.{arith}
use borrow.Author.Tests.{lt-ltb, ltb-true, leb-true, le-leb, eqb-true, eq-eqb}
use lib.Dec.{ltb, leb, eqb}
use lib.ListN.{length, get_or, take, drop, length-drop}
use lib.Seq.{drop-drop, get_or-drop, take_at, drop_at}
use denote.Ref.{Bor}
use Rattle.std.specs.declared.iter.Take.{Take}
use Rattle.std.specs.declared.slice.ChunksExact.{ChunksExact}
use Rattle.std.specs.List.{list_all}
use Rattle.std.specs.Iterator.Adapters.{take_source, take_count, take_steps}
use Rattle.std.specs.Slice.Iter.{chunks_exact_rest, chunks_exact_size, chunks_exact_steps}
use Rattle.std.proofs.Common.{Some, None}
use Rattle.std.proofs.lemmas.Iterator.{YieldsList}
use Rattle.std.proofs.lemmas.Iterator.Splits.{YieldsList-from_shown_while}
use Rattle.limits.specs.Numbers.{prime}
use Rattle.limits.specs.Below.{all_below}
use Rattle.limits.proofs.Below.{both_true, true-both, below-take, below-drop, below_both}
use Rattle.baby_bear.specs.Field.{are_units}
use Rattle.permute.specs.Permute.{Round, round_of}
use Rattle.permute.specs.Parameters.{rounds_of, rows_of, sound_kinds, unit_constants, unit_rows, sound_parameters}
use Rattle.permute.proofs.Chunks.{Chunk, chunk-room, no-chunk}

kind-unit : (a : ℕ) → ltb a 2 ≡ true → ltb a prime ≡ true
kind-unit a e = lt-ltb a prime (omega (arith, ltb-true a 2 e))

-- the words after one round more
after : (w n : ℕ) (words : List ℕ) → drop (suc n * (w + 1)) words ≡ drop (n * (w + 1)) (drop (suc w) words)
after w n words =
    let e : suc n * (w + 1) ≡ suc w + n * (w + 1) = omega arith in
    ap (λ (k : ℕ). drop k words) e ∙ sym (drop-drop (n * (w + 1)) (suc w) words)

none : (w : ℕ) (words : List ℕ) → drop (0 * (w + 1)) words ≡ words
none w words = let z : 0 * (w + 1) ≡ 0 = omega arith in rw z

-- ---- rounds: kinds, constants and what follows are all words
rounds-units : (w n : ℕ) (words : List ℕ) → sound_kinds (rounds_of w n words) ≡ true → unit_constants (rounds_of w n words) ≡ true
    → are_units (drop (n * (w + 1)) words) ≡ true → are_units words ≡ true
unfolding rounds_of sound_kinds unit_constants all_below
rounds-units w zero words k c r = rw none at r
rounds-units w (suc n) [] k c r = refl
rounds-units w (suc n) (a ∷ l) k c r =
    let p = both_true (ltb a 2) (sound_kinds (rounds_of w n (drop w l))) k in
    let q = both_true (are_units (take w l)) (unit_constants (rounds_of w n (drop w l))) c in
    true-both (ltb a prime) (are_units l) (kind-unit a p.0)
    (below_both prime w l q.0 (rounds-units w n (drop w l) p.1 q.1 (rw after at r)))

units-rounds : (w n : ℕ) (words : List ℕ) → are_units words ≡ true → unit_constants (rounds_of w n words) ≡ true
unfolding rounds_of unit_constants
units-rounds w zero words e = refl
units-rounds w (suc n) words e =
    true-both (are_units (take w (drop 1 words))) (unit_constants (rounds_of w n (drop (suc w) words)))
    (below-take prime w (drop 1 words) (below-drop prime 1 words e)) (units-rounds w n (drop (suc w) words) (below-drop prime (suc w) words e))

-- ---- rows
rows-units : (w n : ℕ) (l : List ℕ) → length l ≡ n * w → unit_rows (rows_of w n l) ≡ true → are_units l ≡ true
unfolding rows_of unit_rows all_below
rows-units w zero [] h e = refl
rows-units w zero (a ∷ l) h e = absurd (omega arith)
rows-units w (suc n) l h e =
    let p = both_true (are_units (take w l)) (unit_rows (rows_of w n (drop w l))) e in
    below_both prime w l p.0 (rows-units w n (drop w l) (simp length-drop (omega arith)) p.1)

units-rows : (w n : ℕ) (l : List ℕ) → are_units l ≡ true → unit_rows (rows_of w n l) ≡ true
unfolding rows_of unit_rows
units-rows w zero l e = refl
units-rows w (suc n) l e =
    true-both (are_units (take w l)) (unit_rows (rows_of w n (drop w l))) (below-take prime w l e) (units-rows w n (drop w l) (below-drop prime w l e))

-- ---- what 17 says
pub record Sound (w rounds : ℕ) (words : List ℕ) : Type 0 where
  pub few : rounds ≤ 128
  pub size : length words ≡ rounds * (w + 1) + w * w
  pub kinds : sound_kinds (rounds_of w rounds words) ≡ true
  pub units : are_units words ≡ true

matrix-size : (w rounds : ℕ) (words : List ℕ) → length words ≡ rounds * (w + 1) + w * w
    → length (drop (rounds * (w + 1)) words) ≡ w * w
matrix-size w rounds words h = simp length-drop (omega arith)

module _ (w rounds : ℕ) (words : List ℕ) where
  -- the words of the matrix
  abbrev matrix : List ℕ
  matrix = drop (rounds * (w + 1)) words

  pub sound-is : sound_parameters w rounds words ≡ true → Sound w rounds words
  unfolding sound_parameters
  sound-is e =
      let a = both_true (leb rounds 128) _ e in
      let b = both_true (eqb (length words) (rounds * (w + 1) + w * w)) _ a.1 in
      let c = both_true (sound_kinds (rounds_of w rounds words)) _ b.1 in
      let d = both_true (unit_constants (rounds_of w rounds words)) (unit_rows (rows_of w w matrix)) c.1 in
      let s : length words ≡ rounds * (w + 1) + w * w = eqb-true _ _ b.0 in
      record {
        few = leb-true rounds 128 a.0;
        size = s;
        kinds = c.0;
        units = rounds-units w rounds words c.0 d.0 (rows-units w w matrix (matrix-size w rounds words s) d.1);
      }

  pub is-sound : Sound w rounds words → sound_parameters w rounds words ≡ true
  unfolding sound_parameters
  is-sound s =
      true-both _ _ (le-leb rounds 128 s.few)
      (true-both _ _ (eq-eqb (length words) (rounds * (w + 1) + w * w) s.size)
      (true-both _ _ s.kinds
      (true-both _ _ (units-rounds w rounds words s.units) (units-rows w w matrix (below-drop prime (rounds * (w + 1)) words s.units)))))

-- ---- the code's tests
same-says : (a b : Bool) → (a ≡ true → b ≡ true) → (b ≡ true → a ≡ true) → a ≡ b
same-says true b f g = sym (f refl)
same-says false true f g = g refl
same-says false false f g = refl

pub refused : (a : Bool) → (a ≡ true → ⊥) → false ≡ a
refused true f = absurd (f refl)
refused false f = refl

pub never : (a : Bool) → a ≡ false → a ≡ true → ⊥
never a e f = let z : ◌≡◌ {A = Bool} false true = cc in let y : ◌≡◌ {A = ℕ} 0 1 = cc in omega arith

module _ (w rounds : ℕ) (words : List ℕ) where
  pub too_many : 128 < rounds → false ≡ sound_parameters w rounds words
  too_many h = refused _ (λ e. absurd (omega (arith, (sound-is w rounds words e).few)))

  pub wrong_size : eqb (length words) (rounds * (w + 1) + w * w) ≡ false → false ≡ sound_parameters w rounds words
  wrong_size h = refused _ (λ e. never _ h (eq-eqb _ _ (sound-is w rounds words e).size))

  pub rounds-within : eqb (length words) (rounds * (w + 1) + w * w) ≡ true → rounds * (w + 1) ≤ length words
  rounds-within h = omega (arith, eqb-true (length words) (rounds * (w + 1) + w * w) h)

  pub wrong-kind : sound_kinds (rounds_of w rounds words) ≡ false → false ≡ sound_parameters w rounds words
  wrong-kind h = refused _ (λ e. never _ h (sound-is w rounds words e).kinds)

  pub units-decide : rounds ≤ 128 → eqb (length words) (rounds * (w + 1) + w * w) ≡ true
      → sound_kinds (rounds_of w rounds words) ≡ true → are_units words ≡ sound_parameters w rounds words
  units-decide h s k =
      same-says _ _
      (λ u. is-sound w rounds words (record { few = h; size = eqb-true _ _ s; kinds = k; units = u }))
      (λ e. (sound-is w rounds words e).units)

-- ---- the round at a place of the words
pub round-at : (w n at : ℕ) (words : List ℕ) → rounds_of w (suc n) (drop at words)
    ≡ round_of (get_or words at 0) (take w (drop (at + 1) words)) ∷ rounds_of w n (drop (at + (w + 1)) words)
unfolding rounds_of
round-at w n at words =
    let a : at + 0 ≡ at = omega arith in
    let b : at + suc w ≡ at + (w + 1) = omega arith in
    rw (get_or-drop at words 0 0, a, drop-drop 1 at words, drop-drop (suc w) at words, b)

-- the first of the rounds left, and those that come after it
round-on : (w n : ℕ) (round left : List ℕ) → length round ≡ w + 1
    → rounds_of w (suc n) (round ++ left) ≡ round_of (get_or round 0 0) (drop 1 round) ∷ rounds_of w n left
unfolding rounds_of
round-on w n [] left l = absurd (omega arith)
round-on w n (kind ∷ constants) left l =
    let k : length constants ≡ w = omega arith in
    rw (take_at constants left w k, drop_at constants left w k)

pub round-first : (w : ℕ) {n n' : ℕ} {left round left' : List ℕ} → Chunk (w + 1) n left round n' left'
    → rounds_of w n left ≡ round_of (get_or round 0 0) (drop 1 round) ∷ rounds_of w n' left'
round-first w {n} {n'} {left} {round} {left'} c =
    let e : n ≡ suc n' = omega (arith, c.count) in
    rw (e, c.parts) (round-on w n' round left' c.long)

-- ---- chunks of w + 1 words, as many as there are rounds, are the rounds
module _ (w : ℕ) where
  -- the rounds left
  abbrev left : Take (ChunksExact ℕ) → List Round
  left s = rounds_of w (take_count s) (chunks_exact_rest (take_source s))

  -- chunks of that size, and words for all of them
  abbrev Room : Take (ChunksExact ℕ) → Type 0
  Room s = (chunks_exact_size (take_source s) ≡ w + 1) × (take_count s * (w + 1) ≤ length (chunks_exact_rest (take_source s)))

  none_left : (s t : Take (ChunksExact ℕ)) → Room s → take_steps chunks_exact_steps s None t → length (left s) ≡ 0
  unfolding rounds_of
  none_left s t r e =
      let z : take_count s ≡ 0 = no-chunk (w + 1) (take_count s) (length (chunks_exact_rest (take_source s))) r.1 (λ h. omega (arith, (e h).1.0, r.0)) in
      rw z

  first_left : (s : Take (ChunksExact ℕ)) (x : Bor (List ℕ)) (t : Take (ChunksExact ℕ)) → Room s → take_steps chunks_exact_steps s (Some x) t
      → Room t × (left s ≡ round_of (get_or x.now 0 0) (drop 1 x.now) ∷ left t)
  first_left s x t r e =
      let c : Chunk (w + 1) (take_count s) (chunks_exact_rest (take_source s)) x.now (take_count t) (chunks_exact_rest (take_source t)) =
      record { parts = e.0.1.0; long = e.0.1.1 ∙ r.0; count = e.1 } in
      ((e.0.0 ∙ r.0, chunk-room c r.1), round-first w c)

  pub chunks_are : (s : Take (ChunksExact ℕ)) (n : ℕ) (words : List ℕ) → chunks_exact_size (take_source s) ≡ w + 1 → take_count s ≡ n
      → chunks_exact_rest (take_source s) ≡ words → n * (w + 1) ≤ length words
      → YieldsList (take_steps chunks_exact_steps) (λ x. round_of (get_or x.now 0 0) (drop 1 x.now)) s (rounds_of w n words)
  chunks_are s n words z e f h =
      rw (← e, ← f) (YieldsList-from_shown_while _ _ left Room none_left first_left s (z, rw (e, f) h))

-- every kind, asked one after the other
pub kinds_are : (rs : List Round) → list_all (λ r. ltb r.kind 2) rs ≡ sound_kinds rs
unfolding sound_kinds
kinds_are [] = refl
kinds_are (r ∷ rs) = ap (λ (b : Bool). ltb r.kind 2 && b) (kinds_are rs)
