-- Steps of a trace as the code finds them: what is none, a step for sound parameters, and one turn of the loop that
-- counts the steps at the front of a trace. Assumes nothing.
use Prim.Native.Nat.{ℕ, zero, suc, ◌+◌, ◌-◌, ◌≤◌, ◌<◌}
use mathlib.Core.Path.{◌≡◌, refl, sym, ap, ◌∙◌}
use mathlib.Core.Bool.{Bool, true, false}
use mathlib.Core.List.{List, [], ◌∷◌}
use native.Mathlib.Omega.{arith}
use native.Mathlib.Nat.{add-sub_cancel_left}
use borrow.Rule.Slice.PartMut.{mid_len}
use lib.ListN.{length, take, drop, length-take, length-drop}
use lib.Seq.{take_all, take_at, drop_at, drop-drop, length-take-le}
use Rattle.limits.specs.Numbers.{max_width}
use Rattle.limits.specs.Questions.{pick}
use Rattle.words.specs.Pieces.{pieces}
use Rattle.words.specs.Store.{fit_words}
use Rattle.baby_bear.specs.Field.{are_units}
use Rattle.permute.specs.Permute.{permute}
use Rattle.permute.specs.Parameters.{parameters_of, sound_parameters, permute_no, same_words, is_evaluation, leading}
use Rattle.permute.specs.Walks.{Ready}
use Rattle.permute.proofs.Chunks.{Chunk}
use Rattle.permute.proofs.Parameters.{never, refused}
use Rattle.permute.proofs.Words.{put-over}
use Rattle.permute.proofs.Laws.{accepted-is, is-accepted, permute-length, evaluation-is, not-evaluation, evaluation-by}

-- ---- what is no evaluation
module _ (w rounds : ℕ) (words step : List ℕ) where
  pub no-width : w < 1 → is_evaluation w rounds words step ≡ false
  no-width h = not-evaluation w rounds words step (λ z. absurd (omega (arith, (accepted-is w rounds words (take w step) z).some)))

  pub too_wide : max_width < w → is_evaluation w rounds words step ≡ false
  too_wide h = not-evaluation w rounds words step (λ z. absurd (omega (arith, (accepted-is w rounds words (take w step) z).most)))

  pub not_sound : sound_parameters w rounds words ≡ false → is_evaluation w rounds words step ≡ false
  not_sound h = not-evaluation w rounds words step (λ z. never _ h (accepted-is w rounds words (take w step) z).sound)

  -- fewer than 2w words
  pub too_few : length step < w + w → is_evaluation w rounds words step ≡ false
  too_few h =
      sym (refused _ (λ e.
      let p = evaluation-is w rounds words step e in
      let a = accepted-is w rounds words (take w step) p.0 in
      let l : length (drop w step) ≡ w = ap length (sym p.1) ∙ permute-length w rounds words (take w step) a.size in
      absurd (omega (arith, a.some, rw length-drop at l))))

-- ---- a step of which the first part is put over the room for the state, turned and compared with the other part
module _ {rounds : ℕ} {words room : List ℕ} (r : Ready rounds words room) (step : List ℕ) (fits : length room ≤ length step) where
  -- the width
  abbrev w : ℕ
  w = length room

  -- the first part as it is lent
  first-is : take (w - 0) step ≡ take w step
  first-is = let z : w - 0 ≡ w = omega arith in rw z

  pub not-units : are_units (take (w - 0) step) ≡ false → false ≡ is_evaluation w rounds words step
  not-units h =
      sym (not-evaluation w rounds words step (λ z. never _ (sym (ap are_units first-is) ∙ h) (accepted-is w rounds words (take w step) z).units))

  module _ (units : are_units (take (w - 0) step) ≡ true) {state : List ℕ} (put : state ≡ fit_words 0 (take (w - 0) step) room) where
    e : state ≡ take (w - 0) step
    e = put ∙ put-over _ room (ap length first-is ∙ length-take-le w step fits)

    state-long : length state ≡ w
    state-long = ap length (e ∙ first-is) ∙ length-take-le w step fits

    pub rounds-asked : Ready rounds words state × (are_units state ≡ true)
    rounds-asked =
        let l = state-long in (
          record { sound = rw l r.sound; some = omega (arith, r.some); most = omega (arith, r.most) },
          ap are_units e ∙ units,
        )

    asked_is : permute_no w rounds words (take w step) ≡ 0
    asked_is =
        is-accepted w rounds words (take w step)
        (record {
          some = omega (arith, r.some);
          most = r.most;
          size = length-take-le w step fits;
          units = sym (ap are_units first-is) ∙ units;
          sound = r.sound;
        })

    pub evaluates-is : {after : List ℕ} → after ≡ permute (parameters_of (length state) rounds words) state
        → {b : Bool} → b ≡ same_words after (take (length step - w) (drop w step)) → b ≡ is_evaluation w rounds words step
    evaluates-is {after} ea eb =
        let l = state-long in
        let a : after ≡ permute (parameters_of w rounds words) (take w step) = ea ∙ rw (l, e, first-is) in
        let t : take (length step - w) (drop w step) ≡ drop w step = take_all (length step - w) (drop w step) (simp length-drop (omega arith)) in
        eb ∙ rw (a, t) (evaluation-by w rounds words step asked_is)

-- ---- pieces of a trace
pub pieces-cons : (k : ℕ) (s : List ℕ) (at left : ℕ) → 0 < left
    → pieces k left (drop at s) ≡ take k (drop at s) ∷ pieces k (left - 1) (drop (at + k) s)
pieces-cons k s at zero h = absurd (let z : ⊥ = omega arith in z)
pieces-cons k s at (suc m) h = let z : suc m - 1 ≡ m = omega arith in rw (z, drop-drop k at s)

-- a piece as it is lent, from its place to its end
pub lent-piece : (s : List ℕ) (at k : ℕ) → take (at + k - at) (drop at s) ≡ take k (drop at s)
lent-piece s at k = ap (λ (n : ℕ). take n (drop at s)) (add-sub_cancel_left at k)

pub lent_length : (s : List ℕ) (at k : ℕ) → at + k ≤ length s → length (take (at + k - at) (drop at s)) ≡ k
lent_length s at k h = mid_len at (at + k) s (omega arith) ∙ add-sub_cancel_left at k

-- the first of the pieces left, and those that come after it
pieces-chunk : {size n n' : ℕ} {left chunk left' : List ℕ} → Chunk size n left chunk n' left'
    → pieces size n left ≡ chunk ∷ pieces size n' left'
pieces-chunk {size} {n} {n'} {left} {chunk} {left'} c =
    let e : n ≡ suc n' = omega (arith, c.count) in
    rw (e, c.parts, take_at chunk left' size c.long, drop_at chunk left' size c.long)

-- ---- the steps at the front
-- of steps that all are none
pub leading-none : (ev : List ℕ → Bool) → ((s : List ℕ) → ev s ≡ false) → (steps : List (List ℕ)) → 0 ≡ leading ev steps
unfolding leading
leading-none ev h [] = refl
leading-none ev h (s ∷ steps) = rw (h s)

-- `found` of them, and those at the front of the n steps left, come to the whole
pub record Leading (rounds : ℕ) (words trace : List ℕ) (steps : ℕ) (room state : List ℕ) (found n : ℕ) (left : List ℕ) : Type 0 where
  pub sum : found + leading (is_evaluation (length room) rounds words) (pieces (length room + length room) n left)
      ≡ leading (is_evaluation (length room) rounds words) (pieces (length room + length room) steps trace)
  pub within : found + n ≡ steps
  pub kept : length state ≡ length room

module _ {rounds : ℕ} {words trace : List ℕ} {steps : ℕ} {room state : List ℕ} {found n : ℕ} {left : List ℕ}
    (l : Leading rounds words trace steps room state found n left) where
  -- the width
  abbrev v : ℕ
  v = length room

  abbrev whole : ℕ
  whole = leading (is_evaluation v rounds words) (pieces (v + v) steps trace)

  -- no whole step is left
  pub leading-done : (0 < n → length left < v + v) → found ≡ whole
  unfolding leading
  leading-done h = omega (arith, l.sum, none n h)
    where
      none : (n : ℕ) → (0 < n → length left < v + v) → leading (is_evaluation v rounds words) (pieces (v + v) n left) ≡ 0
      none zero h = refl
      none (suc n) h =
          let s : length (take (v + v) left) < v + v = simp length-take (omega (arith, h (omega arith))) in
          rw (too_few v rounds words (take (v + v) left) s)

  module _ {step : List ℕ} {n' : ℕ} {left' : List ℕ} (c : Chunk (v + v) n left step n' left') where
    pub evaluates-asked : Ready rounds words room → Ready rounds words state × (length state ≤ length step)
    evaluates-asked r =
        let m = l.kept in (
          record { sound = rw m r.sound; some = rw m r.some; most = rw m r.most },
          omega (arith, c.long),
        )

    -- what was found of it
    module _ {b : Bool} (e : b ≡ is_evaluation (length state) rounds words step) where
      at-step : found + pick b (suc (leading (is_evaluation v rounds words) (pieces (v + v) n' left'))) 0 ≡ whole
      unfolding leading
      at-step =
          let f : b ≡ is_evaluation v rounds words step = rw l.kept at e in
          rw f (rw (pieces-chunk c) at l.sum)

      pub leading-stop : b ≡ false → found ≡ whole
      leading-stop z = omega (arith, rw z at at-step)

      pub leading-turn : b ≡ true → {state' : List ℕ} → length state' ≡ length state
          → Leading rounds words trace steps room state' (found + 1) n' left'
      leading-turn z k =
          record { sum = omega (arith, rw z at at-step); within = omega (arith, l.within, c.count); kept = k ∙ l.kept }

-- ---- the room for the state, as it is lent
module _ (w rounds : ℕ) (words room : List ℕ) (e : length room ≡ max_width) (some : 1 ≤ w) (most : w ≤ max_width) where
  room-long : length (take (w - 0) room) ≡ w
  room-long = simp length-take (omega arith)

  pub leading-asked : sound_parameters w rounds words ≡ true → Ready rounds words (take (w - 0) room)
  leading-asked s = record { sound = rw room-long s; some = rw room-long (omega arith); most = rw room-long most }

  pub leading-is : (trace : List ℕ) (steps n : ℕ)
      → n ≡ leading (is_evaluation (length (take (w - 0) room)) rounds words) (pieces (length (take (w - 0) room) + length (take (w - 0) room)) steps trace)
      → n ≡ leading (is_evaluation w rounds words) (pieces (w + w) steps trace)
  leading-is trace steps n h = rw room-long at h
