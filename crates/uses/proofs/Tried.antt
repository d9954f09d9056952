-- The cells of a query, in two lists: all moved or none, and whether each count that is changed then fits. Assumes nothing.
use Prim.Native.Nat.{ℕ, ◌+◌, ◌-◌, ◌≤◌, ◌<◌}
use mathlib.Core.Path.{◌≡◌, refl, sym, ap, ◌∙◌}
use mathlib.Core.Bool.{Bool, true, false, ◌&&◌, and-false}
use mathlib.Core.List.{List, [], ◌∷◌, ◌++◌}
use native.Mathlib.Omega.{arith}
use borrow.Author.Tests.{lt-ltb, ltb-true, le-leb, lt-leb, leb-true, leb-false, eqb-true}
use lib.Dec.{eqb, ltb, leb}
use lib.ListN.{length, get_or, take}
use lib.Seq.{take_all}
use Rattle.limits.specs.Numbers.{max_count, word_end}
use Rattle.limits.specs.Questions.{pick}
use Rattle.limits.proofs.Below.{both_true, true-both}
use Rattle.uses.specs.Uses.{times, count_after, uses_after, count_fits}
use Rattle.uses.specs.Moves.{inside, room, Roomy, Moves, Crowded, Words, TakesBack, cell_at_most, all_at_most}
use Rattle.uses.proofs.Counts.{times-append, more-times, self-named, after-length, after-append, after-at}
use Rattle.uses.proofs.Room.{inside-append, inside-times, room-left, roomy-append, roomy-first, roomy-second}

never : {A : Type 0} → true ≡ false → A
never e = absurd (let z : ◌≡◌ {A = ℕ} 0 1 = cc in omega arith)

-- ---- what is left of the cells tried
-- all cells are moved, or one had no room and all counts are as they were
pub record Tries (strike : Bool) (end : ℕ) (uses cells : List ℕ) (r : Bool) (left : List ℕ) : Type 0 where
  pub left_is : left ≡ pick r (uses_after strike uses (inside end cells)) uses
  pub had-room : r ≡ true → Roomy strike max_count uses (inside end cells)
  pub had-none : r ≡ false → Crowded strike max_count end uses cells

-- a wire below end whose count would not be from 0 to 2^30
pub record Unfit (strike : Bool) (end : ℕ) (uses cells : List ℕ) : Type 0 where
  pub wire : ℕ
  pub below : wire < end
  pub named : 0 < times cells wire
  pub says : count_fits strike (get_or uses wire 0) (times cells wire) ≡ false

-- ---- a list of cells
module _ (strike : Bool) (end : ℕ) (uses cells : List ℕ) where
  pub tried-all : (r : ℕ) (left : List ℕ) → length cells ≤ r → Moves strike max_count end uses cells r left → Tries strike end uses cells true left
  tried-all r left h m =
      let t : take r cells ≡ cells = take_all r cells h in
      record {
        left_is = m.left_is ∙ ap (λ (l : List ℕ). uses_after strike uses (inside end l)) t;
        had-room = λ e. rw t at m.had-room;
        had-none = λ e. never e;
      }

  pub tried-none : (r : ℕ) (moved left : List ℕ) → Words uses → end ≤ length uses → r < length cells
      → Moves strike max_count end uses cells r moved → TakesBack strike end moved (take r cells) left → Tries strike end uses cells false left
  tried-none r moved left words fits h m b = record {
    left_is = b uses words fits m.had-room m.left_is;
    had-room = λ e. never (sym e);
    had-none = λ e. m.stops h;
  }

-- ---- two lists
pub words-after : (strike : Bool) (uses cells : List ℕ) → Words uses → Roomy strike max_count uses cells → Words (uses_after strike uses cells)
words-after strike uses cells w f x h =
    let l : x < length uses = rw (after-length strike uses cells) at h in
    rw (after-at strike uses cells x l) (go strike (get_or uses x 0) (times cells x) (w x l) (f x l))
  where
    go : (s : Bool) (n k : ℕ) → n < word_end → k ≤ room s max_count n → count_after s n k < word_end
    go true n k p q = omega arith
    go false n k p q = omega arith

module _ (strike : Bool) (end : ℕ) (a b : List ℕ) where
  -- the second list from where the first has left the counts
  two-after : (uses : List ℕ) → uses_after strike (uses_after strike uses (inside end a)) (inside end b) ≡ uses_after strike uses (inside end (a ++ b))
  two-after uses =
      sym (after-append strike uses (inside end a) (inside end b)) ∙ ap (uses_after strike uses) (sym (inside-append end a b))

  pub both-back : (moved middle left : List ℕ) → TakesBack strike end moved b middle → TakesBack strike end middle a left
      → TakesBack strike end moved (a ++ b) left
  both-back moved middle left f g uses words fits roomy e =
      let r : Roomy strike max_count uses (inside end a ++ inside end b) = rw (inside-append end a b) at roomy in
      let p = roomy-first strike max_count uses (inside end a) (inside end b) r in
      let q = roomy-second strike max_count uses (inside end a) (inside end b) r in
      let m = uses_after strike uses (inside end a) in
      g uses words fits p
      (f m (words-after strike uses (inside end a) words p) (rw (after-length strike uses (inside end a)) fits) q (e ∙ sym (two-after uses)))

  module _ (uses : List ℕ) where
    pub first-none : (r : Bool) (left : List ℕ) → r ≡ false → Tries strike end uses a r left → Tries strike end uses (a ++ b) false left
    first-none r left e t =
        let c = t.had-none e in
        let n = times-append a b c.wire in
        record {
          left_is = t.left_is ∙ rw e;
          had-room = λ d. never (sym d);
          had-none = λ d. record { wire = c.wire; below = c.below; more = omega arith };
        }

    module _ (r s : Bool) (first second : List ℕ) (e : r ≡ true) (t : Tries strike end uses a r first) (u : Tries strike end first b s second) where
      first-is : first ≡ uses_after strike uses (inside end a)
      first-is = t.left_is ∙ rw e

      pub both-moved : s ≡ true → Tries strike end uses (a ++ b) true second
      both-moved f =
          let q : Roomy strike max_count (uses_after strike uses (inside end a)) (inside end b) = rw first-is at (u.had-room f) in
          record {
            left_is = u.left_is ∙ rw (f, first-is) (two-after uses);
            had-room = λ d. rw (inside-append end a b) (roomy-append strike max_count uses (inside end a) (inside end b) (t.had-room e) q);
            had-none = λ d. never d;
          }

      pub second_none : (left : List ℕ) → Words uses → end ≤ length uses → s ≡ false → TakesBack strike end second a left
          → Tries strike end uses (a ++ b) false left
      second_none left words fits f k =
          let c = u.had-none f in
          let x = c.wire in
          let l : x < length uses = omega arith in
          let m : room strike max_count (get_or first x 0) < times b x = c.more in
          let g = rw first-is at m in
          let o = room-left strike max_count uses (inside end a) x l in
          let i = inside-times end a x c.below in
          let n = times-append a b x in
          record {
            left_is = k uses words fits (t.had-room e) (u.left_is ∙ rw f first-is);
            had-room = λ d. never (sym d);
            had-none = λ d. record { wire = x; below = c.below; more = omega arith };
          }

-- ---- at most 2^30
module _ (end : ℕ) (uses : List ℕ) where
  pub most-all : (cells : List ℕ) → all_at_most end uses cells ≡ true → (x : ℕ) → x < end → 0 < times cells x → get_or uses x 0 ≤ max_count
  unfolding times all_at_most
  most-all [] e x l h = absurd (omega arith)
  most-all (y ∷ cells) e x l h =
      let b = both_true (cell_at_most end uses y) (all_at_most end uses cells) e in
      go (eqb x y) refl h b.0 (λ k. most-all cells b.1 x l k)
    where
      go : (t : Bool) → eqb x y ≡ t → 0 < pick t 1 0 + times cells x → cell_at_most end uses y ≡ true
          → (0 < times cells x → get_or uses x 0 ≤ max_count) → get_or uses x 0 ≤ max_count
      go true z k c f =
          let w : x ≡ y = eqb-true x y z in
          let v : leb (get_or uses y 0) max_count ≡ true = rw (lt-ltb y end (rw w at l)) at c in
          rw w (leb-true (get_or uses y 0) max_count v)
      go false z k c f = f (omega arith)

  -- a wire whose count stays above
  pub record Over (cells : List ℕ) : Type 0 where
    pub wire : ℕ
    pub below : wire < end
    pub named : 0 < times cells wire
    pub above : max_count < get_or uses wire 0

  pub most-one : (cells : List ℕ) → all_at_most end uses cells ≡ false → Over cells
  unfolding all_at_most
  most-one [] e = never e
  most-one (y ∷ cells) e = go (ltb y end) refl (leb (get_or uses y 0) max_count) refl e (λ d. most-one cells d)
    where
      later : (all_at_most end uses cells ≡ false → Over cells) → all_at_most end uses cells ≡ false → Over (y ∷ cells)
      later f d =
          let o = f d in
          let m = more-times y o.wire cells in
          record { wire = o.wire; below = o.below; named = omega arith; above = o.above }

      go : (t : Bool) → ltb y end ≡ t → (u : Bool) → leb (get_or uses y 0) max_count ≡ u
          → (pick t u true && all_at_most end uses cells) ≡ false → (all_at_most end uses cells ≡ false → Over cells) → Over (y ∷ cells)
      go true z true w d f = later f d
      go true z false w d f = record { wire = y; below = ltb-true y end z; named = self-named y cells; above = leb-false (get_or uses y 0) max_count w }
      go false z u w d f = later f d

-- ---- whether each count that is changed fits
module _ (strike : Bool) (end : ℕ) (uses cells : List ℕ) where
  pub crowded-unfit : Crowded strike max_count end uses cells → Unfit strike end uses cells
  crowded-unfit c = record {
    wire = c.wire;
    below = c.below;
    named = omega (arith, c.more);
    says = go strike (get_or uses c.wire 0) (times cells c.wire) c.more;
  }
    where
      go : (s : Bool) (n k : ℕ) → room s max_count n < k → count_fits s n k ≡ false
      go true n k h = simp (lt-leb k n h)
      go false n k h = lt-leb (n + k) max_count (omega arith)

  module _ (moved : List ℕ) (t : Tries strike end uses cells true moved) (fits : end ≤ length uses) where
    -- a count that is moved
    count-is : (x : ℕ) → x < end → get_or moved x 0 ≡ count_after strike (get_or uses x 0) (times cells x)
    count-is x l =
        ap (λ (u : List ℕ). get_or u x 0) t.left_is
        ∙ after-at strike uses (inside end cells) x (omega arith)
        ∙ ap (count_after strike (get_or uses x 0)) (inside-times end cells x l)

    room_for : (x : ℕ) → x < end → times cells x ≤ room strike max_count (get_or uses x 0)
    room_for x l = rw (inside-times end cells x l) at (t.had-room refl x (omega arith))

    joined-fits : strike ≡ false → (x : ℕ) → x < end → 0 < times cells x → count_fits strike (get_or uses x 0) (times cells x) ≡ true
    joined-fits j x l h = rw j (go (get_or uses x 0) (times cells x) h (rw j at (room_for x l)))
      where
        go : (n k : ℕ) → 0 < k → k ≤ max_count - n → leb (n + k) max_count ≡ true
        go n k h l = le-leb (n + k) max_count (omega arith)

    struck-fits : strike ≡ true → all_at_most end moved cells ≡ true → (x : ℕ) → x < end → 0 < times cells x
        → count_fits strike (get_or uses x 0) (times cells x) ≡ true
    struck-fits j m x l h =
        rw j (true-both _ _ (le-leb (times cells x) (get_or uses x 0) (rw j at (room_for x l)))
        (le-leb (get_or uses x 0 - times cells x) max_count low))
      where
        low : get_or uses x 0 - times cells x ≤ max_count
        low =
            let c : get_or moved x 0 ≡ get_or uses x 0 - times cells x = rw j at (count-is x l) in
            let p = most-all end moved cells m x l h in
            omega arith

    struck-unfit : strike ≡ true → all_at_most end moved cells ≡ false → Unfit strike end uses cells
    struck-unfit j m =
        let o = most-one end moved cells m in
        let c : get_or moved o.wire 0 ≡ get_or uses o.wire 0 - times cells o.wire = rw j at (count-is o.wire o.below) in
        record {
          wire = o.wire;
          below = o.below;
          named = o.named;
          says = rw j (go (get_or uses o.wire 0) (times cells o.wire) (omega (arith, o.above)));
        }
      where
        go : (n k : ℕ) → max_count < n - k → count_fits true n k ≡ false
        go n k h = rw (lt-leb (n - k) max_count h) (and-false (leb k n))

    -- by what `both_at_most` says
    pub most-fits : pick strike (all_at_most end moved cells) true ≡ true → (x : ℕ) → x < end → 0 < times cells x
        → count_fits strike (get_or uses x 0) (times cells x) ≡ true
    most-fits e = go strike refl e
      where
        go : (s : Bool) → strike ≡ s → pick s (all_at_most end moved cells) true ≡ true → (x : ℕ) → x < end → 0 < times cells x
            → count_fits strike (get_or uses x 0) (times cells x) ≡ true
        go true j m = struck-fits j m
        go false j m = joined-fits j

    pub most-unfit : pick strike (all_at_most end moved cells) true ≡ false → Unfit strike end uses cells
    most-unfit e = go strike refl e
      where
        go : (s : Bool) → strike ≡ s → pick s (all_at_most end moved cells) true ≡ false → Unfit strike end uses cells
        go true j m = struck-unfit j m
        go false j m = never m
