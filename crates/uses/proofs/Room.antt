-- Cells moved one by one, as long as their counts have room: a step, the end, and moving them back. A count's room is
-- less by one for each of its cells in either direction, so all cells can be moved just where no wire has more cells
-- than its count has room. Assumes nothing.
use Prim.Native.Nat.{ℕ, suc, ◌+◌, ◌-◌, ◌≤◌, ◌<◌}
use mathlib.Core.Path.{◌≡◌, refl, sym, ap, ap₂, ◌∙◌}
use mathlib.Core.Bool.{Bool, true, false, not}
use mathlib.Core.List.{List, [], ◌∷◌, ◌++◌, append-nil}
use native.Mathlib.Omega.{arith}
use native.Mathlib.Numerals.{add-one}
use borrow.Author.Tests.{lt-ltb, le-ltb, ltb-true, ltb-false, eq-eqb, ne_eqb, eqb-true}
use lib.Dec.{eqb, ltb}
use lib.ListN.{length, get_or, set, take, drop, length-set}
use lib.Seq.{take-suc, take_all, split_at, set_out, ext_get_or}
use Rattle.limits.specs.Numbers.{max_count, unassigned, word_end}
use Rattle.limits.specs.Questions.{pick}
use Rattle.uses.specs.Uses.{times, strays, count_after, uses_after}
use Rattle.uses.specs.Moves.{inside, room, Roomy, Crowded, MovesCell, Moves, TakesBack}
use Rattle.uses.proofs.Counts.{times-append, strays-append, after-length, after-append, after-at}

-- ---- the cells below end
pub inside-append : (end : ℕ) (a b : List ℕ) → inside end (a ++ b) ≡ inside end a ++ inside end b
unfolding inside
inside-append end [] b = refl
inside-append end (x ∷ a) b = go (ltb x end) (inside-append end a b)
  where
    go : (t : Bool) → inside end (a ++ b) ≡ inside end a ++ inside end b
        → pick t (x ∷ inside end (a ++ b)) (inside end (a ++ b)) ≡ pick t (x ∷ inside end a) (inside end a) ++ inside end b
    go true e = ap (λ (l : List ℕ). x ∷ l) e
    go false e = e

other : (x y : ℕ) (end : ℕ) → x < end → end ≤ y → ◌≡◌ {A = ℕ} (pick (eqb x y) 1 0) 0
other x y end h k = rw (ne_eqb x y (λ z. omega arith))

pub inside-times : (end : ℕ) (cells : List ℕ) (x : ℕ) → x < end → times (inside end cells) x ≡ times cells x
unfolding inside times
inside-times end [] x h = refl
inside-times end (y ∷ cells) x h = go (ltb y end) refl (inside-times end cells x h)
  where
    go : (t : Bool) → ltb y end ≡ t → times (inside end cells) x ≡ times cells x
        → times (pick t (y ∷ inside end cells) (inside end cells)) x ≡ pick (eqb x y) 1 0 + times cells x
    go true e f = ap (λ (n : ℕ). pick (eqb x y) 1 0 + n) f
    go false e f = let z = other x y end h (ltb-false y end e) in omega arith

-- where the store ends there, the others are not counted in it
pub inside-all : (strike : Bool) (end : ℕ) (uses cells : List ℕ) → length uses ≤ end
    → uses_after strike uses (inside end cells) ≡ uses_after strike uses cells
unfolding inside uses_after
inside-all strike end uses [] h = refl
inside-all strike end uses (x ∷ cells) h =
    go (ltb x end) refl
    (inside-all strike end (set uses x (count_after strike (get_or uses x 0) 1)) cells (rw (length-set uses x (count_after strike (get_or uses x 0) 1)) h))
  where
    go : (t : Bool) → ltb x end ≡ t
        → uses_after strike (set uses x (count_after strike (get_or uses x 0) 1)) (inside end cells) ≡ uses_after strike (set uses x (count_after strike (get_or uses x 0) 1)) cells
        → uses_after strike uses (pick t (x ∷ inside end cells) (inside end cells)) ≡ uses_after strike (set uses x (count_after strike (get_or uses x 0) 1)) cells
    go true e f = f
    go false e f =
        let b = ltb-false x end e in
        let s : set uses x (count_after strike (get_or uses x 0) 1) ≡ uses = set_out uses x (count_after strike (get_or uses x 0) 1) (omega arith) in
        ap (λ (u : List ℕ). uses_after strike u (inside end cells)) (sym s) ∙ f

-- one cell more
module _ (end : ℕ) (cells : List ℕ) (i : ℕ) (h : i < length cells) where
  snoc : inside end (take (i + 1) cells) ≡ inside end (take i cells) ++ inside end (get_or cells i 0 ∷ [])
  snoc = rw (add-one, take-suc cells i 0 h) (inside-append end (take i cells) (get_or cells i 0 ∷ []))

  pub snoc-in : get_or cells i 0 < end → inside end (take (i + 1) cells) ≡ inside end (take i cells) ++ (get_or cells i 0 ∷ [])
  unfolding inside
  snoc-in l = snoc ∙ rw (lt-ltb (get_or cells i 0) end l)

  pub snoc-out : end ≤ get_or cells i 0 → inside end (take (i + 1) cells) ≡ inside end (take i cells)
  unfolding inside
  snoc-out l = snoc ∙ rw (le-ltb (get_or cells i 0) end l) (append-nil (inside end (take i cells)))

-- the strays of the first cells
pub strays-none : (len : ℕ) (cells : List ℕ) → 0 ≡ strays len (take 0 cells)
unfolding strays
strays-none len cells = refl

pub strays-more : (len : ℕ) (cells : List ℕ) (i n k : ℕ) → i < length cells → n ≡ strays len (take i cells)
    → k ≡ pick (ltb (get_or cells i 0) len) 0 1 → n + k ≡ strays len (take (i + 1) cells)
unfolding strays
strays-more len cells i n k h e f =
    let s = strays-append len (take i cells) (get_or cells i 0 ∷ []) in
    rw (add-one, take-suc cells i 0 h) (omega arith)

-- ---- a count's room
pub room_after : (strike : Bool) (most n k : ℕ) → room strike most (count_after strike n k) ≡ room strike most n - k
room_after true most n k = refl
room_after false most n k = omega arith

-- the room of a count after these cells
pub room-left : (strike : Bool) (most : ℕ) (uses cells : List ℕ) (x : ℕ) → x < length uses
    → room strike most (get_or (uses_after strike uses cells) x 0) ≡ room strike most (get_or uses x 0) - times cells x
room-left strike most uses cells x h =
    ap (room strike most) (after-at strike uses cells x h) ∙ room_after strike most (get_or uses x 0) (times cells x)

-- cells after cells
module _ (strike : Bool) (most : ℕ) (uses a b : List ℕ) where
  pub roomy-append : Roomy strike most uses a → Roomy strike most (uses_after strike uses a) b → Roomy strike most uses (a ++ b)
  roomy-append f g x h =
      let t = times-append a b x in
      let p = f x h in
      let q = g x (rw (after-length strike uses a) h) in
      let r = room-left strike most uses a x h in
      omega arith

  pub roomy-first : Roomy strike most uses (a ++ b) → Roomy strike most uses a
  roomy-first f x h = let t = times-append a b x in let p = f x h in omega arith

  pub roomy-second : Roomy strike most uses (a ++ b) → Roomy strike most (uses_after strike uses a) b
  roomy-second f x h =
      let l : x < length uses = rw (after-length strike uses a) at h in
      let t = times-append a b x in
      let p = f x l in
      let r = room-left strike most uses a x l in
      omega arith

one_more : (strike : Bool) (most : ℕ) (uses : List ℕ) (x : ℕ) → 0 < room strike most (get_or uses x 0) → Roomy strike most uses (x ∷ [])
unfolding times
one_more strike most uses x h y l = go (eqb y x) refl
  where
    go : (t : Bool) → eqb y x ≡ t → pick t 1 0 + 0 ≤ room strike most (get_or uses y 0)
    go true e = let z : y ≡ x = eqb-true y x e in rw z (omega arith)
    go false e = omega arith

-- ---- the loop
-- the first i cells are moved
abbrev pub Upto : Bool → (most end : ℕ) → (uses cells : List ℕ) → ℕ → List ℕ → Type 0
Upto strike most end uses cells i left =
    (left ≡ uses_after strike uses (inside end (take i cells))) × Roomy strike most uses (inside end (take i cells))

module _ (strike : Bool) (most end : ℕ) (uses cells : List ℕ) (fits : end ≤ length uses) where
  pub upto-none : Upto strike most end uses cells 0 uses
  unfolding inside uses_after times
  upto-none = (refl, λ x h. omega arith)

  module _ (i : ℕ) (left after : List ℕ) (h : i < length cells) (u : Upto strike most end uses cells i left) where
    moved_in : get_or cells i 0 < end → 0 < room strike most (get_or left (get_or cells i 0) 0)
        → after ≡ set left (get_or cells i 0) (count_after strike (get_or left (get_or cells i 0) 0) 1) → Upto strike most end uses cells (i + 1) after
    unfolding uses_after
    moved_in l r e =
        let s = inside end (take i cells) in
        let x = get_or cells i 0 in
        let f : Roomy strike most (uses_after strike uses s) (x ∷ []) = one_more strike most (uses_after strike uses s) x (rw u.0 at r) in
        rw (snoc-in end cells i h l) (
          e ∙ ap (λ (v : List ℕ). uses_after strike v (get_or cells i 0 ∷ [])) u.0 ∙ sym (after-append strike uses s (x ∷ [])),
          roomy-append strike most uses s (x ∷ []) u.1 f,
        )

    pub upto-more : (b : Bool) → b ≡ true → MovesCell strike most end left (get_or cells i 0) b after → Upto strike most end uses cells (i + 1) after
    upto-more b t m = go (ltb (get_or cells i 0) end) refl
      where
        go : (c : Bool) → ltb (get_or cells i 0) end ≡ c → Upto strike most end uses cells (i + 1) after
        go true e =
            let l = ltb-true (get_or cells i 0) end e in
            moved_in l (m.had-room t l) (m.left_is ∙ rw (t, e))
        go false e =
            let l = ltb-false (get_or cells i 0) end e in
            rw (snoc-out end cells i h l) (m.left_is ∙ rw (t, e) u.0, u.1)

    pub upto-stop : (b : Bool) → b ≡ false → MovesCell strike most end left (get_or cells i 0) b after
        → Moves strike most end uses cells i after
    unfolding times
    upto-stop b t m =
        let s = inside end (take i cells) in
        let x = get_or cells i 0 in
        let l : x < end = m.inside_is t in
        let n : x < length uses = omega arith in
        let z : room strike most (get_or (uses_after strike uses s) x 0) ≡ 0 = rw u.0 at (m.had-none t) in
        let r = room-left strike most uses s x n in
        let p = inside-times end (take i cells) x l in
        let q : times cells x ≡ times (take i cells ++ (x ∷ drop (suc i) cells)) x = ap (λ (v : List ℕ). times v x) (split_at cells i 0 h) in
        let o = times-append (take i cells) (x ∷ drop (suc i) cells) x in
        let w : ◌≡◌ {A = ℕ} (pick (eqb x x) 1 0) 1 = rw (eq-eqb x x refl) in
        record {
          within = omega arith;
          left_is = m.left_is ∙ rw t u.0;
          had-room = u.1;
          stops = λ k. record { wire = x; below = l; more = omega arith };
        }

-- ---- back again
back : (strike : Bool) (n k : ℕ) → k ≤ room strike max_count n → count_after (not strike) (count_after strike n k) k ≡ n
back true n k h = omega arith
back false n k h = omega arith

room_back : (strike : Bool) (n k : ℕ) → n < word_end → k ≤ room strike max_count n → k ≤ room (not strike) unassigned (count_after strike n k)
room_back true n k w h = omega arith
room_back false n k w h = omega arith

there_and_back : (strike : Bool) (uses cells : List ℕ) → Roomy strike max_count uses cells → uses_after (not strike) (uses_after strike uses cells) cells ≡ uses
there_and_back strike uses cells f =
    let m = uses_after strike uses cells in
    let e = after-length (not strike) m cells ∙ after-length strike uses cells in
    ext_get_or 0 (uses_after (not strike) m cells) uses e
    (λ i k.
    let l : i < length uses = rw e at k in
    after-at (not strike) (uses_after strike uses cells) cells i (rw (after-length strike uses cells) l)
    ∙ ap (λ (n : ℕ). count_after (not strike) n (times cells i)) (after-at strike uses cells i l)
    ∙ back strike (get_or uses i 0) (times cells i) (f i l))

module _ (strike : Bool) (end : ℕ) (moved cells : List ℕ) where
  pub takes_back : (r : ℕ) (left : List ℕ) → Moves (not strike) unassigned end moved cells r left → TakesBack strike end moved cells left
  takes_back r left m uses words fits roomy e = go m.within (λ h. m.stops h) m.left_is
    where
      at_x : (x : ℕ) → x < end → times cells x ≤ room strike max_count (get_or uses x 0)
      at_x x l = rw (inside-times end cells x l) at (roomy x (omega arith))

      never : Crowded (not strike) unassigned end moved cells → ⊥
      never c =
          let x = c.wire in
          let l : x < length uses = omega arith in
          let f : get_or moved x 0 ≡ count_after strike (get_or uses x 0) (times cells x) =
          ap (λ (v : List ℕ). get_or v x 0) e
          ∙ after-at strike uses (inside end cells) x l
          ∙ ap (count_after strike (get_or uses x 0)) (inside-times end cells x c.below) in
          let b = room_back strike (get_or uses x 0) (times cells x) (words x l) (at_x x c.below) in
          let g : room (not strike) unassigned (get_or moved x 0) < times cells x = c.more in
          let k = rw f at g in
          omega arith

      go : r ≤ length cells → (r < length cells → Crowded (not strike) unassigned end moved cells)
          → left ≡ uses_after (not strike) moved (inside end (take r cells)) → left ≡ uses
      go h f d =
          let n : r < length cells → ⊥ = λ k. never (f k) in
          let t : take r cells ≡ cells = take_all r cells (omega arith) in
          d
          ∙ ap₂ (λ (v l : List ℕ). uses_after (not strike) v (inside end l)) e t
          ∙ there_and_back strike uses (inside end cells) roomy
