-- Slots that hold the sets: made by fresh, kept by more wires, by a set, and by as many of
-- the items set in turn as were accepted. Assumes nothing.
use Prim.Native.Nat.{ℕ, zero, suc, ◌+◌, ◌≤◌, ◌<◌}
use mathlib.Core.Path.{◌≡◌, refl, sym, ap, ◌∙◌}
use mathlib.Core.Bool.{Bool, true, false}
use mathlib.Core.List.{List, [], ◌∷◌, ◌++◌, append_assoc, map}
use mathlib.Core.Option.{Option, none, some}
use native.Mathlib.Nat.{not-suc-le-zero}
use native.Mathlib.Omega.{arith}
use borrow.Author.Tests.{eqb-true, eqb-false}
use lib.Dec.{eqb, eqb-suc-zero}
use lib.ListN.{length, get_or, set, take, drop, replicate, length-set, length-append, length-take, length-drop, length-replicate}
use lib.Seq.{get_or-set_same, get_or-set_other, get_or-take, length-take-le, take-set-lt, take_at}
use Rattle.limits.specs.Numbers.{prime, unassigned, max_count}
use Rattle.limits.specs.Questions.{pick, on_yes}
use Rattle.words.proofs.Lists.{all_map}
use Rattle.allocator.specs.Slots.{Pair, pair, pair_no, SetRun, ran, set_items, run_after, grown_slots, with_pair}
use Rattle.allocator.specs.Values.{look, joins, fits, slot_unit}
use Rattle.allocator.proofs.Accepted.{SetPair, pair-yes}
use Rattle.allocator.proofs.Values.{put_same, put-grows, put-units, slot-some, slot-fits}
use Rattle.permutation.specs.State.{HoldsSlots}

-- ---- fresh
pub fresh_holds : (slots : List ℕ) → 1 ≤ length slots → length slots ≤ max_count → HoldsSlots 1 (set slots 0 0) (pair 0 0 ∷ [])
fresh_holds [] h m = absurd (not-suc-le-zero h)
fresh_holds (x ∷ slots) h m = record {
  least = omega arith;
  room = omega arith;
  most = m;
  held = held;
  agree = (refl, tt);
  units = put-units _ (pair 0 0) (λ y v u. never v u) (omega arith);
  zeroth = refl;
}
  where
    never : (v : ℕ) → ◌≡◌ {A = Option ℕ} none (some v) → v < prime
    never v u = let k : ◌≡◌ {A = ℕ} 0 1 = cc in omega arith

    held : (k : ℕ) → slot_unit (get_or (0 ∷ []) k unassigned) ≡ look (pair 0 0 ∷ []) k
    held zero = refl
    held (suc k) = rw (eqb-suc-zero k)

-- ---- more wires
padded : (l : List ℕ) (a x : ℕ) → get_or (l ++ replicate a unassigned) x unassigned ≡ get_or l x unassigned
padded [] zero x = refl
padded [] (suc a) zero = refl
padded [] (suc a) (suc x) = padded [] a x
padded (s ∷ l) a zero = refl
padded (s ∷ l) a (suc x) = padded l a x

module _ (n a : ℕ) (slots : List ℕ) (h : n + a ≤ length slots) where
  pub grown-length : length (grown_slots n a slots) ≡ length slots
  grown-length = simp (length-append, length-take, length-drop, length-replicate) (omega arith)

  grown-live : take (n + a) (grown_slots n a slots) ≡ take n slots ++ replicate a unassigned
  grown-live =
      let k : length (take n slots) ≡ n = length-take-le n slots (omega arith) in
      ap (take (n + a)) (sym (append_assoc (take n slots) (replicate a unassigned) (drop (n + a) slots)))
      ∙ take_at (take n slots ++ replicate a unassigned) (drop (n + a) slots) (n + a) (simp (length-append, length-replicate) (omega arith))

  pub grown-holds : (sets : List Pair) → HoldsSlots n slots sets → HoldsSlots (n + a) (grown_slots n a slots) sets
  grown-holds sets o =
      let l = o.least in record {
        least = omega arith;
        room = rw grown-length h;
        most = rw grown-length o.most;
        held = λ x. ap slot_unit (ap (λ (l : List ℕ). get_or l x unassigned) grown-live ∙ padded (take n slots) a x) ∙ o.held x;
        agree = o.agree;
        units = o.units;
        zeroth = o.zeroth;
      }

-- ---- one pair that is accepted
module _ (n : ℕ) (slots : List ℕ) (p : Pair) (z : pair_no n slots p ≡ 0) where
  asked : SetPair n slots p
  asked = pair-yes n slots p z

  pair_fits : fits (slot_unit (get_or slots p.var unassigned)) p.value ≡ true
  pair_fits = slot-fits (get_or slots p.var unassigned) p.value ∙ asked.takes

  pub set_holds : (sets : List Pair) → HoldsSlots n slots sets → HoldsSlots n (set slots p.var p.value) (p ∷ sets)
  set_holds sets o =
      let k : length (take n slots) ≡ n = length-take-le n slots o.room in
      let live = take-set-lt n slots p.var p.value asked.below in
      let free : fits (look sets p.var) p.value ≡ true =
      ap (λ (q : Option ℕ). fits q p.value) (sym (o.held p.var) ∙ ap slot_unit (get_or-take n slots p.var unassigned asked.below)) ∙ pair_fits in
      record {
        least = o.least;
        room = rw (length-set slots p.var p.value) o.room;
        most = rw (length-set slots p.var p.value) o.most;
        held = λ x. ap (λ (l : List ℕ). slot_unit (get_or l x unassigned)) live ∙ go k o x (eqb x p.var) refl;
        agree = (put_same p (look sets), all_map _ _ sets (λ q. put-grows (look sets) p free q.var q.value) o.agree);
        units = put-units (look sets) p o.units asked.unit;
        zeroth = put-grows (look sets) p free 0 0 o.zeroth;
      }
    where
      go : length (take n slots) ≡ n → HoldsSlots n slots sets → (x : ℕ) (b : Bool) → eqb x p.var ≡ b
          → slot_unit (get_or (set (take n slots) p.var p.value) x unassigned) ≡ pick b (some p.value) (look sets x)
      go k o x true e =
          let below : p.var < length (take n slots) = rw k asked.below in
          ap (λ (y : ℕ). slot_unit (get_or (set (take n slots) p.var p.value) y unassigned)) (eqb-true x p.var e)
          ∙ ap slot_unit (get_or-set_same (take n slots) p.var p.value unassigned below)
          ∙ slot-some p.value asked.unit
      go k o x false e = ap slot_unit (get_or-set_other (take n slots) p.var x p.value unassigned (eqb-false x p.var e)) ∙ o.held x

-- ---- items in turn: as many join the sets with their pairs as were accepted
module _ {A : Type 0} (pair_of : A → Pair) (n : ℕ) where
  abbrev pub RunHolds : List Pair → List A → SetRun → Type 0
  RunHolds sets items r = HoldsSlots n r.slots (joins sets (map pair_of (take r.accepted items)))

  run_by : (sets : List Pair) (items : List A) (k : ℕ) (r q : SetRun) → (k ≡ 0 → RunHolds sets items r) → RunHolds sets items q
      → RunHolds sets items (on_yes k r q)
  run_by sets items zero r q f o = f refl
  run_by sets items (suc k) r q f o = o

  -- nor does a run behind earlier questions that say no alter anything
  pub after_holds : (sets : List Pair) (items : List A) (k : ℕ) (r : SetRun) (slots : List ℕ) → RunHolds sets items r
      → HoldsSlots n slots sets → RunHolds sets items (run_after k r slots)
  after_holds sets items k r slots f o = run_by sets items k r (ran k 0 0 slots) (λ z. f) o

  -- where an item is only accepted if its pair is
  pub run_holds : (no_of : List ℕ → A → ℕ) → ((slots : List ℕ) (a : A) → no_of slots a ≡ 0 → pair_no n slots (pair_of a) ≡ 0)
      → (items : List A) (slots : List ℕ) (sets : List Pair) → HoldsSlots n slots sets
      → RunHolds sets items (set_items no_of pair_of slots items)
  unfolding set_items
  run_holds no_of f [] slots sets o = o
  run_holds no_of f (a ∷ items) slots sets o =
      run_by sets (a ∷ items) (no_of slots a) _ _
      (λ z. run_holds no_of f items (with_pair slots (pair_of a)) (pair_of a ∷ sets)
      (set_holds n slots (pair_of a) (f slots a z) sets o)) o
