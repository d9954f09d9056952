-- 11 of the counts where they are right: striking a query that is held never says no, and joining one says no only
-- where there would be more than 2^30 cells. Assumes nothing.
use Prim.Native.Nat.{ℕ, zero, suc, ◌+◌, ◌-◌, ◌≤◌, ◌<◌}
use mathlib.Core.Path.{◌≡◌, refl, sym, ap, ◌∙◌}
use mathlib.Core.Bool.{Bool, true, false, ◌&&◌, and-false}
use mathlib.Core.List.{List, [], ◌∷◌, ◌++◌}
use native.Mathlib.Omega.{arith}
use borrow.Author.Tests.{ltb-true, le-ltb, le-leb, ne_eqb, eqb-true}
use lib.Dec.{eqb, ltb}
use lib.ListN.{length, get_or}
use Rattle.limits.specs.Numbers.{max_count}
use Rattle.limits.specs.Questions.{pick}
use Rattle.uses.specs.Uses.{times, strays, uses_of, count_fits, cell_fits, all_fit, uses_fit}
use Rattle.uses.specs.Moves.{stray_fits}
use Rattle.uses.proofs.Counts.{times-append, strays-append, times-le, strays-le, uses-at, more-times, self-named}

module _ (strike : Bool) (len : ℕ) (uses : List ℕ) (stray : ℕ) (cells : List ℕ) where
  -- where each cell that is named fits, all do
  pub all_named : (these : List ℕ) → ((x : ℕ) → 0 < times these x → cell_fits strike len uses stray cells x ≡ true)
      → all_fit strike len uses stray cells these ≡ true
  unfolding all_fit
  all_named [] f = refl
  all_named (y ∷ these) f =
      rw (f y (self-named y these))
      (all_named these (λ x h. let m = more-times y x these in f x (omega arith)))

  -- one that does not
  pub one-unfit : (these : List ℕ) (x : ℕ) → 0 < times these x → cell_fits strike len uses stray cells x ≡ false
      → all_fit strike len uses stray cells these ≡ false
  unfolding all_fit times
  one-unfit [] x h e = absurd (omega arith)
  one-unfit (y ∷ these) x h e = go (eqb x y) refl h (λ k. one-unfit these x k e)
    where
      go : (t : Bool) → eqb x y ≡ t → 0 < pick t 1 0 + times these x → (0 < times these x → all_fit strike len uses stray cells these ≡ false)
          → (cell_fits strike len uses stray cells y && all_fit strike len uses stray cells these) ≡ false
      go true z k f =
          let w : y ≡ x = sym (eqb-true x y z) in
          let v : cell_fits strike len uses stray cells y ≡ false = ap (cell_fits strike len uses stray cells) w ∙ e in
          rw v
      go false z k f = rw (f (omega arith)) (and-false (cell_fits strike len uses stray cells y))

  -- a stray cell, where the stray count does not fit
  pub stray-unfit : (these : List ℕ) → 0 < strays len these → count_fits strike stray (strays len cells) ≡ false
      → all_fit strike len uses stray cells these ≡ false
  unfolding all_fit strays
  stray-unfit [] h e = absurd (omega arith)
  stray-unfit (y ∷ these) h e = go (ltb y len) refl h (λ k. stray-unfit these k e)
    where
      go : (t : Bool) → ltb y len ≡ t → 0 < pick t 0 1 + strays len these → (0 < strays len these → all_fit strike len uses stray cells these ≡ false)
          → (cell_fits strike len uses stray cells y && all_fit strike len uses stray cells these) ≡ false
      go true z k f = rw (f (omega arith)) (and-false (cell_fits strike len uses stray cells y))
      go false z k f =
          let v : cell_fits strike len uses stray cells y ≡ false = rw z e in
          rw v

-- a cell beyond the store is stray
pub named-stray : (len : ℕ) (cells : List ℕ) (x : ℕ) → len ≤ x → 0 < times cells x → 0 < strays len cells
unfolding times strays
named-stray len [] x l h = absurd (omega arith)
named-stray len (y ∷ cells) x l h = go (eqb x y) refl h (λ k. named-stray len cells x l k)
  where
    go : (t : Bool) → eqb x y ≡ t → 0 < pick t 1 0 + times cells x → (0 < times cells x → 0 < strays len cells)
        → 0 < pick (ltb y len) 0 1 + strays len cells
    go true z k f =
        let w = eqb-true x y z in
        let v : ◌≡◌ {A = ℕ} (pick (ltb y len) 0 1) 1 = rw (le-ltb y len (omega arith)) in
        omega arith
    go false z k f = let v = f (omega arith) in omega arith

-- the stray count, where 11 says yes
pub stray-fits : (strike : Bool) (len : ℕ) (uses : List ℕ) (stray : ℕ) (cells : List ℕ) → uses_fit strike len uses stray cells ≡ true
    → stray_fits strike stray (strays len cells) ≡ true
stray-fits strike len uses stray cells e = go (strays len cells) refl (count_fits strike stray (strays len cells)) refl
  where
    go : (n : ℕ) → strays len cells ≡ n → (b : Bool) → count_fits strike stray (strays len cells) ≡ b → stray_fits strike stray (strays len cells) ≡ true
    go zero z b f = rw z
    go (suc n) z true f = rw (ne_eqb (strays len cells) 0 (λ y. omega arith)) f
    go (suc n) z false f = let w = stray-unfit strike len uses stray cells cells (omega arith) f in absurd (let y : ◌≡◌ {A = ℕ} 0 1 = cc in omega arith)

-- where each cell fits, all do
all-by : (strike : Bool) (len : ℕ) (uses : List ℕ) (stray : ℕ) (cells these : List ℕ)
    → ((x : ℕ) → cell_fits strike len uses stray cells x ≡ true) → all_fit strike len uses stray cells these ≡ true
unfolding all_fit
all-by strike len uses stray cells [] f = refl
all-by strike len uses stray cells (x ∷ these) f = rw (f x) (all-by strike len uses stray cells these f)

pick_true : (b c : Bool) (x y : Bool) → (b ≡ true → x ≡ true) → y ≡ true → pick b (pick c x true) y ≡ true
pick_true true true x y f g = f refl
pick_true true false x y f g = refl
pick_true false c x y f g = g

both : (a b : Bool) → a ≡ true → b ≡ true → (a && b) ≡ true
both a b e f = rw (e, f)

pub join-fits : (len : ℕ) (cells q : List ℕ) → length (cells ++ q) ≤ max_count → uses_fit false len (uses_of len cells) (strays len cells) q ≡ true
join-fits len cells q h =
    all-by false len (uses_of len cells) (strays len cells) q q
    (λ x. pick_true (ltb x len) (ltb x (length (uses_of len cells))) (count_fits false (get_or (uses_of len cells) x 0) (times q x)) (count_fits false (strays len cells) (strays len q))
    (λ b.
    let e = uses-at len cells x (ltb-true x len b) in
    let a = times-append cells q x in
    let l = times-le (cells ++ q) x in
    le-leb (get_or (uses_of len cells) x 0 + times q x) max_count (omega arith))
    (let a = strays-append len cells q in
    let l = strays-le len (cells ++ q) in
    le-leb (strays len cells + strays len q) max_count (omega arith)))

pub strike-fits : (len : ℕ) (a q b : List ℕ) → length (a ++ (q ++ b)) ≤ max_count
    → uses_fit true len (uses_of len (a ++ (q ++ b))) (strays len (a ++ (q ++ b))) q ≡ true
strike-fits len a q b h =
    let l = a ++ (q ++ b) in
    all-by true len (uses_of len l) (strays len l) q q
    (λ x. pick_true (ltb x len) (ltb x (length (uses_of len (a ++ (q ++ b))))) (count_fits true (get_or (uses_of len (a ++ (q ++ b))) x 0) (times q x)) (count_fits true (strays len (a ++ (q ++ b))) (strays len q))
    (λ y.
    let l = a ++ (q ++ b) in
    let e = uses-at len l x (ltb-true x len y) in
    let m = times-append a (q ++ b) x in
    let n = times-append q b x in
    let k = times-le l x in
    both _ _ (le-leb (times q x) (get_or (uses_of len l) x 0) (omega arith)) (le-leb (get_or (uses_of len l) x 0 - times q x) max_count (omega arith)))
    (let l = a ++ (q ++ b) in
    let m = strays-append len a (q ++ b) in
    let n = strays-append len q b in
    let k = strays-le len l in
    both _ _ (le-leb (strays len q) (strays len l) (omega arith)) (le-leb (strays len l - strays len q) max_count (omega arith))))
