-- Use counts over lists: of lists put together, their sum, and their bounds; and that joining and striking cells
-- gives the counts of what is then there. Assumes nothing.
use Prim.Native.Nat.{ℕ, zero, suc, ◌+◌, ◌-◌, ◌≤◌, ◌<◌}
use mathlib.Core.Path.{◌≡◌, refl, sym, ap, ◌∙◌}
use mathlib.Core.Bool.{Bool, true, false}
use mathlib.Core.List.{List, [], ◌∷◌, ◌++◌}
use native.Mathlib.Omega.{arith}
use native.Mathlib.Nat.{not-suc-le-zero}
use borrow.Author.Tests.{ltb-true, ltb-false, eq-eqb, ne_eqb, eqb-true, eqb-false}
use lib.Dec.{eqb, ltb}
use lib.ListN.{length, get_or, set, drop, length-set}
use lib.Seq.{get_or-set_same, get_or-set_other, ext_get_or}
use Rattle.limits.specs.Questions.{pick}
use Rattle.uses.specs.Uses.{times, strays, uses_from, uses_of, sum, count_after, uses_after}

-- ---- of two lists, one behind the other
pub times-append : (a b : List ℕ) (x : ℕ) → times (a ++ b) x ≡ times a x + times b x
unfolding times
times-append [] b x = omega arith
times-append (y ∷ a) b x = let e = times-append a b x in omega arith

pub strays-append : (len : ℕ) (a b : List ℕ) → strays len (a ++ b) ≡ strays len a + strays len b
unfolding strays
strays-append len [] b = omega arith
strays-append len (y ∷ a) b = let e = strays-append len a b in omega arith

-- ---- one cell more
pub more-times : (y x : ℕ) (cells : List ℕ) → times cells x ≤ times (y ∷ cells) x
unfolding times
more-times y x cells = omega arith

pub self-named : (x : ℕ) (cells : List ℕ) → 0 < times (x ∷ cells) x
unfolding times
self-named x cells = let w : ◌≡◌ {A = ℕ} (pick (eqb x x) 1 0) 1 = rw (eq-eqb x x refl) in omega arith

-- ---- no count is above the number of cells
pick-le : (b : Bool) → pick b 1 0 ≤ 1
pick-le true = omega arith
pick-le false = omega arith

pub times-le : (l : List ℕ) (x : ℕ) → times l x ≤ length l
unfolding times
times-le [] x = omega arith
times-le (y ∷ l) x = let e = times-le l x in let p = pick-le (eqb x y) in omega arith

pick-le' : (b : Bool) → pick b 0 1 ≤ 1
pick-le' true = omega arith
pick-le' false = omega arith

pub strays-le : (len : ℕ) (l : List ℕ) → strays len l ≤ length l
unfolding strays
strays-le len [] = omega arith
strays-le len (y ∷ l) = let e = strays-le len l in let p = pick-le' (ltb y len) in omega arith

-- ---- the use store, worked out afresh
pub from-length : (i n : ℕ) (l : List ℕ) → length (uses_from i n l) ≡ n
from-length i zero l = refl
from-length i (suc n) l = ap suc (from-length (suc i) n l)

pub from_at : (i n : ℕ) (l : List ℕ) (k : ℕ) → k < n → get_or (uses_from i n l) k 0 ≡ times l (i + k)
from_at i zero l k h = absurd (not-suc-le-zero h)
from_at i (suc n) l zero h = let z : i + 0 ≡ i = omega arith in rw z
from_at i (suc n) l (suc k) h = let z : i + suc k ≡ suc i + k = omega arith in rw z (from_at (suc i) n l k (omega arith))

pub uses-length : (len : ℕ) (l : List ℕ) → length (uses_of len l) ≡ len
unfolding uses_of
uses-length len l = from-length 0 len l

pub uses-at : (len : ℕ) (l : List ℕ) (x : ℕ) → x < len → get_or (uses_of len l) x 0 ≡ times l x
unfolding uses_of
uses-at len l x h = let z : 0 + x ≡ x = omega arith in from_at 0 len l x h ∙ ap (times l) z

-- the counts from slot k on
pub from-drop : (i m k : ℕ) (l : List ℕ) → drop k (uses_from i (k + m) l) ≡ uses_from (i + k) m l
from-drop i m zero l = let z : i + 0 ≡ i = omega arith in let y : 0 + m ≡ m = omega arith in rw (z, y)
from-drop i m (suc k) l =
    let z : i + suc k ≡ suc i + k = omega arith in
    let y : suc k + m ≡ suc (k + m) = omega arith in
    rw (z, y) (from-drop (suc i) m k l)

-- ---- the counts and the stray count add up to the number of cells
-- 1 where y is one of the n wires from i on, else 0
abbrev pub among : (i n y : ℕ) → ℕ
among i zero y = 0
among i (suc n) y = pick (eqb i y) 1 0 + among (suc i) n y

sum_more : (i n : ℕ) (y : ℕ) (l : List ℕ) → sum (uses_from i n (y ∷ l)) ≡ among i n y + sum (uses_from i n l)
unfolding times
sum_more i zero y l = refl
sum_more i (suc n) y l = let e = sum_more (suc i) n y l in omega arith

among_below : (i n y : ℕ) → y < i → among i n y ≡ 0
among_below i zero y h = refl
among_below i (suc n) y h =
    let e = among_below (suc i) n y (omega arith) in
    rw (ne_eqb i y (λ z. omega arith), e)

among_in : (i n y : ℕ) → i ≤ y → y < i + n → among i n y ≡ 1
among_in i zero y h k = absurd (omega arith)
among_in i (suc n) y h k = go (eqb i y) refl (λ l. among_in (suc i) n y l (omega arith))
  where
    go : (b : Bool) → eqb i y ≡ b → (suc i ≤ y → among (suc i) n y ≡ 1) → pick b 1 0 + among (suc i) n y ≡ 1
    go true e f = let z = eqb-true i y e in let r = among_below (suc i) n y (omega arith) in omega arith
    go false e f = let r = f (omega (arith, eqb-false i y e)) in omega arith

among-above : (i n y : ℕ) → i + n ≤ y → among i n y ≡ 0
among-above i zero y h = refl
among-above i (suc n) y h =
    let e = among-above (suc i) n y (omega arith) in
    rw (ne_eqb i y (λ z. omega arith), e)

either : (len y : ℕ) → among 0 len y + pick (ltb y len) 0 1 ≡ 1
either len y = go (ltb y len) refl
  where
    go : (b : Bool) → ltb y len ≡ b → among 0 len y + pick b 0 1 ≡ 1
    go true e = let r = among_in 0 len y (omega arith) (omega (arith, ltb-true y len e)) in omega arith
    go false e = let r = among-above 0 len y (omega (arith, ltb-false y len e)) in omega arith

sum-none : (i n : ℕ) → sum (uses_from i n []) ≡ 0
unfolding times
sum-none i zero = refl
sum-none i (suc n) = let e = sum-none (suc i) n in omega arith

pub adds-up : (len : ℕ) (l : List ℕ) → sum (uses_of len l) + strays len l ≡ length l
unfolding uses_of strays
adds-up len [] = let e = sum-none 0 len in omega arith
adds-up len (y ∷ l) =
    let e : sum (uses_from 0 len l) + strays len l ≡ length l = adds-up len l in
    let m = sum_more 0 len y l in
    let o = either len y in
    omega arith

-- ---- cells struck or joined, at every slot
pub after-length : (strike : Bool) (uses cells : List ℕ) → length (uses_after strike uses cells) ≡ length uses
unfolding uses_after
after-length strike uses [] = refl
after-length strike uses (x ∷ cells) =
    let v = count_after strike (get_or uses x 0) 1 in
    after-length strike (set uses x v) cells ∙ length-set uses x v

pub after-append : (strike : Bool) (uses a b : List ℕ) → uses_after strike uses (a ++ b) ≡ uses_after strike (uses_after strike uses a) b
unfolding uses_after
after-append strike uses [] b = refl
after-append strike uses (x ∷ a) b = after-append strike (set uses x (count_after strike (get_or uses x 0) 1)) a b

set_at : (uses : List ℕ) (x v i : ℕ) → i < length uses → get_or (set uses x v) i 0 ≡ pick (eqb i x) v (get_or uses i 0)
set_at uses x v i h = go (eqb i x) refl
  where
    go : (b : Bool) → eqb i x ≡ b → get_or (set uses x v) i 0 ≡ pick b v (get_or uses i 0)
    go true e = let z : i ≡ x = eqb-true i x e in rw z (get_or-set_same uses x v 0 (rw z at h))
    go false e = get_or-set_other uses x i v 0 (eqb-false i x e)

after_one : (strike : Bool) (n k : ℕ) → count_after strike (count_after strike n 1) k ≡ count_after strike n (1 + k)
after_one true n k = omega arith
after_one false n k = omega arith

after_none : (strike : Bool) (n : ℕ) → count_after strike n 0 ≡ n
after_none true n = omega arith
after_none false n = omega arith

pub after-at : (strike : Bool) (uses cells : List ℕ) (i : ℕ) → i < length uses
    → get_or (uses_after strike uses cells) i 0 ≡ count_after strike (get_or uses i 0) (times cells i)
unfolding uses_after times
after-at strike uses [] i h = sym (after_none strike (get_or uses i 0))
after-at strike uses (x ∷ cells) i h =
    let v = count_after strike (get_or uses x 0) 1 in
    after-at strike (set uses x v) cells i (rw (length-set uses x v) h)
    ∙ ap (λ (n : ℕ). count_after strike n (times cells i)) (set_at uses x v i h)
    ∙ go (eqb i x) refl
  where
    go : (b : Bool) → eqb i x ≡ b
        → count_after strike (pick b (count_after strike (get_or uses x 0) 1) (get_or uses i 0)) (times cells i)
        ≡ count_after strike (get_or uses i 0) (pick b 1 0 + times cells i)
    go true e = let z : i ≡ x = eqb-true i x e in rw z (after_one strike (get_or uses x 0) (times cells x))
    go false e = let z : 0 + times cells i ≡ times cells i = omega arith in rw z

-- ---- so the counts are those of what is then there
pub joined-use : (len : ℕ) (cells more : List ℕ) → uses_after false (uses_of len cells) more ≡ uses_of len (cells ++ more)
joined-use len cells more =
    ext_get_or 0 (uses_after false (uses_of len cells) more) (uses_of len (cells ++ more))
    (after-length false (uses_of len cells) more ∙ uses-length len cells ∙ sym (uses-length len (cells ++ more)))
    (λ i k.
    let l : i < length (uses_of len cells) = rw (after-length false (uses_of len cells) more) at k in
    let n : i < len = rw (uses-length len cells) at l in
    let e = uses-at len cells i n in
    let a = times-append cells more i in
    after-at false (uses_of len cells) more i l ∙ omega arith ∙ sym (uses-at len (cells ++ more) i n))

pub struck-use : (len : ℕ) (a q b : List ℕ) → uses_after true (uses_of len (a ++ (q ++ b))) q ≡ uses_of len (a ++ b)
struck-use len a q b =
    let l = a ++ (q ++ b) in
    ext_get_or 0 (uses_after true (uses_of len l) q) (uses_of len (a ++ b))
    (after-length true (uses_of len l) q ∙ uses-length len l ∙ sym (uses-length len (a ++ b)))
    (λ i k.
    let m : i < length (uses_of len (a ++ (q ++ b))) = rw (after-length true (uses_of len (a ++ (q ++ b))) q) at k in
    let n : i < len = rw (uses-length len (a ++ (q ++ b))) at m in
    let e = uses-at len (a ++ (q ++ b)) i n in
    let x = times-append a (q ++ b) i in
    let y = times-append q b i in
    let z = times-append a b i in
    after-at true (uses_of len (a ++ (q ++ b))) q i m ∙ omega arith ∙ sym (uses-at len (a ++ b) i n))

pub struck-strays : (len : ℕ) (a q b : List ℕ) → strays len (a ++ (q ++ b)) - strays len q ≡ strays len (a ++ b)
struck-strays len a q b =
    let x = strays-append len a (q ++ b) in
    let y = strays-append len q b in
    let z = strays-append len a b in
    omega arith
