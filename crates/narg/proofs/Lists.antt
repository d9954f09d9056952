-- Lists in bytes: items one after the other, written and read. One law serves every list of a byte form: it is
-- over the item's reader p, its bytes enc and, for what goes into a store, its size.
-- Assumes nothing.
use Prim.Native.Nat.{ℕ, zero, suc, ◌+◌, ◌*◌, ◌≤◌}
use mathlib.Core.Path.{◌≡◌, refl, sym, ap, ◌∙◌}
use mathlib.Core.Bool.{Bool, true, false}
use mathlib.Core.List.{List, [], ◌∷◌, ◌++◌, append_assoc}
use native.Mathlib.Omega.{arith}
use borrow.Author.Tests.{le-leb, lt-leb, leb-true, leb-false}
use lib.Dec.{leb}
use lib.ListN.{length, drop, length-append, length-drop}
use lib.Seq.{drop-drop}
use Rattle.words.specs.Store.{All}
use Rattle.narg.specs.Bytes.{IsBytes}
use Rattle.narg.specs.Reader.{Got, got, stop, Reader, on_got, or_stop, ◌>>=◌, ◌>>◌, give, need, times, items, each, sizes}
use Rattle.narg.proofs.Fields.{never, is_bytes-rest}

-- ---- items one after the other
pub each_append : {A : Type 0} (enc : A → List ℕ) (xs ys : List A) → each enc (xs ++ ys) ≡ each enc xs ++ each enc ys
each_append enc [] ys = refl
each_append enc (a ∷ xs) ys =
    ap (λ (l : List ℕ). enc a ++ l) (each_append enc xs ys) ∙ sym (append_assoc (enc a) (each enc xs) (each enc ys))

-- items of k bytes each
pub length-each : {A : Type 0} (enc : A → List ℕ) (k : ℕ) → ((a : A) → length (enc a) ≡ k) → (xs : List A) → length (each enc xs) ≡ k * length xs
length-each enc k h [] = omega arith
length-each enc k h (a ∷ xs) =
    let e = h a in
    let f = length-each enc k h xs in
    length-append (enc a) (each enc xs) ∙ omega arith

-- ---- a reader and then another: what both got
pub record Passed {A B : Type 0} (g : Got A) (next : A → Reader B) (b : B) (r : List ℕ) : Type 0 where
  pub value : A
  pub rest : List ℕ
  pub first : g ≡ got value rest
  pub second : next value rest ≡ got b r

pub passed : {A B : Type 0} (g : Got A) (next : A → Reader B) (b : B) (r : List ℕ) → on_got g next ≡ got b r → Passed g next b r
passed (got a rest) next b r e = record { value = a; rest = rest; first = refl; second = e }
passed (stop k) next b r e = absurd (never e)

-- a question that let the bytes through
pub need-got : {B : Type 0} (k : ℕ) (says : Bool) (bs : List ℕ) (next : Reader B) (b : B) (r : List ℕ) → (need k says >> next) bs ≡ got b r
    → (says ≡ true) × (next bs ≡ got b r)
need-got k true bs next b r e = (refl, e)
need-got k false bs next b r e = absurd (never e)

-- ---- one item more
module _ {A : Type 0} (p : Reader A) (bs : List ℕ) where
  pub times-stop : (n k : ℕ) → p bs ≡ stop k → times p (suc n) bs ≡ stop k
  times-stop n k e = rw e

  pub times_more : (n : ℕ) (a : A) (r : List ℕ) → p bs ≡ got a r → times p (suc n) bs ≡ (times p n >>= λ l. give (a ∷ l)) r
  times_more n a r e = rw e

  module _ (size : A → ℕ) (room used n : ℕ) where
    pub items_more : (a : A) (r : List ℕ) → p bs ≡ got a r → used + size a ≤ room
        → items p size room used (suc n) bs ≡ (items p size room (used + size a) n >>= λ l. give (a ∷ l)) r
    items_more a r e h = rw (e, le-leb (used + size a) room h)

-- ---- what was written is read
module _ {A : Type 0} (p : Reader A) (enc : A → List ℕ) (Good : A → Type 0) (law : (a : A) (r : List ℕ) → Good a → p (enc a ++ r) ≡ got a r) where
  pub times-law : (xs : List A) (r : List ℕ) → All Good xs → times p (length xs) (each enc xs ++ r) ≡ got xs r
  times-law [] r g = refl
  times-law (a ∷ xs) r g = rw (append_assoc (enc a) (each enc xs) r, law a (each enc xs ++ r) g.0, times-law xs r g.1)

  -- an equation with the one question that is left: does the store hold them all?
  pub items-law : (size : A → ℕ) (room used : ℕ) (xs : List A) (r : List ℕ) → used ≤ room → All Good xs
      → items p size room used (length xs) (each enc xs ++ r) ≡ or_stop (leb (used + sizes size xs) room) 10 (got xs r)
  unfolding or_stop
  items-law size room used [] r f g = rw (le-leb (used + 0) room (omega arith))
  items-law size room used (a ∷ xs) r f g =
      rw (append_assoc (enc a) (each enc xs) r, law a (each enc xs ++ r) g.0)
      (go (leb (used + size a) room) refl (λ h. items-law size room (used + size a) xs r h g.1))
    where
      cons-by : (b : Bool) → on_got (or_stop b 10 (got xs r)) (λ (l : List A). give (a ∷ l)) ≡ or_stop b 10 (got (a ∷ xs) r)
      cons-by true = refl
      cons-by false = refl

      go : (b : Bool) → leb (used + size a) room ≡ b
          → (used + size a ≤ room → items p size room (used + size a) (length xs) (each enc xs ++ r) ≡ or_stop (leb (used + size a + sizes size xs) room) 10 (got xs r))
          → on_got (need 10 b (each enc xs ++ r)) (λ u. items p size room (used + size a) (length xs) >>= λ l. give (a ∷ l))
          ≡ or_stop (leb (used + (size a + sizes size xs)) room) 10 (got (a ∷ xs) r)
      go true e ih =
          let z : used + size a + sizes size xs ≡ used + (size a + sizes size xs) = omega arith in
          rw (ih (leb-true _ _ e), z) (cons-by (leb (used + (size a + sizes size xs)) room))
      go false e ih =
          let h = leb-false (used + size a) room e in
          rw (lt-leb (used + (size a + sizes size xs)) room (omega arith))

-- ---- a list that was read: its first item, which the store holds, and the others
pub record Cons {A : Type 0} (p : Reader A) (Holds : A → Type 0) (more : A → Reader (List A)) (bs : List ℕ) (xs : List A) (r : List ℕ) : Type 0 where
  pub item : A
  pub rest : List ℕ
  pub list : List A
  pub first : p bs ≡ got item rest
  pub holds : Holds item
  pub others : more item rest ≡ got list r
  pub all : xs ≡ item ∷ list

module _ {A : Type 0} (p : Reader A) (bs : List ℕ) (xs : List A) (r : List ℕ) where
  cons-got : (Holds : A → Type 0) (more : A → Reader (List A)) (a : A) (rest : List ℕ) (g : Got (List A)) → p bs ≡ got a rest → Holds a
      → more a rest ≡ g → on_got g (λ l. give (a ∷ l)) ≡ got xs r → Cons p Holds more bs xs r
  cons-got Holds more a rest (got l s) e m f h = record { item = a; rest = rest; list = l; first = e; holds = m; others = cc; all = cc }
  cons-got Holds more a rest (stop k) e m f h = absurd (never h)

  pub times-cons : (n : ℕ) → times p (suc n) bs ≡ got xs r → Cons p (λ a. Unit) (λ a. times p n) bs xs r
  times-cons n e =
      let one = passed (p bs) (λ a. times p n >>= λ l. give (a ∷ l)) xs r e in
      cons-got (λ a. Unit) (λ a. times p n) one.value one.rest (times p n one.rest) one.first tt refl one.second

  pub items-cons : (size : A → ℕ) (room used n : ℕ) → items p size room used (suc n) bs ≡ got xs r
      → Cons p (λ a. used + size a ≤ room) (λ a. items p size room (used + size a) n) bs xs r
  items-cons size room used n e =
      let one = passed (p bs) (λ a. need 10 (leb (used + size a) room) >> items p size room (used + size a) n >>= λ l. give (a ∷ l)) xs r e in
      let a = one.value in
      let asked = need-got 10 (leb (used + size a) room) one.rest (items p size room (used + size a) n >>= λ l. give (a ∷ l)) xs r one.second in
      cons-got (λ x. used + size x ≤ room) (λ x. items p size room (used + size x) n) a one.rest (items p size room (used + size a) n one.rest)
      one.first (leb-true (used + size a) room asked.0) refl asked.1

-- ---- what was read is what was written
pub record ReadBack {A : Type 0} (enc : A → List ℕ) (n : ℕ) (bs : List ℕ) (xs : List A) (r : List ℕ) : Type 0 where
  pub bytes : each enc xs ++ r ≡ bs
  pub count : length xs ≡ n

module _ {A : Type 0} (p : Reader A) (enc : A → List ℕ) (back : (bs : List ℕ) (a : A) (r : List ℕ) → IsBytes bs → p bs ≡ got a r → enc a ++ r ≡ bs) where
  read_none : (bs : List ℕ) (xs : List A) (r : List ℕ) → got [] bs ≡ got xs r → ReadBack enc 0 bs xs r
  read_none bs xs r e = let x : [] ≡ xs = cc in let f : bs ≡ r = cc in record { bytes = rw (← x, f); count = rw (← x) }

  -- one item before those that follow
  read-cons : (n : ℕ) (bs : List ℕ) (xs : List A) (r : List ℕ) (Holds : A → Type 0) (more : A → Reader (List A)) → IsBytes bs → (c : Cons p Holds more bs xs r)
      → (IsBytes c.rest → ReadBack enc n c.rest c.list r) → ReadBack enc (suc n) bs xs r
  read-cons n bs xs r Holds more h c later =
      let b = back bs c.item c.rest h c.first in
      let l = later (is_bytes-rest (enc c.item) c.rest (rw b h)) in
      record {
        bytes =
            rw (c.all, append_assoc (enc c.item) (each enc c.list) r, l.bytes) b;
        count = rw c.all (ap suc l.count);
      }

  pub times-back : (n : ℕ) (bs : List ℕ) (xs : List A) (r : List ℕ) → IsBytes bs → times p n bs ≡ got xs r → ReadBack enc n bs xs r
  times-back zero bs xs r h e = read_none bs xs r e
  times-back (suc n) bs xs r h e =
      let c = times-cons p bs xs r n e in
      read-cons n bs xs r (λ a. Unit) (λ a. times p n) h c (λ b. times-back n c.rest c.list r b c.others)

  pub items_back : (size : A → ℕ) (room used n : ℕ) (bs : List ℕ) (xs : List A) (r : List ℕ) → IsBytes bs → items p size room used n bs ≡ got xs r
      → ReadBack enc n bs xs r
  items_back size room used zero bs xs r h e = read_none bs xs r e
  items_back size room used (suc n) bs xs r h e =
      let c = items-cons p bs xs r size room used n e in
      read-cons n bs xs r (λ a. used + size a ≤ room) (λ a. items p size room (used + size a) n) h c
      (λ b. items_back size room (used + size c.item) n c.rest c.list r b c.others)

-- and the store holds what was read
pub items-room : {A : Type 0} (p : Reader A) (size : A → ℕ) (room used n : ℕ) (bs : List ℕ) (xs : List A) (r : List ℕ) → items p size room used n bs ≡ got xs r
    → used ≤ room → used + sizes size xs ≤ room
items-room p size room used zero bs xs r e h = let x : [] ≡ xs = cc in rw (← x) (omega arith)
items-room p size room used (suc n) bs xs r e h =
    let c = items-cons p bs xs r size room used n e in
    let l = items-room p size room (used + size c.item) n c.rest c.list r c.others c.holds in
    rw c.all (omega arith)

-- what holds of every item that is read holds of all of them
module _ {A : Type 0} (p : Reader A) (Good : A → Type 0) (good : (bs : List ℕ) (a : A) (r : List ℕ) → p bs ≡ got a r → Good a) where
  pub times-all : (n : ℕ) (bs : List ℕ) (xs : List A) (r : List ℕ) → times p n bs ≡ got xs r → All Good xs
  times-all zero bs xs r e = let x : [] ≡ xs = cc in rw (← x) tt
  times-all (suc n) bs xs r e =
      let c = times-cons p bs xs r n e in
      rw c.all (good bs c.item c.rest c.first, times-all n c.rest c.list r c.others)

  pub items-all : (size : A → ℕ) (room used n : ℕ) (bs : List ℕ) (xs : List A) (r : List ℕ) → items p size room used n bs ≡ got xs r → All Good xs
  items-all size room used zero bs xs r e = let x : [] ≡ xs = cc in rw (← x) tt
  items-all size room used (suc n) bs xs r e =
      let c = items-cons p bs xs r size room used n e in
      rw c.all (good bs c.item c.rest c.first, items-all size room (used + size c.item) n c.rest c.list r c.others)

-- ---- how many there are, and what is left
pub times-count : {A : Type 0} (p : Reader A) (n : ℕ) (bs : List ℕ) (xs : List A) (r : List ℕ) → times p n bs ≡ got xs r → length xs ≡ n
times-count p zero bs xs r e = let x : [] ≡ xs = cc in rw (← x)
times-count p (suc n) bs xs r e =
    let c = times-cons p bs xs r n e in
    rw c.all (ap suc (times-count p n c.rest c.list r c.others))

pub items-count : {A : Type 0} (p : Reader A) (size : A → ℕ) (room used n : ℕ) (bs : List ℕ) (xs : List A) (r : List ℕ)
    → items p size room used n bs ≡ got xs r → length xs ≡ n
items-count p size room used zero bs xs r e = let x : [] ≡ xs = cc in rw (← x)
items-count p size room used (suc n) bs xs r e =
    let c = items-cons p bs xs r size room used n e in
    rw c.all (ap suc (items-count p size room (used + size c.item) n c.rest c.list r c.others))

-- of items of k bytes each
module _ {A : Type 0} (p : Reader A) (k : ℕ) (one : (bs : List ℕ) (a : A) (r : List ℕ) → p bs ≡ got a r → (k ≤ length bs) × (r ≡ drop k bs)) where
  rest-cons : (n : ℕ) (bs : List ℕ) (xs : List A) (r : List ℕ) (Holds : A → Type 0) (more : A → Reader (List A)) → (c : Cons p Holds more bs xs r)
      → (k * n ≤ length c.rest) × (r ≡ drop (k * n) c.rest) → (k * suc n ≤ length bs) × (r ≡ drop (k * suc n) bs)
  rest-cons n bs xs r Holds more c later =
      let o = one bs c.item c.rest c.first in
      let l = ap length o.1 ∙ length-drop k bs in
      let z : k + k * n ≡ k * suc n = omega arith in
      (omega (arith, o.0, later.0), later.1 ∙ ap (λ (s : List ℕ). drop (k * n) s) o.1 ∙ drop-drop (k * n) k bs ∙ ap (λ (m : ℕ). drop m bs) z)

  pub times-rest : (n : ℕ) (bs : List ℕ) (xs : List A) (r : List ℕ) → times p n bs ≡ got xs r → (k * n ≤ length bs) × (r ≡ drop (k * n) bs)
  times-rest zero bs xs r e = let z : k * 0 ≡ 0 = omega arith in rw z (omega arith, cc)
  times-rest (suc n) bs xs r e =
      let c = times-cons p bs xs r n e in
      rest-cons n bs xs r (λ a. Unit) (λ a. times p n) c (times-rest n c.rest c.list r c.others)

  pub items-rest : (size : A → ℕ) (room used n : ℕ) (bs : List ℕ) (xs : List A) (r : List ℕ) → items p size room used n bs ≡ got xs r
      → (k * n ≤ length bs) × (r ≡ drop (k * n) bs)
  items-rest size room used zero bs xs r e = let z : k * 0 ≡ 0 = omega arith in rw z (omega arith, cc)
  items-rest size room used (suc n) bs xs r e =
      let c = items-cons p bs xs r size room used n e in
      rest-cons n bs xs r (λ a. used + size a ≤ room) (λ a. items p size room (used + size a) n) c
      (items-rest size room (used + size c.item) n c.rest c.list r c.others)
