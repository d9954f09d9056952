-- A loop that reads items into a store, one after the other: those that are done stand at the front of the
-- store, and what is left of the reading comes to the whole. One record for every kind of item.
-- Assumes nothing.
use Prim.Native.Nat.{ℕ, suc, ◌+◌, ◌*◌, ◌-◌, ◌≤◌, ◌<◌}
use mathlib.Core.Path.{◌≡◌, refl, sym, ap, ap₂, ◌∙◌}
use mathlib.Core.Bool.{Bool, true, false}
use mathlib.Core.List.{List, [], ◌∷◌, ◌++◌, append_assoc, append-nil}
use native.Mathlib.Omega.{arith}
use lib.Dec.{leb}
use lib.ListN.{length, drop, length-append}
use Rattle.std.specs.Prelude.{Ok, Err}
use Rattle.limits.specs.declared.Refused.{Refused}
use Rattle.words.specs.Store.{put_words}
use Rattle.words.specs.Pieces.{flat}
use Rattle.narg.specs.Reader.{Got, got, stop, Reader, on_got, ◌>>=◌, ◌>>◌, give, need, below, times, items, each}
use Rattle.narg.specs.Cursor.{item, read_words, read_words_out}
use Rattle.narg.specs.declared.Cursor.{Cursor}
use Rattle.narg.proofs.Fields.{never}
use Rattle.narg.proofs.Lists.{each_append, items_more}
use Rattle.narg.proofs.Items.{read_words-read, read_words-refused}
use Rattle.narg.proofs.Stores.{put_words-nil, put_words-append, length-put_words}
use Rattle.items.specs.Told.{Listed}

-- ---- the items of a list
pub give-nil : {A : Type 0} (g : Got (List A)) → on_got g (λ l. give ([] ++ l)) ≡ g
give-nil (got l r) = refl
give-nil (stop k) = refl

pub give-snoc : {A : Type 0} (g : Got (List A)) (done : List A) (a : A)
    → on_got g (λ l. give ((done ++ (a ∷ [])) ++ l)) ≡ on_got (on_got g (λ l. give (a ∷ l))) (λ l. give (done ++ l))
give-snoc (got l r) done a = ap (λ (x : List _). got x r) (append_assoc done (a ∷ []) l)
give-snoc (stop k) done a = refl

pub stop_is : {A B : Type 0} (j k : ℕ) → ◌≡◌ {A = Got A} (stop j) (stop k) → ◌≡◌ {A = Got B} (stop j) (stop k)
stop_is j k e = let z : j ≡ k = cc in ap (λ (n : ℕ). stop n) z

-- how many are left after i of n
pub left-is : (n i : ℕ) → i < n → n - i ≡ suc (n - (i + 1))
left-is n i h = omega arith

module _ {A : Type 0} (p : Reader A) (size : A → ℕ) where
  -- an item that is refused, by its own questions or by 10
  items-no : (room used m : ℕ) (bs : List ℕ) (k : ℕ) → (p >>= λ a. need 10 (leb (used + size a) room)) bs ≡ stop k
      → items p size room used (suc m) bs ≡ stop k
  items-no room used m bs k e = go (p bs) e
    where
      asked : (a : A) (r : List ℕ) (b : Bool) → need 10 b r ≡ stop k
          → on_got (need 10 b r) (λ u. items p size room (used + size a) m >>= λ l. give (a ∷ l)) ≡ stop k
      asked a r true f = absurd (never (sym f))
      asked a r false f = stop_is 10 k f

      go : (g : Got A) → on_got g (λ a. need 10 (leb (used + size a) room)) ≡ stop k
          → on_got g (λ a. need 10 (leb (used + size a) room) >> items p size room (used + size a) m >>= λ l. give (a ∷ l)) ≡ stop k
      go (got a r) f = asked a r (leb (used + size a) room) f
      go (stop j) f = stop_is j k f

  module _ (words : A → List ℕ) (bytes : List ℕ) (start n : ℕ) (out₀ : List ℕ) where
    pub record Run (out : List ℕ) (at to i : ℕ) : Type 0 where
      pub done : List A
      pub rest : on_got (items p size (length out₀) to (n - i) (drop at bytes)) (λ l. give (done ++ l)) ≡ items p size (length out₀) 0 n (drop start bytes)
      pub count : length done ≡ i
      pub used : to ≡ length (each words done)
      pub fits : to ≤ length out₀
      pub place : at ≡ start + 4 * to
      pub same : length out ≡ length out₀
      pub stored : out ≡ put_words 0 (each words done) out₀

    pub run-start : Run out₀ start 0 0
    run-start = record {
      done = [];
      rest = let z : n - 0 ≡ n = omega arith in rw z (give-nil (items p size (length out₀) 0 n (drop start bytes)));
      count = refl;
      used = refl;
      fits = omega arith;
      place = omega arith;
      same = refl;
      stored = sym (put_words-nil 0 out₀);
    }

    module _ (out : List ℕ) (at to i : ℕ) (r : Run out at to i) where
      pub run-stop : i < n → (k : ℕ) → (p >>= λ a. need 10 (leb (to + size a) (length out₀))) (drop at bytes) ≡ stop k
          → items p size (length out₀) 0 n (drop start bytes) ≡ stop k
      run-stop h k e =
          let s = ap (λ (m : ℕ). items p size (length out₀) to m (drop at bytes)) (left-is n i h) ∙ items-no (length out₀) to (n - (i + 1)) (drop at bytes) k e in
          sym r.rest ∙ ap (λ (g : Got (List A)). on_got g (λ l. give (r.done ++ l))) s

      pub run_more : i < n → (a : A) (next : ℕ) (last : List ℕ) → p (drop at bytes) ≡ got a (drop next bytes) → next ≡ at + 4 * size a → size a ≡ length (words a)
          → to + size a ≤ length out₀ → last ≡ put_words to (words a) out → Run last next (to + size a) (i + 1)
      run_more h a next last e past z f w =
          let s = ap (λ (m : ℕ). items p size (length out₀) to m (drop at bytes)) (left-is n i h)
          ∙ items_more p (drop at bytes) size (length out₀) to (n - (i + 1)) a (drop next bytes) e f in
          let c = r.count in
          let u = r.used in
          let k = r.fits in
          let at-is = r.place in
          let l = length-append r.done (a ∷ []) in
          let x : each words (r.done ++ (a ∷ [])) ≡ each words r.done ++ words a =
          each_append words r.done (a ∷ []) ∙ ap (λ (t : List ℕ). each words r.done ++ t) (append-nil (words a)) in
          let y = ap length x ∙ length-append (each words r.done) (words a) in
          let b : to ≡ 0 + length (each words r.done) = omega arith in
          let v = r.same in
          record {
            done = r.done ++ (a ∷ []);
            rest =
                give-snoc (items p size (length out₀) (to + size a) (n - (i + 1)) (drop next bytes)) r.done a
                ∙ sym (ap (λ (g : Got (List A)). on_got g (λ l. give (r.done ++ l))) s)
                ∙ r.rest;
            count = omega arith;
            used = omega arith;
            fits = f;
            place = omega arith;
            same = ap length w ∙ length-put_words to (words a) out (omega arith) ∙ v;
            stored =
                w
                ∙ ap₂ (λ (m : ℕ) (t : List ℕ). put_words m (words a) t) b r.stored
                ∙ put_words-append 0 (each words r.done) (words a) out₀ (omega arith)
                ∙ ap (λ (t : List ℕ). put_words 0 t out₀) (sym x);
          }

      pub run-listed : i ≡ n → (words_of : List A → List ℕ) → ((xs : List A) → each words xs ≡ words_of xs) → (next : Cursor) → next.at ≡ at
          → Listed (items p size (length out₀) 0 n (drop start bytes)) words_of bytes start out₀ out n to next
      run-listed h words_of same next w =
          let z : n - i ≡ 0 = omega arith in
          let e = ap (λ (m : ℕ). on_got (items p size (length out₀) to m (drop at bytes)) (λ l. give (r.done ++ l))) (sym z) ∙ r.rest in
          let c = r.count in
          let u = r.used in
          let k = r.fits in
          let s = same r.done in
          let ls = ap length s in
          let at-is = r.place in
          record {
            items = r.done;
            reads =
                sym e
                ∙ ap (λ (l : List A). got l (drop at bytes)) (append-nil r.done)
                ∙ ap (λ (m : ℕ). got r.done (drop m bytes)) (sym w);
            count = omega arith;
            size = omega arith;
            past = omega arith;
            stored = r.stored ∙ ap (λ (l : List ℕ). put_words 0 l out₀) s;
          }

-- ---- pieces of bounded words
pub each-flat : (qs : List (List ℕ)) → each (λ (q : List ℕ). q) qs ≡ flat qs
each-flat [] = refl
each-flat (q ∷ qs) = ap (λ (l : List ℕ). q ++ l) (each-flat qs)

module _ (size bound k : ℕ) (bytes : List ℕ) (start n : ℕ) (out₀ out : List ℕ) (at to i : ℕ)
    (r : Run (times (below bound k) size) (λ q. size) (λ q. q) bytes start n out₀ out at to i) (h : i < n) where
  pub run-piece : (next : Cursor) (last : List ℕ) → read_words bytes at out to size bound k ≡ Ok next → last ≡ read_words_out bytes at out to size bound k
      → Run (times (below bound k) size) (λ q. size) (λ q. q) bytes start n out₀ last next.at (to + size) (i + 1)
  run-piece next last e w =
      let g = read_words-read bytes at out to size bound k next e in
      let l = r.same in
      let f = g.room in
      run_more (times (below bound k) size) (λ q. size) (λ q. q) bytes start n out₀ out at to i r h g.ws next.at last
      (g.reads ∙ ap (λ (m : ℕ). got g.ws (drop m bytes)) (sym g.past)) g.past (sym g.count) (omega arith) (w ∙ g.stored)

  pub run-piece-no : (why : Refused) → read_words bytes at out to size bound k ≡ Err why
      → items (times (below bound k) size) (λ q. size) (length out₀) 0 n (drop start bytes) ≡ stop why.0
  unfolding item
  run-piece-no why e =
      let l = r.same in
      let f = (read_words-refused bytes at out to size bound k why.0 e).0 in
      run-stop (times (below bound k) size) (λ q. size) (λ q. q) bytes start n out₀ out at to i r h why.0
      (ap (λ (m : ℕ). on_got (times (below bound k) size (drop at bytes)) (λ q. need 10 (leb (to + size) m))) (sym l)
      ∙ go (times (below bound k) size (drop at bytes)) f)
    where
      asked : (q : List ℕ) (s : List ℕ) (b : Bool) → on_got (need 10 b s) (λ u. give q) ≡ stop why.0 → need 10 b s ≡ stop why.0
      asked q s true f = absurd (never (sym f))
      asked q s false f = stop_is 10 why.0 f

      go : (g : Got (List ℕ)) → on_got g (λ q. need 10 (leb (to + size) (length out)) >> give q) ≡ stop why.0
          → on_got g (λ q. need 10 (leb (to + size) (length out))) ≡ stop why.0
      go (got q s) f = asked q s (leb (to + size) (length out)) f
      go (stop m) f = stop_is m why.0 f
