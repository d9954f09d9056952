-- An item of bounded words at a cursor, put into a store: its questions word by word, for the loop that asks; its
-- ends, for the code's returns; and what follows from an answer, for those who call. Assumes nothing.
use Prim.Native.Nat.{ℕ, suc, ◌+◌, ◌*◌, ◌-◌, ◌≤◌, ◌<◌}
use mathlib.Core.Path.{◌≡◌, refl, sym, ap, ◌∙◌}
use mathlib.Core.Bool.{Bool, true, false, ◌&&◌}
use mathlib.Core.List.{List, ◌∷◌}
use native.Mathlib.Omega.{arith}
use borrow.Author.Tests.{ltb-true, ltb-false, le-leb, lt-leb, leb-true}
use lib.Dec.{ltb, leb}
use lib.ListN.{length, drop, length-drop}
use Rattle.std.specs.Prelude.{Result, Ok, Err}
use Rattle.limits.specs.Questions.{pick}
use Rattle.limits.specs.Outcome.{refusal}
use Rattle.limits.specs.declared.Refused.{Refused}
use Rattle.words.specs.Store.{put_words}
use Rattle.narg.specs.Bytes.{word_in}
use Rattle.narg.specs.Reader.{Got, got, stop, on_got, ◌>>◌, give, need, word, below, times}
use Rattle.narg.specs.Cursor.{cursor, item, item_of, store_of, read_words, read_words_out}
use Rattle.narg.specs.declared.Cursor.{Cursor}
use Rattle.narg.proofs.Fields.{word-short, below-short, below-not, below-yes}
use Rattle.narg.proofs.Lists.{times-stop, times_more, times-count}
use Rattle.narg.proofs.At.{word_at}
use Rattle.narg.proofs.Words.{words-rest-at, words-plain}

-- an answer is one of two
never : (next : Cursor) (k : ℕ) → Ok next ≡ Err (refusal k) → ⊥
never next k e = let z : ◌≡◌ {A = ℕ} 0 1 = cc in omega arith

refused-is : {a b : Refused} → ◌≡◌ {A = Result Cursor Refused} (Err a) (Err b) → a ≡ b
refused-is e = cc

-- ---- the questions of an item of n words, asked of the words that are there first
-- what the words from the i-th on answer
unfoldable pub asked_from : (s : List ℕ) (at n bound k i : ℕ) → Result Cursor Refused
asked_from s at n bound k i = item_of (at + 4 * n) (times (below bound k) (n - i) (drop (at + 4 * i) s))

-- a word before the others changes no answer
cons-item : (to a : ℕ) (g : Got (List ℕ)) → item_of to (on_got g (λ l. give (a ∷ l))) ≡ item_of to g
cons-item to a (got l r) = refl
cons-item to a (stop k) = refl

-- one test and then another
pick-and : (a b : Bool) (x y : Result Cursor Refused) → pick (a && b) x y ≡ pick a (pick b x y) y
pick-and true b x y = refl
pick-and false b x y = refl

module _ (s : List ℕ) (at n bound k i : ℕ) where
  asked-done : i ≡ n → asked_from s at n bound k i ≡ Ok (cursor (at + 4 * n))
  unfolding asked_from
  asked-done h = let z : n - n ≡ 0 = omega arith in rw (h, z)

  module _ (h : i < n) where
    asked-suc : asked_from s at n bound k i ≡ item_of (at + 4 * n) (times (below bound k) (suc (n - (i + 1))) (drop (at + 4 * i) s))
    unfolding asked_from
    asked-suc = let z : n - i ≡ suc (n - (i + 1)) = omega arith in rw z

    asked-short : length s < at + 4 * i + 4 → asked_from s at n bound k i ≡ Err (refusal 20)
    asked-short l =
        let bs = drop (at + 4 * i) s in
        asked-suc ∙ ap (item_of (at + 4 * n)) (times-stop (below bound k) bs (n - (i + 1)) 20 (below-short bound k bs (word-short bs (rw length-drop (omega arith)))))

    asked-more : (v : ℕ) → word (drop (at + 4 * i) s) ≡ got v (drop (at + 4 * i + 4) s)
        → asked_from s at n bound k i ≡ pick (ltb v bound) (asked_from s at n bound k (i + 1)) (Err (refusal k))
    unfolding asked_from
    asked-more v w = go (ltb v bound) refl
      where
        go : (b : Bool) → ltb v bound ≡ b → asked_from s at n bound k i ≡ pick b (asked_from s at n bound k (i + 1)) (Err (refusal k))
        go true t =
            let bs = drop (at + 4 * i) s in
            let z : at + 4 * i + 4 ≡ at + 4 * (i + 1) = omega arith in
            asked-suc
            ∙ ap (item_of (at + 4 * n)) (times_more (below bound k) bs (n - (i + 1)) v (drop (at + 4 * i + 4) s) (below-yes bound k bs v (drop (at + 4 * i + 4) s) w (ltb-true v bound t)))
            ∙ cons-item (at + 4 * n) v (times (below bound k) (n - (i + 1)) (drop (at + 4 * i + 4) s))
            ∙ ap (λ (m : ℕ). item_of (at + 4 * n) (times (below bound k) (n - (i + 1)) (drop m s))) z
        go false t =
            let bs = drop (at + 4 * i) s in
            asked-suc
            ∙ ap (item_of (at + 4 * n)) (times-stop (below bound k) bs (n - (i + 1)) k (below-not bound k bs v (drop (at + 4 * i + 4) s) w (ltb-false v bound t)))

  asked-all : asked_from s at n bound k 0 ≡ item_of (at + 4 * n) (times (below bound k) n (drop at s))
  unfolding asked_from
  asked-all = let x : n - 0 ≡ n = omega arith in let z : at + 4 * 0 ≡ at = omega arith in rw (x, z)

  -- what the words before the i-th say, with those from it on still to be asked
  module _ (says : Bool) (e : pick says (asked_from s at n bound k i) (Err (refusal k)) ≡ asked_from s at n bound k 0) where
    pub ask-not : says ≡ false → Err (refusal k) ≡ item_of (at + 4 * n) (times (below bound k) n (drop at s))
    ask-not f = (rw f at e) ∙ asked-all

    pub ask-short : says ≡ true → i < n → length s < at + 4 * i + 4 → Err (refusal 20) ≡ item_of (at + 4 * n) (times (below bound k) n (drop at s))
    ask-short f h l = sym (asked-short h l) ∙ (rw f at e) ∙ asked-all

    pub ask-done : says ≡ true → i ≡ n → Ok (cursor (at + 4 * n)) ≡ item_of (at + 4 * n) (times (below bound k) n (drop at s))
    ask-done f h = sym (asked-done h) ∙ (rw f at e) ∙ asked-all

    pub ask-more : (v : ℕ) → i < n → at + 4 * i + 4 ≤ length s → v ≡ word_in s (at + 4 * i)
        → pick (says && ltb v bound) (asked_from s at n bound k (i + 1)) (Err (refusal k)) ≡ asked_from s at n bound k 0
    ask-more v h l f =
        let w = word_at s (at + 4 * i) l ∙ ap (λ (x : ℕ). got x (drop (at + 4 * i + 4) s)) (sym f) in
        pick-and says (ltb v bound) (asked_from s at n bound k (i + 1)) (Err (refusal k))
        ∙ ap (λ (x : Result Cursor Refused). pick says x (Err (refusal k))) (sym (asked-more h v w))
        ∙ e

-- ---- an item that goes into a store
module _ (s : List ℕ) (at : ℕ) (out : List ℕ) (place n bound k : ℕ) where
  -- by what its words came to
  item-stop : (room j : ℕ) → times (below bound k) n (drop at s) ≡ stop j → item bound k n place room (drop at s) ≡ stop j
  unfolding item
  item-stop room j e = rw e

  item-full : (room : ℕ) (ws r : List ℕ) → times (below bound k) n (drop at s) ≡ got ws r → room < place + n → item bound k n place room (drop at s) ≡ stop 10
  unfolding item
  item-full room ws r e h = rw (e, lt-leb (place + n) room h)

  item-got : (room : ℕ) (ws r : List ℕ) → times (below bound k) n (drop at s) ≡ got ws r → place + n ≤ room → item bound k n place room (drop at s) ≡ got ws r
  unfolding item
  item-got room ws r e h = rw (e, le-leb (place + n) room h)

  -- the answer to the words' questions, taken apart
  record WordsGot (next : Cursor) : Type 0 where
    pub ws : List ℕ
    pub reads : times (below bound k) n (drop at s) ≡ got ws (drop (at + 4 * n) s)
    pub count : length ws ≡ n
    pub fits : 4 * n ≤ length s - at
    pub past : next.at ≡ at + 4 * n

  words-got : (next : Cursor) → item_of (at + 4 * n) (times (below bound k) n (drop at s)) ≡ Ok next → WordsGot next
  words-got next e = go (times (below bound k) n (drop at s)) refl e
    where
      go : (g : Got (List ℕ)) → times (below bound k) n (drop at s) ≡ g → item_of (at + 4 * n) g ≡ Ok next → WordsGot next
      go (got ws r) w f =
          let t = words-rest-at bound k s at n ws r w in
          let en : cursor (at + 4 * n) ≡ next = cc in
          record {
            ws = ws;
            reads = w ∙ ap (λ (l : List ℕ). got ws l) t.1;
            count = times-count (below bound k) n (drop at s) ws r w;
            fits = t.0;
            past = sym (ap (λ (c : Cursor). c.at) en);
          }
      go (stop j) w f = absurd (never next j (sym f))

  words-stop : (j : ℕ) → item_of (at + 4 * n) (times (below bound k) n (drop at s)) ≡ Err (refusal j) → times (below bound k) n (drop at s) ≡ stop j
  words-stop j e = go (times (below bound k) n (drop at s)) refl e
    where
      go : (g : Got (List ℕ)) → times (below bound k) n (drop at s) ≡ g → item_of (at + 4 * n) g ≡ Err (refusal j) → times (below bound k) n (drop at s) ≡ stop j
      go (got ws r) w f = absurd (never (cursor (at + 4 * n)) j f)
      go (stop i) w f = let z = ap (λ (r : Refused). r.0) (refused-is f) in w ∙ ap (λ (m : ℕ). stop m) z

  -- the ends of reading an item, by the answer to its words' questions
  module _ (asked : Result Cursor Refused) (e : asked ≡ item_of (at + 4 * n) (times (below bound k) n (drop at s))) where
    pub words-refused : (j : ℕ) → asked ≡ Err (refusal j) → (Err (refusal j) ≡ read_words s at out place n bound k) × (out ≡ read_words_out s at out place n bound k)
    unfolding read_words read_words_out
    words-refused j r = let f = item-stop (length out) j (words-stop j (sym e ∙ r)) in (rw f, rw f)

    module _ (next : Cursor) (r : asked ≡ Ok next) where
      pub words-fit : 4 * n ≤ length s - at
      words-fit = (words-got next (sym e ∙ r)).fits

      pub words-full : length out < place + n → (Err (refusal 10) ≡ read_words s at out place n bound k) × (out ≡ read_words_out s at out place n bound k)
      unfolding read_words read_words_out
      words-full h =
          let g = words-got next (sym e ∙ r) in
          let f = item-full (length out) g.ws (drop (at + 4 * n) s) g.reads h in (rw f, rw f)

      pub words-read : (last : List ℕ) → place + n ≤ length out → last ≡ store_of place out (times word n (drop at s))
          → (Ok next ≡ read_words s at out place n bound k) × (last ≡ read_words_out s at out place n bound k)
      unfolding read_words read_words_out
      words-read last h l =
          let g = words-got next (sym e ∙ r) in
          let f = item-got (length out) g.ws (drop (at + 4 * n) s) g.reads h in
          let w = words-plain bound k n (drop at s) g.ws (drop (at + 4 * n) s) g.reads in
          (rw f (ap (λ (m : ℕ). Ok (cursor m)) g.past), l ∙ rw (f, w))

  -- an item that was answered, for those who call
  pub record WordsRead (next : Cursor) : Type 0 where
    pub ws : List ℕ
    pub reads : times (below bound k) n (drop at s) ≡ got ws (drop (at + 4 * n) s)
    pub count : length ws ≡ n
    pub fits : 4 * n ≤ length s - at
    pub room : place + n ≤ length out
    pub past : next.at ≡ at + 4 * n
    pub stored : read_words_out s at out place n bound k ≡ put_words place ws out

  pub read_words-read : (next : Cursor) → read_words s at out place n bound k ≡ Ok next → WordsRead next
  unfolding read_words read_words_out item
  read_words-read next e = go (times (below bound k) n (drop at s)) refl e
    where
      asked : (ws r : List ℕ) (b : Bool) → leb (place + n) (length out) ≡ b → times (below bound k) n (drop at s) ≡ got ws r
          → item_of (at + 4 * n) (on_got (need 10 b r) (λ u. give ws)) ≡ Ok next → WordsRead next
      asked ws r true t w f =
          let h = leb-true (place + n) (length out) t in
          let g = words-got next (ap (item_of (at + 4 * n)) w ∙ f) in
          let i = item-got (length out) g.ws (drop (at + 4 * n) s) g.reads h in
          record { ws = g.ws; reads = g.reads; count = g.count; fits = g.fits; room = h; past = g.past; stored = rw i }
      asked ws r false t w f = absurd (never next 10 (sym f))

      go : (g : Got (List ℕ)) → times (below bound k) n (drop at s) ≡ g
          → item_of (at + 4 * n) (on_got g (λ ws. need 10 (leb (place + n) (length out)) >> give ws)) ≡ Ok next → WordsRead next
      go (got ws r) w f = asked ws r (leb (place + n) (length out)) refl w f
      go (stop j) w f = absurd (never next j (sym f))

  pub read_words-refused : (j : ℕ) → read_words s at out place n bound k ≡ Err (refusal j)
      → (item bound k n place (length out) (drop at s) ≡ stop j) × (read_words_out s at out place n bound k ≡ out)
  unfolding read_words read_words_out
  read_words-refused j e = go (item bound k n place (length out) (drop at s)) refl e
    where
      go : (g : Got (List ℕ)) → item bound k n place (length out) (drop at s) ≡ g → item_of (at + 4 * n) g ≡ Err (refusal j)
          → (item bound k n place (length out) (drop at s) ≡ stop j) × (store_of place out g ≡ out)
      go (got ws r) w f = absurd (never (cursor (at + 4 * n)) j f)
      go (stop i) w f = let z = ap (λ (r : Refused). r.0) (refused-is f) in (w ∙ ap (λ (m : ℕ). stop m) z, refl)
