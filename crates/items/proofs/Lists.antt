-- A list read into a store: what was told of it, with a store that was all 0 before, as the answer and the store
-- afterwards; and what an answer tells those who call. Assumes nothing.
use Prim.Native.Nat.{ℕ, zero, suc, ◌+◌, ◌-◌, ◌≤◌}
use mathlib.Core.Path.{◌≡◌, refl, sym, ap, ◌∙◌, subst}
use mathlib.Core.List.{List, ◌++◌}
use native.Mathlib.Omega.{arith}
use borrow.Author.Tests.{leb-true}
use lib.ListN.{length, drop, replicate}
use Rattle.std.specs.Prelude.{true, false, Some, None, Result, Ok, Err, is_err}
use Rattle.limits.specs.Outcome.{refusal}
use Rattle.limits.specs.declared.Refused.{Refused}
use Rattle.limits.specs.Numbers.{max_count, max_width}
use Rattle.limits.specs.Questions.{first_no}
use Rattle.limits.specs.Asks.{width_asks, store_asks}
use Rattle.limits.proofs.Questions.{both, first_no-append, on_yes-yes, on_yes-no, accepted-says}
use Rattle.words.specs.Store.{put_words}
use Rattle.narg.specs.Reader.{Got, got, stop, Reader, ◌>>=◌, word, items}
use Rattle.narg.specs.Cursor.{cursor, read_u32}
use Rattle.narg.specs.declared.Cursor.{Cursor}
use Rattle.narg.proofs.At.{read_u32-stop, word_next}
use Rattle.header.specs.declared.Field.{Field}
use Rattle.items.specs.Told.{ListTold, kept_on}
use Rattle.items.specs.Answers.{got_after, padded, store_after, list_end, list_field, pieces_asks, ListReads}

-- ---- a store that was all 0
drop-replicate : (n len : ℕ) → drop {A = ℕ} n (replicate len 0) ≡ replicate (len - n) 0
drop-replicate zero len = let z : len - 0 ≡ len = omega arith in rw z
drop-replicate (suc n) zero = let z : 0 - suc n ≡ 0 = omega arith in rw z
drop-replicate (suc n) (suc len) = let z : suc len - suc n ≡ len - n = omega arith in rw z (drop-replicate n len)

put-padded : (len : ℕ) (words : List ℕ) → put_words 0 words (replicate len 0) ≡ padded len words
put-padded len words =
    let z : 0 + length words ≡ length words = omega arith in
    rw z (ap (λ (l : List ℕ). words ++ l) (drop-replicate (length words) len))

-- ---- a count and as many items, by what stands at the place
module _ {A : Type 0} (p : Reader A) (size : A → ℕ) (room : ℕ) (s : List ℕ) (at : ℕ) where
  pub count-short : read_u32 s at ≡ None → (word >>= λ n. items p size room 0 n) (drop at s) ≡ stop 20
  count-short e = rw (read_u32-stop s at e)

  pub count-on : (n : ℕ) (next : Cursor) → read_u32 s at ≡ Some (n, next)
      → items p size room 0 n (drop next.at s) ≡ (word >>= λ m. items p size room 0 m) (drop at s)
  count-on n next e = rw (word_next s at n next e)

-- ---- 1 and 2 first
pub store-no : (len room k : ℕ) → first_no (store_asks len) ≡ k → len ≡ room → k ≡ first_no (store_asks room)
store-no len room k e l = sym e ∙ ap (λ (n : ℕ). first_no (store_asks n)) l

pub store-fits : (room no : ℕ) → no ≡ first_no (store_asks room) → no ≡ 0 → room ≤ max_count
store-fits room k e z = leb-true room max_count (accepted-says (store_asks room) tt (sym e ∙ z) 0)

pub pieces-no : (width len room k : ℕ) → first_no (pieces_asks width len) ≡ k → len ≡ room → k ≡ first_no (pieces_asks width room)
pieces-no width len room k e l = sym e ∙ ap (λ (n : ℕ). first_no (pieces_asks width n)) l

pub pieces-fit : (width room no : ℕ) → no ≡ first_no (pieces_asks width room) → no ≡ 0 → (room ≤ max_count) × (width ≤ max_width)
pieces-fit width room k e z =
    let y = both (first_no (width_asks width)) (first_no (store_asks room)) (sym (first_no-append (width_asks width) (store_asks room)) ∙ sym e ∙ z) in
    (store-fits room 0 (sym y.1) refl, leb-true width max_width (accepted-says (width_asks width) tt y.0 1))

-- what is got after the questions' number
module _ {A : Type 0} (no : ℕ) (g : Got A) (k : ℕ) (e : k ≡ no) where
  pub after-no : (k ≡ 0 → ⊥) → got_after no g ≡ stop k
  after-no h = rw (← e) (on_yes-no k g (stop k) h)

  pub after-yes : k ≡ 0 → got_after no g ≡ g
  after-yes z = rw (← e) (on_yes-yes k g (stop k) z)

-- the store after a list that was answered
pub kept-err : (r : Result Field Refused) (s : List ℕ) → is_err r ≡ true → replicate (length s) 0 ≡ kept_on r s
kept-err (Ok f) s e = cc
kept-err (Err why) s e = refl

pub kept-ok : (r : Result Field Refused) (s : List ℕ) → is_err r ≡ false → s ≡ kept_on r s
kept-ok (Ok f) s e = refl
kept-ok (Err why) s e = cc

-- ---- a list read into a store
module _ {A : Type 0} (words_of : List A → List ℕ) (g : Got (List A)) (at : ℕ) (before : List ℕ) where
  pub list-no : (r : Result Field Refused) (why : Refused) (last : List ℕ) → r ≡ Err why → g ≡ stop why.0 → last ≡ replicate (length before) 0 → ListReads words_of g at before last r
  list-no r why last i e z = record { answer = rw (i, e); store = rw e z }

  told-reads : (bytes filled after last : List ℕ) (list r : Result Field Refused) → filled ≡ replicate (length before) 0 → length after ≡ length before
      → ListTold g words_of bytes (at + 4) filled after list → r ≡ list → last ≡ kept_on list after → ListReads words_of g at before last r
  unfolding ListTold
  told-reads bytes filled after last (Ok f) r z l t e k =
      let p = t.past in
      let c : f.next.at ≡ list_end at (words_of t.items) = omega arith in
      record {
        answer =
            e
            ∙ (λ i. Ok (record { value = t.count i; extra = t.size i; next = record { at = c i } }))
            ∙ sym (ap (list_field words_of at) t.reads);
        store =
            k ∙ t.stored
            ∙ ap (λ (s : List ℕ). put_words 0 (words_of t.items) s) z
            ∙ put-padded (length before) (words_of t.items)
            ∙ sym (ap (store_after words_of (length before)) t.reads);
      }
  told-reads bytes filled after last (Err why) r z l t e k =
      record {
        answer = e ∙ sym (ap (list_field words_of at) t);
        store = k ∙ ap (λ (n : ℕ). replicate {A = ℕ} n 0) l ∙ sym (ap (store_after words_of (length before)) t);
      }

  pub list-reads : (h : Got (List A)) → g ≡ h → (bytes filled after last : List ℕ) (list r : Result Field Refused) → filled ≡ replicate (length before) 0 → length after ≡ length before
      → ListTold h words_of bytes (at + 4) filled after list → r ≡ list → last ≡ kept_on list after → ListReads words_of g at before last r
  list-reads h i bytes filled after last list r z l t e k =
      told-reads bytes filled after last list r z l (subst (λ (y : Got (List A)). ListTold y words_of bytes (at + 4) filled after list) (sym i) t) e k

-- ---- what an answer tells
module _ {A : Type 0} (words_of : List A → List ℕ) (g : Got (List A)) (at : ℕ) (before after : List ℕ) (r : Result Field Refused) (h : ListReads words_of g at before after r) where
  pub list-refused : (why : Refused) → r ≡ Err why → g ≡ stop why.0
  list-refused why i = go g (sym h.answer ∙ i)
    where
      go : (y : Got (List A)) → list_field words_of at y ≡ Err why → y ≡ stop why.0
      go (got xs rest) z = absurd (let y : ◌≡◌ {A = ℕ} 0 1 = cc in omega arith)
      go (stop j) z =
          let y : refusal j ≡ why = cc in
          ap (λ (r : Refused). stop r.0) y

  -- a list that was got, and stored
  pub record ListGot (n words : ℕ) (next : Cursor) : Type 0 where
    pub items : List A
    pub rest : List ℕ
    pub reads : g ≡ got items rest
    pub count : n ≡ length items
    pub size : words ≡ length (words_of items)
    pub past : next.at ≡ list_end at (words_of items)
    pub stored : after ≡ padded (length before) (words_of items)

  pub list-got : (f : Field) → r ≡ Ok f → ListGot f.value f.extra f.next
  list-got f i = go g refl (sym h.answer ∙ i)
    where
      go : (y : Got (List A)) → g ≡ y → list_field words_of at y ≡ Ok f → ListGot f.value f.extra f.next
      go (got xs rest) e z =
          let p : record { value = length xs; extra = length (words_of xs); next = cursor (list_end at (words_of xs)) } ≡ f = cc in
          record {
            items = xs;
            rest = rest;
            reads = e;
            count = ap (λ (x : Field). x.value) (sym p);
            size = ap (λ (x : Field). x.extra) (sym p);
            past = ap (λ (x : Field). x.next.at) (sym p);
            stored = h.store ∙ ap (store_after words_of (length before)) e;
          }
      go (stop j) e z = absurd (let y : ◌≡◌ {A = ℕ} 0 1 = cc in omega arith)
