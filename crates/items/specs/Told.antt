-- What the answer of a private reader tells of the bytes at a cursor: with a refusal, that the definition's
-- reader stops with that number; else what it got, and where it goes on. A refused reader may leave anything in
-- the store that it writes to. Only private contracts cite what is here. Assumes nothing.
use Rattle.std.specs.Prelude.{ℕ, ◌+◌, ◌*◌, ◌≤◌, ◌≡◌, List, leb, length, drop, replicate, Result, Ok, Err}
use Rattle.limits.specs.declared.Refused.{Refused}
use Rattle.words.specs.Store.{put_words}
use Rattle.narg.specs.Reader.{Got, got, stop, ◌>>=◌, need}
use Rattle.narg.specs.declared.Cursor.{Cursor}
use Rattle.allocator.specs.Slots.{Pair, pair}
use Rattle.expr.specs.Equation.{Term, Equation, term_words, equation_words}
use Rattle.header.specs.declared.Field.{Field}
use Rattle.items.specs.Read.{read_equation, size_of}

-- the store where that was answered: as it is, or all 0 after a refusal
abbrev pub kept_on : Result Field Refused → List ℕ → List ℕ
kept_on (Ok field) s = s
kept_on (Err why) s = replicate (length s) 0

-- ---- a word: where it was read, a number that the reader gets too, and that the cursor stands at its end
-- an answer tells what a reader of a number gets
unfoldable pub FieldTold : Got ℕ → (bytes : List ℕ) (end : ℕ) → Result Field Refused → Type 0
FieldTold g bytes end (Ok f) = (g ≡ got f.value (drop f.next.at bytes)) × (f.next.at ≡ end)
FieldTold g bytes end (Err why) = g ≡ stop why.0

-- ---- a wire and a unit
-- an answer tells what a reader of a pair gets, by its two numbers
unfoldable pub PairTold : Got Pair → (bytes : List ℕ) (end : ℕ) → Result Field Refused → Type 0
PairTold g bytes end (Ok f) = (g ≡ got (pair f.value f.extra) (drop f.next.at bytes)) × (f.next.at ≡ end)
PairTold g bytes end (Err why) = g ≡ stop why.0

-- ---- a list of items at a place: their count and how many words they take, written from the start of a store on
-- what was read: items that the reader gets too, stored at the front, the rest as it was
pub record Listed {A : Type 0} (g : Got (List A)) (words_of : List A → List ℕ) (bytes : List ℕ) (start : ℕ) (before after : List ℕ) (n words : ℕ) (next : Cursor) : Type 0 where
  pub items : List A
  pub reads : g ≡ got items (drop next.at bytes)
  pub count : n ≡ length items
  pub size : words ≡ length (words_of items)
  pub past : next.at ≡ start + 4 * length (words_of items)
  pub stored : after ≡ put_words 0 (words_of items) before

-- an answer tells what a reader of a list gets; a refused one may leave anything in the store
unfoldable pub ListTold : {A : Type 0} → Got (List A) → (List A → List ℕ) → (bytes : List ℕ) (start : ℕ) (before after : List ℕ) → Result Field Refused → Type 0
ListTold g words_of bytes start before after (Ok f) = Listed g words_of bytes start before after f.value f.extra f.next
ListTold g words_of bytes start before after (Err why) = g ≡ stop why.0

-- ---- the terms of an equation: written from a place on, as far as the store holds them
-- what was read: terms that the reader gets too, stored where there is room for all
pub record TermsGiven (g : Got (List Term)) (bytes : List ℕ) (start : ℕ) (before after : List ℕ) (place : ℕ) (next : Cursor) : Type 0 where
  pub terms : List Term
  pub reads : g ≡ got terms (drop next.at bytes)
  pub past : next.at ≡ start + 4 * length (term_words terms)
  pub stored : place + length (term_words terms) ≤ length before → after ≡ put_words place (term_words terms) before

-- an answer tells what a reader of terms gets
unfoldable pub TermsTold : Got (List Term) → (bytes : List ℕ) (start : ℕ) (before after : List ℕ) (place : ℕ) → Result Field Refused → Type 0
TermsTold g bytes start before after place (Ok f) = TermsGiven g bytes start before after place f.next
TermsTold g bytes start before after place (Err why) = g ≡ stop why.0

-- ---- an equation at a place of a store: its term count; or a refusal by its own questions, or by 10 after them
-- what was read: an equation that the reader gets too, stored at its place
pub record EquationGiven (bytes : List ℕ) (at : ℕ) (before after : List ℕ) (place t : ℕ) (next : Cursor) : Type 0 where
  pub value : Equation
  pub reads : read_equation (drop at bytes) ≡ got value (drop next.at bytes)
  pub count : t ≡ length value.terms
  pub past : next.at ≡ at + 4 * size_of value
  pub room : place + size_of value ≤ length before
  pub stored : after ≡ put_words place (equation_words value) before

-- an answer tells what the reader of an equation gets, and 10 after it
unfoldable pub EquationTold : (bytes : List ℕ) (at : ℕ) (before after : List ℕ) (place : ℕ) → Result Field Refused → Type 0
EquationTold bytes at before after place (Ok f) = EquationGiven bytes at before after place f.value f.next
EquationTold bytes at before after place (Err why) =
    (read_equation >>= λ e. need 10 (leb (place + size_of e) (length before))) (drop at bytes) ≡ stop why.0
