-- What the readers of lists answer, and what they leave of the store that they are lent. Assumes nothing.
use Rattle.std.specs.Prelude.{ℕ, ◌+◌, ◌*◌, ◌-◌, ◌≡◌, List, ◌++◌, length, drop, replicate, Result, Ok, Err}
use Rattle.limits.specs.Questions.{Question, first_no, on_yes}
use Rattle.limits.specs.Outcome.{refusal}
use Rattle.limits.specs.declared.Refused.{Refused}
use Rattle.limits.specs.Asks.{width_asks, store_asks}
use Rattle.narg.specs.Reader.{Got, got, stop}
use Rattle.narg.specs.Cursor.{cursor}
use Rattle.allocator.specs.Slots.{Pair}
use Rattle.expr.specs.Equation.{Equation}
use Rattle.header.specs.declared.Field.{Field}
use Rattle.items.specs.Read.{read_publics, read_pieces, read_equations}

-- what was got where a number is 0, else that number's refusal
abbrev pub got_after : {A : Type 0} → ℕ → Got A → Got A
got_after k g = on_yes k g (stop k)

-- ---- the store after a read
-- a store of that length: the words, then 0 to its end
abbrev pub padded : ℕ → List ℕ → List ℕ
padded len words = words ++ replicate (len - length words) 0

-- a store of that length with the words of what was read, then 0; all 0 where the read refuses
abbrev pub store_after : {A : Type 0} → (A → List ℕ) → ℕ → Got A → List ℕ
store_after words_of len (got a rest) = padded len (words_of a)
store_after words_of len (stop k) = replicate len 0

-- ---- the answer
-- where a list ends that begins at a place: behind its count and its words, 4 bytes each
abbrev pub list_end : ℕ → List ℕ → ℕ
list_end at words = at + 4 * (1 + length words)

-- a list that was read at a place: its count, how many words it takes, and the cursor past it; or its number
abbrev pub list_field : {A : Type 0} → (List A → List ℕ) → (at : ℕ) → Got (List A) → Result Field Refused
list_field words_of at (got xs rest) =
    Ok (record { value = length xs; extra = length (words_of xs); next = cursor (list_end at (words_of xs)) })
list_field words_of at (stop k) = Err (refusal k)

-- ---- what a reader gets at a place, with a store of that many words: 1 and 2 first, then the list
-- publics
unfoldable pub publics_got : (room : ℕ) (bytes : List ℕ) (at : ℕ) → Got (List Pair)
publics_got room bytes at = got_after (first_no (store_asks room)) (read_publics room (drop at bytes))

-- 1 and 2 of pieces
abbrev pub pieces_asks : (width room : ℕ) → List Question
pieces_asks width room = width_asks width ++ store_asks room

-- pieces
unfoldable pub pieces_got : (bound k width room : ℕ) (bytes : List ℕ) (at : ℕ) → Got (List (List ℕ))
pieces_got bound k width room bytes at =
    got_after (first_no (pieces_asks width room)) (read_pieces bound k width room (drop at bytes))

-- equations
unfoldable pub equations_got : (room : ℕ) (bytes : List ℕ) (at : ℕ) → Got (List Equation)
equations_got room bytes at = got_after (first_no (store_asks room)) (read_equations room (drop at bytes))

-- a list read at a place into a store: the answer, and the store afterwards
pub record ListReads {A : Type 0} (words_of : List A → List ℕ) (g : Got (List A)) (at : ℕ) (before after : List ℕ) (r : Result Field Refused) : Type 0 where
  pub answer : r ≡ list_field words_of at g
  pub store : after ≡ store_after words_of (length before) g
