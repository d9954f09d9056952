-- What reading and writing at a cursor answers, from the readers on the bytes that the cursor leaves.
--
-- A cursor may stand anywhere, also past the end: no bytes are left there. Assumes nothing.
use Rattle.std.specs.Prelude.{ℕ, ◌+◌, ◌*◌, List, leb, length, drop, Option, Some, None, Result, Ok, Err}
use Rattle.limits.specs.Numbers.{prime, max_count}
use Rattle.limits.specs.Questions.{pick}
use Rattle.limits.specs.Outcome.{refusal}
use Rattle.limits.specs.declared.Refused.{Refused}
use Rattle.words.specs.Store.{put_words, fit_words}
use Rattle.narg.specs.Bytes.{u32_bytes}
use Rattle.narg.specs.Reader.{Got, got, stop, Reader, ◌>>=◌, ◌>>◌, give, need, word, below, times}
use Rattle.narg.specs.declared.Cursor.{Cursor}

-- a cursor at this byte
abbrev pub cursor : ℕ → Cursor
cursor at = record { at = at }

-- a word that was got at a cursor, with the cursor past it
abbrev pub word_of : ℕ → Got ℕ → Option (ℕ × Cursor)
word_of at (got v rest) = Some (v, cursor (at + 4))
word_of at (stop k) = None

-- the word at a cursor
unfoldable pub read_u32 : List ℕ → ℕ → Option (ℕ × Cursor)
read_u32 bytes at = word_of at (word (drop at bytes))

-- writing these bytes at a cursor: the cursor past them, or None where the output does not hold them
unfoldable pub put_at : List ℕ → ℕ → List ℕ → Option Cursor
put_at out at bytes = pick (leb (at + length bytes) (length out)) (Some (cursor (at + length bytes))) None

-- writing a word's four bytes at a cursor: the answer
abbrev pub put_u32 : List ℕ → (at value : ℕ) → Option Cursor
put_u32 out at value = put_at out at (u32_bytes value)

-- and the output: with the bytes at the cursor, or as it was where it does not hold them
abbrev pub put_u32_out : List ℕ → (at value : ℕ) → List ℕ
put_u32_out out at value = fit_words at (u32_bytes value) out

-- ---- an item of n words that goes into a store at a place
-- each word is below the bound (20, then k); then the store, of `room` words, holds them (10)
unfoldable pub item : (bound k n place room : ℕ) → Reader (List ℕ)
item bound k n place room =
    times (below bound k) n >>= λ ws. need 10 (leb (place + n) room) >> give ws

-- the answer to it: the cursor past it, or its number
abbrev pub item_of : ℕ → Got (List ℕ) → Result Cursor Refused
item_of next (got ws rest) = Ok (cursor next)
item_of next (stop k) = Err (refusal k)

-- the store after it: with the words at the place, or as it was
abbrev pub store_of : ℕ → List ℕ → Got (List ℕ) → List ℕ
store_of place out (got ws rest) = put_words place ws out
store_of place out (stop k) = out

-- the item at a cursor: the answer
unfoldable pub read_words : (bytes : List ℕ) (at : ℕ) (out : List ℕ) (place n bound k : ℕ) → Result Cursor Refused
read_words bytes at out place n bound k = item_of (at + 4 * n) (item bound k n place (length out) (drop at bytes))

-- and the store
unfoldable pub read_words_out : (bytes : List ℕ) (at : ℕ) (out : List ℕ) (place n bound k : ℕ) → List ℕ
read_words_out bytes at out place n bound k = store_of place out (item bound k n place (length out) (drop at bytes))

-- an item of n units: below p, else 4
abbrev pub read_units : (bytes : List ℕ) (at : ℕ) (out : List ℕ) (place n : ℕ) → Result Cursor Refused
read_units bytes at out place n = read_words bytes at out place n prime 4

-- and the store
abbrev pub read_units_out : (bytes : List ℕ) (at : ℕ) (out : List ℕ) (place n : ℕ) → List ℕ
read_units_out bytes at out place n = read_words_out bytes at out place n prime 4

-- an item of n wires: below 2^30, else 3
abbrev pub read_vars : (bytes : List ℕ) (at : ℕ) (out : List ℕ) (place n : ℕ) → Result Cursor Refused
read_vars bytes at out place n = read_words bytes at out place n max_count 3

-- and the store
abbrev pub read_vars_out : (bytes : List ℕ) (at : ℕ) (out : List ℕ) (place n : ℕ) → List ℕ
read_vars_out bytes at out place n = read_words_out bytes at out place n max_count 3
