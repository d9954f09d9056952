-- What the readers of a label and of the parts answer, and what the latter leaves of the stores that it is lent.
-- Assumes nothing.
use Rattle.std.specs.Prelude.{ℕ, ◌+◌, ◌≡◌, List, ◌++◌, length, drop, Result, Ok, Err}
use Rattle.limits.specs.Questions.{Question, first_no}
use Rattle.limits.specs.Outcome.{refusal}
use Rattle.limits.specs.declared.Refused.{Refused}
use Rattle.limits.specs.Asks.{width_asks, store_asks}
use Rattle.words.specs.Pieces.{flat}
use Rattle.narg.specs.Reader.{Got, got, stop}
use Rattle.narg.specs.Cursor.{cursor}
use Rattle.narg.specs.declared.Cursor.{Cursor}
use Rattle.expr.specs.Equation.{equations_words}
use Rattle.instance.specs.Parts.{Parts, pair_words}
use Rattle.instance.specs.declared.PermutationInstance.{PermutationInstance}
use Rattle.header.specs.declared.Field.{Field}
use Rattle.items.specs.Answers.{got_after, store_after, list_end}
use Rattle.parts.specs.Read.{Rooms, rooms, read_parts}

-- ---- the label
-- where a label ends whose length stands at a place: behind the length, 4 bytes, and the label
abbrev pub label_past : ℕ → List ℕ → ℕ
label_past at label = at + 4 + length label

-- a label that was read at a place: its length, and the cursor past it; or its number
abbrev pub label_field : (at : ℕ) → Got (List ℕ) → Result Field Refused
label_field at (got label rest) = Ok (record { value = length label; extra = 0; next = cursor (label_past at label) })
label_field at (stop k) = Err (refusal k)

-- ---- the parts
-- 1, and 2 of each store
abbrev pub read_parts_asks : ℕ → Rooms → List Question
read_parts_asks width rooms =
    width_asks width ++ (store_asks rooms.publics ++ (store_asks rooms.queries ++ store_asks rooms.equations))

-- what a reader gets at a place: 1 and 2 first, then the parts
unfoldable pub parts_got : (width : ℕ) → Rooms → (bytes : List ℕ) (at : ℕ) → Got Parts
parts_got width rooms bytes at = got_after (first_no (read_parts_asks width rooms)) (read_parts width rooms (drop at bytes))

-- the record of parts that were read
abbrev pub instance_read : ℕ → Parts → PermutationInstance
instance_read width parts =
    record {
      width = width;
      vars = parts.vars;
      queries = length parts.queries;
      equations = length parts.equations;
      words = length (equations_words parts.equations);
      publics = length parts.publics;
    }

-- the words of each list of the parts
abbrev pub words_of_publics : Parts → List ℕ
words_of_publics parts = pair_words parts.publics

-- of the queries
abbrev pub words_of_queries : Parts → List ℕ
words_of_queries parts = flat parts.queries

-- of the equations
abbrev pub words_of_equations : Parts → List ℕ
words_of_equations parts = equations_words parts.equations

-- where parts end that begin at a place: behind the wire count, 4 bytes, and the three lists
abbrev pub parts_end : ℕ → Parts → ℕ
parts_end at parts = list_end (list_end (list_end (at + 4) (words_of_publics parts)) (words_of_queries parts)) (words_of_equations parts)

-- parts that were read at a place: the record, and the cursor past them; or their number
abbrev pub parts_answer : (width at : ℕ) → Got Parts → Result (PermutationInstance × Cursor) Refused
parts_answer width at (got parts rest) = Ok (instance_read width parts, cursor (parts_end at parts))
parts_answer width at (stop k) = Err (refusal k)

-- what a reader gets at a place with these stores lent
abbrev pub parts_from : (width : ℕ) (bytes : List ℕ) (at : ℕ) (publics queries equations : List ℕ) → Got Parts
parts_from width bytes at publics queries equations =
    parts_got width (rooms (length publics) (length queries) (length equations) 0) bytes at

-- parts read at a place into three stores (before, after): the answer, and the stores afterwards
pub record PartsReads (width : ℕ) (bytes : List ℕ) (at : ℕ) (p q e p' q' e' : List ℕ) (r : Result (PermutationInstance × Cursor) Refused) : Type 0 where
  pub answer : r ≡ parts_answer width at (parts_from width bytes at p q e)
  pub publics : p' ≡ store_after words_of_publics (length p) (parts_from width bytes at p q e)
  pub queries : q' ≡ store_after words_of_queries (length q) (parts_from width bytes at p q e)
  pub equations : e' ≡ store_after words_of_equations (length e) (parts_from width bytes at p q e)
