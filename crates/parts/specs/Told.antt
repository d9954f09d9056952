-- What the private reader of the parts tells. Only private contracts cite what is here. Assumes nothing.
use Rattle.std.specs.Prelude.{ℕ, ◌≡◌, List, length, drop, Result}
use Rattle.limits.specs.declared.Refused.{Refused}
use Rattle.narg.specs.Reader.{Got, got, stop}
use Rattle.narg.specs.declared.Cursor.{Cursor}
use Rattle.instance.specs.Parts.{Parts}
use Rattle.instance.specs.declared.PermutationInstance.{PermutationInstance}
use Rattle.items.specs.Answers.{padded}
use Rattle.parts.specs.Read.{rooms, read_parts}
use Rattle.parts.specs.Answers.{words_of_publics, words_of_queries, words_of_equations, parts_answer, parts_from}

-- ---- the parts in three stores (before, after)
-- each store begins with its part, and is 0 behind it
pub record PartsStored (parts : Parts) (p q e p' q' e' : List ℕ) : Type 0 where
  pub publics : p' ≡ padded (length p) (words_of_publics parts)
  pub queries : q' ≡ padded (length q) (words_of_queries parts)
  pub equations : e' ≡ padded (length e) (words_of_equations parts)

-- so where they were read; where they were refused, the stores may hold anything
unfoldable pub PartsLeft : Got Parts → (p q e p' q' e' : List ℕ) → Type 0
PartsLeft (got parts rest) p q e p' q' e' = PartsStored parts p q e p' q' e'
PartsLeft (stop k) p q e p' q' e' = Unit {0}

-- what a reader gets at a place with stores of these lengths, after 1 and 2
abbrev pub parts_here : (width : ℕ) (bytes : List ℕ) (at : ℕ) (publics queries equations : List ℕ) → Got Parts
parts_here width bytes at publics queries equations =
    read_parts width (rooms (length publics) (length queries) (length equations) 0) (drop at bytes)

-- parts read at a place into three stores
pub record PartsTold (width : ℕ) (bytes : List ℕ) (at : ℕ) (p q e p' q' e' : List ℕ) (r : Result (PermutationInstance × Cursor) Refused) : Type 0 where
  pub answer : r ≡ parts_answer width at (parts_from width bytes at p q e)
  pub left : PartsLeft (parts_from width bytes at p q e) p q e p' q' e'
