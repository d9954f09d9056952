-- What the scan of src/lib.rt keeps, in the words of the definition: the contracts of its helpers cite this,
-- and no other contract does. Assumes nothing.
use Rattle.std.specs.Prelude.{ℕ, Option, Some, None, ◌+◌, ◌-◌, ◌*◌, ◌&&◌, List, [], ◌∷◌, eqb, leb}
use Rattle.limits.specs.Questions.{pick}
use Rattle.ticket.specs.Form.{blank}

-- a digit behind n
unfoldable pub with_digit : (n b : ℕ) → Option ℕ
with_digit n b = pick (leb 48 b && leb b 57) (Some (n * 10 + (b - 48))) None

-- a column behind n that is not the last: while n is 0 a blank may stand there and no 0, later a digit
unfoldable pub with_column : (n b : ℕ) → Option ℕ
with_column n b = pick (eqb n 0 && eqb b blank) (Some 0) (pick (eqb n 0 && eqb b 48) None (with_digit n b))

-- go on with the number that was read
abbrev pub onward : Option ℕ → (ℕ → Option ℕ) → Option ℕ
onward (Some n) next = next n
onward None next = None

-- the columns that are left but for the last, behind n
abbrev pub behind : ℕ → List ℕ → Option ℕ
behind n [] = Some n
behind n (b ∷ bytes) = onward (with_column n b) (λ m. behind m bytes)

-- the number in columns and the last one, which must be a digit
unfoldable pub scanned : (bytes : List ℕ) (last : ℕ) → Option ℕ
scanned bytes last = onward (behind 0 bytes) (λ n. with_digit n last)
