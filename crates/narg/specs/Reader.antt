-- Reading bytes from the left: a value and the bytes that are left, or the number of the question that says no.
--
-- Document 01: "Read, field by field: 20 do the bytes hold the field? ..". A byte form is one reader, put
-- together from the readers of its fields by `>>=` and `>>` in the order in which they stand, with `need k ..`
-- wherever question k is put; so another order of questions is another line, and the same readers.
-- Assumes nothing.
use Rattle.std.specs.Prelude.{ℕ, zero, suc, ◌+◌, Bool, true, false, List, [], ◌∷◌, ◌++◌, ltb, leb, length, take, drop}
use Rattle.limits.specs.Numbers.{prime, max_count}
use Rattle.limits.specs.Questions.{pick}
use Rattle.narg.specs.Bytes.{word4}

-- what reading comes to: a value with the bytes that are left, or a refusal's number
pub data Got (A : Type 0) : Type 0 where
  got : A → List ℕ → Got A
  stop : ℕ → Got A

-- a reader makes of bytes a value and the bytes that are left, or a refusal
abbrev pub Reader : Type 0 → Type 0
Reader A = List ℕ → Got A

-- on with what was got; a refusal stays
abbrev pub on_got : {A B : Type 0} → Got A → (A → Reader B) → Got B
on_got (got a rest) next = next a rest
on_got (stop k) next = stop k

-- one reader, and then another that may depend on what the first read
infixr 10 ◌>>=◌ ◌>>◌
abbrev pub ◌>>=◌ : {A B : Type 0} → Reader A → (A → Reader B) → Reader B
◌>>=◌ p next bytes = on_got (p bytes) next

-- one reader, and then another whatever the first read
abbrev pub ◌>>◌ : {A B : Type 0} → Reader A → Reader B → Reader B
◌>>◌ p next bytes = on_got (p bytes) (λ a. next)

-- nothing is read, and this is the value
abbrev pub give : {A : Type 0} → A → Reader A
give a bytes = got a bytes

-- question k: nothing is read
abbrev pub need : ℕ → Bool → Reader (Unit {0})
need k says bytes = pick says (got tt bytes) (stop k)

-- the questions of a number, 0 for yes: nothing is read
abbrev pub number : ℕ → Reader (Unit {0})
number zero bytes = got tt bytes
number (suc k) bytes = stop (suc k)

-- what was got where the test says yes, else refusal k
unfoldable pub or_stop : {A : Type 0} → Bool → ℕ → Got A → Got A
or_stop true k g = g
or_stop false k g = stop k

-- ---- fields, each with 20 where the bytes do not hold it
-- a byte
abbrev pub byte : Reader ℕ
byte [] = stop 20
byte (a ∷ rest) = got a rest

-- a word of four bytes
unfoldable pub word : Reader ℕ
word [] = stop 20
word (a ∷ []) = stop 20
word (a ∷ b ∷ []) = stop 20
word (a ∷ b ∷ c ∷ []) = stop 20
word (a ∷ b ∷ c ∷ d ∷ rest) = got (word4 a b c d) rest

-- n bytes
unfoldable pub part : ℕ → Reader (List ℕ)
part n bytes = pick (leb n (length bytes)) (got (take n bytes) (drop n bytes)) (stop 20)

-- a word below the bound, else k
unfoldable pub below : ℕ → ℕ → Reader ℕ
below bound k = word >>= λ x. need k (ltb x bound) >> give x

-- a wire: below 2^30, else 3
abbrev pub wire : Reader ℕ
wire = below max_count 3

-- a unit: below p, else 4
abbrev pub unit : Reader ℕ
unit = below prime 4

-- ---- lists
-- n of them
abbrev pub times : {A : Type 0} → Reader A → ℕ → Reader (List A)
times p zero bytes = got [] bytes
times p (suc n) bytes = (p >>= λ a. times p n >>= λ l. give (a ∷ l)) bytes

-- n items, each put into a store after it is read: 10 where the store, of `room` words with `used` of them
-- taken, does not hold it
abbrev pub items : {A : Type 0} → Reader A → (A → ℕ) → (room used n : ℕ) → Reader (List A)
items p size room used zero bytes = got [] bytes
items p size room used (suc n) bytes =
    (p >>= λ a. need 10 (leb (used + size a) room) >> items p size room (used + size a) n >>= λ l. give (a ∷ l)) bytes

-- the bytes of each item, one after the other
abbrev pub each : {A : Type 0} → (A → List ℕ) → List A → List ℕ
each bytes [] = []
each bytes (a ∷ l) = bytes a ++ each bytes l

-- the words of all items together
abbrev pub sizes : {A : Type 0} → (A → ℕ) → List A → ℕ
sizes size [] = 0
sizes size (a ∷ l) = size a + sizes size l
