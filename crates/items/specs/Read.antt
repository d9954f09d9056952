-- The lists of both byte forms read, item by item in document 01's order (the source's `from_bytes`): a count, and as
-- many items, with 10 once an item has been read. Assumes nothing.
use Rattle.std.specs.Prelude.{ℕ, ◌+◌, List, length}
use Rattle.limits.specs.Numbers.{prime, max_count}
use Rattle.narg.specs.Reader.{Reader, ◌>>=◌, give, word, below, wire, unit, times, items}
use Rattle.allocator.specs.Slots.{Pair, pair}
use Rattle.expr.specs.Equation.{Term, Equation, equation, equation_size}

-- ---- items
-- a public: its wire (3), its unit (4)
abbrev pub read_pair : Reader Pair
read_pair = wire >>= λ x. unit >>= λ v. give (pair x v)

-- a query or a step: 2w words below the bound, else k
abbrev pub read_piece : (bound k width : ℕ) → Reader (List ℕ)
read_piece bound k width = times (below bound k) (width + width)

-- a term: its wire (3), its weight (4)
abbrev pub read_term : Reader Term
read_term = wire >>= λ x. unit >>= λ v. give (record { var = x; weight = v })

-- an equation: how many terms, these, the image (4)
abbrev pub read_equation : Reader Equation
read_equation = word >>= λ n. times read_term n >>= λ ts. unit >>= λ v. give (equation ts v)

-- how many words an item takes in its store
abbrev pub pair_size : Pair → ℕ
pair_size p = 2

-- a query or a step has 2w words
abbrev pub piece_size : ℕ → List ℕ → ℕ
piece_size width piece = width + width

-- an equation has its term count, two words a term, and its image
abbrev pub size_of : Equation → ℕ
size_of e = equation_size (length e.terms)

-- ---- lists, into a store of that many words
-- how many publics, and these
unfoldable pub read_publics : ℕ → Reader (List Pair)
read_publics room = word >>= λ n. items read_pair pair_size room 0 n

-- how many pieces, and these
abbrev pub read_pieces : (bound k width room : ℕ) → Reader (List (List ℕ))
read_pieces bound k width room = word >>= λ n. items (read_piece bound k width) (piece_size width) room 0 n

-- queries are pieces of wires (3)
unfoldable pub read_queries : (width room : ℕ) → Reader (List (List ℕ))
read_queries width room = read_pieces max_count 3 width room

-- steps are pieces of units (4)
unfoldable pub read_steps : (width room : ℕ) → Reader (List (List ℕ))
read_steps width room = read_pieces prime 4 width room

-- how many equations, and these
unfoldable pub read_equations : ℕ → Reader (List Equation)
read_equations room = word >>= λ n. items read_equation size_of room 0 n
