-- Which parts and steps have a byte form, and what a read then still asks of them. Assumes nothing.
use Rattle.std.specs.Prelude.{ℕ, ◌+◌, ◌*◌, ◌<◌, ◌≡◌, true, List, [], ◌∷◌, ◌++◌, leb, length}
use Rattle.limits.specs.Numbers.{prime, max_count}
use Rattle.limits.specs.Questions.{Question, question}
use Rattle.words.specs.Store.{All}
use Rattle.words.specs.Pieces.{words_of}
use Rattle.utf8.specs.Utf8.{is_utf8}
use Rattle.narg.specs.Bytes.{word_end}
use Rattle.allocator.specs.Slots.{Pair}
use Rattle.expr.specs.Equation.{Term, Equation, equations_words}
use Rattle.instance.specs.Parts.{Parts}
use Rattle.validated.specs.Validated.{gate_asks}
-- what was got after some questions
pub use Rattle.items.specs.Answers.{got_after}
use Rattle.parts.specs.Read.{Rooms, increasing}
use Rattle.decoding.specs.Read.{Rule}

-- ---- sound items: wires are below 2^30, units below p
-- of a public
pub record SoundPair (p : Pair) : Type 0 where
  pub var : p.var < max_count
  pub value : p.value < prime

-- of a term
pub record SoundTerm (t : Term) : Type 0 where
  pub var : t.var < max_count
  pub weight : t.weight < prime

-- a term count is a word
pub record SoundEquation (e : Equation) : Type 0 where
  pub count : length e.terms < word_end
  pub terms : All SoundTerm e.terms
  pub image : e.image < prime

-- a query has 2w wires, a step 2w units
pub record SoundPiece (bound width : ℕ) (piece : List ℕ) : Type 0 where
  pub cells : length piece ≡ width + width
  pub words : All (λ x. x < bound) piece

-- ---- sound files: items are sound, counts are words, the label is UTF-8
-- of SFRI
pub record SoundFile (width : ℕ) (label : List ℕ) (parts : Parts) : Type 0 where
  pub width_fits : width < word_end
  pub label_length : length label < word_end
  pub label_utf8 : is_utf8 label ≡ true
  pub vars : parts.vars < word_end
  pub publics_count : length parts.publics < word_end
  pub publics : All SoundPair parts.publics
  pub queries_count : length parts.queries < word_end
  pub queries : All (SoundPiece max_count width) parts.queries
  pub equations_count : length parts.equations < word_end
  pub equations : All SoundEquation parts.equations

-- of SFRW
pub record SoundSteps (width : ℕ) (steps : List (List ℕ)) : Type 0 where
  pub width_fits : width < word_end
  pub count : length steps < word_end
  pub pieces : All (SoundPiece prime width) steps

-- ---- what a read asks of the parts that sound bytes hold
-- 10: does each store hold its part?
abbrev pub room_asks : ℕ → Rooms → Parts → List Question
room_asks width rooms parts =
    question 10 (leb (2 * length parts.publics) rooms.publics)
    ∷ question 10 (leb (words_of width (length parts.queries)) rooms.queries)
    ∷ question 10 (leb (length (equations_words parts.equations)) rooms.equations)
    ∷ []

-- 27, then what the read's rule asks, then 16 and 12 to 15
abbrev pub order_asks : Rule → Rooms → Parts → List Question
order_asks rule rooms parts =
    question 27 (increasing parts.publics) ∷ (rule parts ++ gate_asks parts rooms.scratch)
