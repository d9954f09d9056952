-- Linear equations (the source's expr.rs and `LinearEquation`): terms in order and an image, and the words
-- that hold them in a store. Assumes nothing.
use Rattle.std.specs.Prelude.{ℕ, zero, suc, ◌+◌, ◌*◌, Bool, true, ◌&&◌, List, [], ◌∷◌, ◌++◌, eqb, ltb, leb, length, drop, get_or, set}
use Rattle.limits.specs.Numbers.{prime, max_count, word_end}
use Rattle.limits.specs.Questions.{pick, Question, question}
use Rattle.words.specs.Store.{all_below, fit_words}

-- a wire scaled by a constant: weight · var (the source's `Weighted`)
pub record Term : Type 0 where
  pub var : ℕ
  pub weight : ℕ

-- the sum of the terms is the image
pub record Equation : Type 0 where
  pub terms : List Term
  pub image : ℕ

-- the equation of these terms and this image
abbrev pub equation : List Term → ℕ → Equation
equation terms image = record { terms = terms; image = image }

-- the wires of the terms, in order
abbrev pub term_vars : List Term → List ℕ
term_vars [] = []
term_vars (t ∷ ts) = t.var ∷ term_vars ts

-- the weights of the terms, in order
abbrev pub term_weights : List Term → List ℕ
term_weights [] = []
term_weights (t ∷ ts) = t.weight ∷ term_weights ts

-- 3 over all wires, then 4 over all weights
abbrev pub terms_asks : List Term → List Question
terms_asks terms = question 3 (all_below max_count (term_vars terms)) ∷ question 4 (all_below prime (term_weights terms)) ∷ []

-- ---- in a store: the term count, then wire and weight per term, then the image
-- the words of the terms: each one's wire and weight, in order
abbrev pub term_words : List Term → List ℕ
term_words [] = []
term_words (t ∷ ts) = t.var ∷ t.weight ∷ term_words ts

-- the words of an equation: how many terms, the terms, the image
abbrev pub equation_words : Equation → List ℕ
equation_words e = length e.terms ∷ (term_words e.terms ++ (e.image ∷ []))

-- how many words an equation of t terms takes
abbrev pub equation_size : ℕ → ℕ
equation_size t = 2 + 2 * t

-- a store with an equation's words at place `at`, where its count of terms is a word (below 2^32) and the
-- store holds them, else as it is
abbrev pub fit_equation : ℕ → Equation → List ℕ → List ℕ
fit_equation at e s = pick (ltb (length e.terms) word_end) (fit_words at (equation_words e) s) s

-- is the count t a word, and does a store of len words hold an equation of t terms at place `at`?
abbrev pub equation_fits : (at t len : ℕ) → Bool
equation_fits at t len = ltb t word_end && leb (at + equation_size t) len

-- a store with the ends of an equation of t terms at place `at`, its count and its image
abbrev pub put_ends : (at t image : ℕ) → List ℕ → List ℕ
put_ends at t image s = set (set s at t) (at + 1 + 2 * t) image

-- equations one after the other
abbrev pub equations_words : List Equation → List ℕ
equations_words [] = []
equations_words (e ∷ es) = equation_words e ++ equations_words es

-- ---- the same read back, by counts
-- the first t terms that the words hold; where they end, zeros
abbrev pub terms_at : ℕ → List ℕ → List Term
terms_at zero s = []
terms_at (suc t) s = record { var = get_or s 0 0; weight = get_or s 1 0 } ∷ terms_at t (drop 2 s)

-- the equation at the front of the words, by the count that stands first
unfoldable pub equation_at : List ℕ → Equation
equation_at s = equation (terms_at (get_or s 0 0) (drop 1 s)) (get_or (drop 1 s) (2 * get_or s 0 0) 0)

-- and how many words it takes, by that count
unfoldable pub size_at : List ℕ → ℕ
size_at s = equation_size (get_or s 0 0)

-- the first m equations that the words hold
abbrev pub equations_at : ℕ → List ℕ → List Equation
equations_at zero s = []
equations_at (suc m) s = equation_at s ∷ equations_at m (drop (size_at s) s)

-- and how many words they take
abbrev pub equations_end : ℕ → List ℕ → ℕ
equations_end zero s = 0
equations_end (suc m) s = size_at s + equations_end m (drop (size_at s) s)

-- do m equations end exactly at the end of the words?
abbrev pub ends_right : ℕ → List ℕ → Bool
ends_right m s = eqb (equations_end m s) (length s)

-- held wires below 2^30, held weights and images below p
abbrev pub equations_held : List Equation → Bool
equations_held [] = true
equations_held (e ∷ es) =
    all_below max_count (term_vars e.terms)
    && (all_below prime (term_weights e.terms) && (ltb e.image prime && equations_held es))
