-- Words of a lent store. Assumes nothing.
use Rattle.std.specs.Prelude.{ℕ, ◌+◌, ◌≡◌, List, [], ◌∷◌, ◌++◌, length, take, drop, leb}
use Rattle.limits.specs.Questions.{pick}
-- every word is below the bound
unfoldable pub use Rattle.limits.specs.Below.{all_below}

-- the store with the words in the place of as many of its own, from place `at` on
abbrev pub put_words : ℕ → List ℕ → List ℕ → List ℕ
put_words at words s = take at s ++ (words ++ drop (at + length words) s)

-- the same where the store holds the words, else the store as it is
abbrev pub fit_words : ℕ → List ℕ → List ℕ → List ℕ
fit_words at words s = pick (leb (at + length words) (length s)) (put_words at words s) s

-- every element of a list has the property
abbrev pub All : {A : Type 0} → (A → Type 0) → List A → Type 0
All P [] = Unit {0}
All P (a ∷ l) = P a × All P l

-- a store begins with these words, whatever lies behind them
pub record Begins (words store : List ℕ) : Type 0 where
  pub rest : List ℕ
  pub is : store ≡ words ++ rest
