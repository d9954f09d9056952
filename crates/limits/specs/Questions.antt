-- Questions in order, and the number of the first that says no.
--
-- Document 01: "Only the questions that fit a call are put, in this order", and a call answers a result, or
-- the number of the first question that says no. A call's questions are a list, written in that order, and
-- its number is `first_no` of the list: 0 where every question says yes. Assumes nothing.
use Rattle.std.specs.Prelude.{ℕ, zero, suc, Bool, true, false, List, [], ◌∷◌, ◌++◌}

-- the first where the test says yes, else the second
abbrev pub pick : {A : Type 0} → Bool → A → A → A
pick true a b = a
pick false a b = b

-- one question put: 0 where it says yes, else its number
unfoldable pub ask : ℕ → Bool → ℕ
ask k says = pick says 0 k

-- the first no of two: the left one, or the right one where the left is 0
unfoldable pub first_of_two : ℕ → ℕ → ℕ
first_of_two zero b = b
first_of_two (suc k) b = suc k

infixr 20 ◌▸◌
abbrev pub ◌▸◌ : ℕ → ℕ → ℕ
a ▸ b = first_of_two a b

-- a question of document 01: its number, and what it says
pub record Question : Type 0 where
  pub number : ℕ
  pub says : Bool

-- question k, which says this
abbrev pub question : ℕ → Bool → Question
question k says = record { number = k; says = says }

-- the number of the first question that says no, or 0
abbrev pub first_no : List Question → ℕ
first_no [] = 0
first_no (q ∷ qs) = ask q.number q.says ▸ first_no qs

-- groups of questions, put one after the other
abbrev pub in_turn : List (List Question) → List Question
in_turn [] = []
in_turn (g ∷ gs) = g ++ in_turn gs

-- by a number: the first where it is 0, else the second
abbrev pub on_yes : {A : Type 0} → ℕ → A → A → A
on_yes zero a b = a
on_yes (suc k) a b = b
