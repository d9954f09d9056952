-- A question that was put, and what follows it: what a whole of the two answers. Assumes nothing.
use Prim.Native.Nat.{ℕ, suc}
use mathlib.Core.Path.{◌≡◌, refl, ap, ◌∙◌}
use mathlib.Core.Bool.{Bool, true, false}
use Rattle.std.specs.Prelude.{Ok, Err}
use Rattle.limits.specs.Questions.{ask, first_of_two, ◌▸◌}
use Rattle.limits.specs.Outcome.{Outcome, asked, outcome_of}
use Rattle.limits.specs.declared.Refused.{Refused}

-- where it said no, the whole is refused with its number
pub asked-no : (k : ℕ) (b : Bool) (rest whole : ℕ) → ask (suc k) b ▸ rest ≡ whole → {e : Refused} {r : Outcome} → r ≡ asked (suc k) b → r ≡ Err e
    → r ≡ outcome_of whole
unfolding ask first_of_two
asked-no k true rest whole w is was = cc
asked-no k false rest whole w is was = is ∙ ap outcome_of w

-- where it said yes, what follows is left
pub asked-yes : (k : ℕ) (b : Bool) (rest whole : ℕ) → ask (suc k) b ▸ rest ≡ whole → {u : Unit {0}} {r : Outcome} → r ≡ asked (suc k) b → r ≡ Ok u → rest ≡ whole
unfolding ask first_of_two
asked-yes k true rest whole w is was = w
asked-yes k false rest whole w is was = cc

-- and its test holds
pub asked-true : (k : ℕ) (b : Bool) {u : Unit {0}} {r : Outcome} → r ≡ asked k b → r ≡ Ok u → b ≡ true
asked-true k true is was = refl
asked-true k false is was = cc
