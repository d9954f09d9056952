-- What provers insist on (document 02, R-7): an instance lists wire 0 with value 0. Assumes nothing.
use Rattle.std.specs.Prelude.{ℕ, Bool, false, ◌&&◌, ◌||◌, List, [], ◌∷◌, eqb, ltb}
use Rattle.limits.specs.Questions.{Question, question}
use Rattle.allocator.specs.Slots.{Pair}
use Rattle.instance.specs.Parts.{Parts}

-- is this wire 0 with value 0?
abbrev pub is_zero_pair : Pair → Bool
is_zero_pair p = eqb p.var 0 && eqb p.value 0

-- do the publics list it?
abbrev pub lists_zero : List Pair → Bool
lists_zero [] = false
lists_zero (p ∷ ps) = is_zero_pair p || lists_zero ps

-- are there wires, and is wire 0 listed with value 0?
abbrev pub has_zero_wire : Parts → Bool
has_zero_wire parts = ltb 0 parts.vars && lists_zero parts.publics

-- 46
abbrev pub zero_wire_asks : Parts → List Question
zero_wire_asks parts = question 46 (has_zero_wire parts) ∷ []

-- ---- as it is asked after 27: where the wires strictly increase, wire 0 can only stand first
-- is the first pair wire 0 with value 0?
abbrev pub zero_first : List Pair → Bool
zero_first [] = false
zero_first (p ∷ ps) = is_zero_pair p

-- so asked of a wire count and pairs; where 27 says yes, that is `has_zero_wire` (proofs/Zero.starts-where-listed)
abbrev pub starts_at_zero : (vars : ℕ) → List Pair → Bool
starts_at_zero vars ps = ltb 0 vars && zero_first ps
