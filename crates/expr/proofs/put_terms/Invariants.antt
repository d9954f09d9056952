use Rattle.std.proofs.Common.{◌≡◌, ◌+◌, drop}
use Rattle.std.proofs.lemmas.List.Edits.{sets}
use Rattle.expr.specs.Equation.{term_words}
use Rattle.expr.specs.Weighted.{terms_of}
use Rattle.expr.proofs.put_terms.Given as goal

-- what is left of the terms, stored behind those that are, gives the store with all of them
abbrev pub invariant-loop-i : goal.invariant-loop-i
invariant-loop-i l = sets l.out (l.at + (l.i + l.i)) (term_words (terms_of (drop l.i l.terms))) ≡ sets l.initial.out l.at (term_words (terms_of l.terms))
