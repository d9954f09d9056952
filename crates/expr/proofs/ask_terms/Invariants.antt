use Rattle.std.proofs.Common.{◌≡◌}
use Rattle.limits.specs.Numbers.{prime, max_count}
use Rattle.words.specs.Store.{all_below}
use Rattle.expr.specs.Equation.{term_vars, term_weights}
use Rattle.expr.specs.Weighted.{terms_of}
use Rattle.expr.proofs.Terms.{wires_from, weights_from}
use Rattle.expr.proofs.ask_terms.Given as goal

-- what is said of the terms before, and of those that are left, is what is said of all
abbrev pub invariant-loop-t : goal.invariant-loop-t
invariant-loop-t l =
    (all_below max_count (term_vars (terms_of l.terms)) ≡ wires_from l.terms l.t-index l.wires)
    × (all_below prime (term_weights (terms_of l.terms)) ≡ weights_from l.terms l.t-index l.weights)
