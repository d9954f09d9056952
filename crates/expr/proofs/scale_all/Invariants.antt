use Rattle.std.proofs.Common.{◌≡◌, ◌++◌, take, drop, map}
use Rattle.expr.specs.Weighted.{scaled_by}
use Rattle.expr.proofs.scale_all.Given as goal

-- the first terms are scaled, the others as they were
abbrev pub invariant-loop-t : goal.invariant-loop-t
invariant-loop-t l =
    (take l.t-index l.terms ++ map (scaled_by l.factor.0) (drop l.t-index l.terms)) ≡ map (scaled_by l.factor.0) l.initial.terms
