-- What it is that a trace satisfies a ledger, over any notion of evaluation; and 01's own. Assumes nothing.
use Rattle.std.specs.Prelude.{ℕ, ◌+◌, ◌*◌, ◌%◌, ◌<◌, ◌≡◌, true, List, [], ◌∷◌, length, take, drop}
use Rattle.std.proofs.Math.Option.{some}
use Rattle.limits.specs.Numbers.{prime}
use Rattle.words.specs.Store.{All}
use Rattle.allocator.specs.Values.{Values, is_some}
use Rattle.expr.specs.Equation.{Term}
use Rattle.permute.specs.Permute.{Parameters, permute}
use Rattle.validity.specs.Values.{or_zero, cells}
use Rattle.history.specs.Ledger.{Ledger, known}

-- an assignment gives each known wire one unit, and no other wire any
pub record Assignment (ledger : Ledger) (f : Values) : Type 0 where
  pub domain : (x : ℕ) → is_some (f x) ≡ known ledger x
  pub units : (x v : ℕ) → f x ≡ some v → v < prime

-- weight times unit, summed over the terms, in the numbers
abbrev pub total : Values → List Term → ℕ
total f [] = 0
total f (t ∷ ts) = t.weight * or_zero (f t.var) + total f ts

-- the assignment gives wire 0 the unit 0, each term's wire a value, each set wire its unit, each cell of a
-- query the unit of its step, and its sums are the images modulo p
pub record Satisfies (ledger : Ledger) (trace : List (List ℕ)) (f : Values) : Type 0 where
  pub zeroth : f 0 ≡ some 0
  pub named : All (λ e. All (λ t. known ledger t.var ≡ true) e.terms) ledger.equations
  pub sets : All (λ p. f p.var ≡ some p.value) ledger.sets
  pub traced : All (λ p. f p.var ≡ some p.value) (cells ledger.queries trace)
  pub holds : All (λ e. total f e.terms % prime ≡ e.image) ledger.equations

-- one step per query, every step an evaluation, and an assignment that satisfies all
pub record Sat (Evaluation : List ℕ → Type 0) (ledger : Ledger) (trace : List (List ℕ)) : Type 0 where
  pub steps : length trace ≡ length ledger.queries
  pub evaluated : All Evaluation trace
  pub f : Values
  pub assignment : Assignment ledger f
  pub satisfies : Satisfies ledger trace f

-- "a step is an evaluation if the sheet turns its first w units into its last w"
abbrev pub Evaluates : ℕ → Parameters → List ℕ → Type 0
Evaluates w params step = permute params (take w step) ≡ drop w step
