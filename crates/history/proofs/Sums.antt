-- The check's running sum, reduced at each term, is the sum of the products modulo p.
--
-- By induction on the terms, with the reduced start. Assumes nothing.
use Prim.Native.Nat.{ℕ, ◌+◌, ◌*◌, ◌%◌}
use mathlib.Core.Path.{◌≡◌, ap, ◌∙◌}
use mathlib.Core.List.{List, [], ◌∷◌}
use native.Mathlib.Omega.{arith}
use Rattle.limits.specs.Numbers.{prime}
use Rattle.baby_bear.specs.Field.{add_unit, mul_unit}
use Rattle.allocator.specs.Values.{Values}
use Rattle.expr.specs.Equation.{Term}
use Rattle.validity.specs.Values.{or_zero}
use Rattle.validity.specs.Check.{sum_from}
use Rattle.history.specs.Sat.{total}

mods : (a b c : ℕ) → ((a % prime + b % prime) + c) % prime ≡ (a + (b + c)) % prime
mods a b c = omega arith

sum-total : (a : ℕ) (g : Values) (ts : List Term) → sum_from (a % prime) g ts ≡ (a + total g ts) % prime
unfolding add_unit mul_unit
sum-total a g [] = omega arith
sum-total a g (t ∷ ts) =
    let m = t.weight * or_zero (g t.var) in
    sum-total (a % prime + m % prime) g ts ∙ mods a m (total g ts)

pub sum_is : (g : Values) (ts : List Term) → sum_from 0 g ts ≡ total g ts % prime
sum_is g ts = sum-total 0 g ts ∙ ap (λ (n : ℕ). n % prime) (omega arith)
